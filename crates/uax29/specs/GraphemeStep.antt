-- The engine that goes forward: what it keeps of the records before a place, and its step (SCOPE 12.5).
use Rattle.std.specs.Prelude.{ℕ, Bool, false, cond, not, ◌&&◌, ◌||◌, List, [], ◌∷◌, eqb, ltb, Ok, Err}
use Rattle.classes.specs.ClusterBreak.{RI, EX, ZWJ}
use Rattle.classes.specs.ClusterBreak as ClusterBreak
use Rattle.records.specs.Refusals.{refuse, ◌⊳◌, coded, mark, outside}
use Rattle.records.specs.declared.Side.TheVariants.{Record, Neither}
use Rattle.records.specs.Verdict.{Verdict}
use Rattle.uax29.specs.Clusters.{Item, is, pictographic, Rule, one, many, ◌⨯◌, decide, GB1, GB2, GB3, GB4, GB5, GB6, GB7, GB8, GB9, GB9a, GB9b, GB11, GB12, GB13, GB999}
use Rattle.uax29.specs.declared.graphemes.GraphemeState.{GraphemeState}
use Rattle.uax29.specs.declared.graphemes.GraphemeStep.{GraphemeStep}

-- # The state

-- before the first record: no class of the list
abbrev pub no_class : ℕ
no_class = ClusterBreak.len

abbrev pub start_state : GraphemeState
start_state = record { previous = no_class; odd = false; extended = false; joined = false }

-- the class of the nearest record
abbrev pub class_of : List Item → ℕ
class_of [] = no_class
class_of (x ∷ xs) = x.kind

-- What the rules ask of all the records before a place: the class of the last, whether the left side of GB12 or GB13 stands there, and
-- whether that of GB11 does, without its ZWJ and with it. A marked ZWJ ends one match and begins another, so both are kept.
unfoldable pub summary : List Item → GraphemeState
summary before =
    record {
      previous = class_of before;
      odd = GB12.before before || GB13.before before;
      extended = many (is EX) (one pictographic) before;
      joined = GB11.before before;
    }

-- the state behind one more record
unfoldable pub advance : GraphemeState → Item → GraphemeState
advance s x =
    record {
      previous = x.kind;
      odd = is RI x && not s.odd;
      extended = pictographic x || (is EX x && s.extended);
      joined = is ZWJ x && s.extended;
    }

-- # The answer

-- the rules, asked of the state: GB11, GB12 and GB13 are the three whose left side is more than one record
unfoldable pub kept_rules : GraphemeState → List Rule
kept_rules s =
    GB1 ∷ GB2 ∷ GB3 ∷ GB4 ∷ GB5 ∷ GB6 ∷ GB7 ∷ GB8 ∷ GB9 ∷ GB9a ∷ GB9b
    ∷ ((λ xs. s.joined) ⨯ GB11.after)
    ∷ ((λ xs. s.odd) ⨯ GB12.after)
    ∷ GB999
    ∷ []

-- the last record; its mark is asked by GB11 alone
unfoldable pub near : GraphemeState → List Item
near s = cond (eqb s.previous no_class) [] (record { kind = s.previous; mark = 0; conjunct = 0 } ∷ [])

unfoldable pub starts : GraphemeState → Item → Bool
starts s x = decide (kept_rules s) (near s) (x ∷ [])

-- # The step

abbrev pub item : ℕ → ℕ → Item
item kind mark = record { kind = kind; mark = mark; conjunct = 0 }

-- 4
abbrev pub bad_record : ℕ → ℕ → Bool
bad_record kind marked = outside (coded kind ClusterBreak.len ∷ mark marked ∷ [])

-- 8: "a state that no text leads to"
abbrev pub bad_state : GraphemeState → Bool
bad_state s =
    ltb no_class s.previous
    || (s.odd && not (eqb s.previous RI)
    || (s.joined && not (eqb s.previous ZWJ)
    || (s.extended && eqb s.previous no_class)))

-- 4 of the record, index 0, then 8
unfoldable pub step_verdict : GraphemeState → ℕ → ℕ → Verdict
step_verdict s kind marked = refuse (bad_record kind marked) 4 Record 0 ⊳ refuse (bad_state s) 8 Neither 0

-- with a refusal the state that it was given and the answer 0, as of the word step (SCOPE 5.4)
abbrev pub step_under : Verdict → GraphemeState → ℕ → ℕ → GraphemeStep
step_under (Ok _) s kind marked =
    record { state = advance s (item kind marked); answer = cond (starts s (item kind marked)) 1 0; verdict = Ok tt }
step_under (Err r) s kind marked = record { state = s; answer = 0; verdict = Err r }

abbrev pub step_of : GraphemeState → ℕ → ℕ → GraphemeStep
step_of s kind marked = step_under (step_verdict s kind marked) s kind marked
