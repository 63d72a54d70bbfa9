-- The engine that goes forward, by an edition: what GB9c needs beside the state of 15.0 and no more, and the step (SCOPE 12.6).
use Rattle.std.specs.Prelude.{ℕ, Bool, false, cond, not, ◌&&◌, ◌||◌, List, [], ◌∷◌, eqb, Ok, Err}
use Rattle.basics.specs.Sets.{member}
use Rattle.classes.specs.ClusterBreak as ClusterBreak
use Rattle.records.specs.Refusals.{refuse, ◌⊳◌, coded, mark, outside}
use Rattle.records.specs.declared.Side.TheVariants.{Record, Neither}
use Rattle.records.specs.Verdict.{Verdict}
use Rattle.uax29.specs.Conjunct.{Consonant, Linker}
use Rattle.uax29.specs.Conjunct as Conjunct
use Rattle.uax29.specs.Clusters.{Item, Rule, ◌⨯◌, decide, GB1, GB2, GB3, GB4, GB5, GB6, GB7, GB8, GB9, GB9a, GB9b, GB11, GB12, GB999}
use Rattle.uax29.specs.Editions.{joiners, begun, GB9c}
use Rattle.uax29.specs.EditionRuns.{unknown}
use Rattle.uax29.specs.GraphemeStep as Graphemes
use Rattle.uax29.specs.GraphemeStep.{no_class, summary, advance, kept_rules, near}
use Rattle.uax29.specs.declared.conjoined.Link.{Link}
use Rattle.uax29.specs.declared.editions.EditionState.{EditionState}
use Rattle.uax29.specs.declared.editions.EditionStep.{EditionStep}

-- # The state

abbrev pub no_link : Link
no_link = record { begun = false; linked = false }

abbrev pub start_state : EditionState
start_state = record { graphemes = Graphemes.start_state; link = no_link }

-- what the rules ask of all the records before a place: as in 15.0, and the left side of GB9c, without its linker and with it
unfoldable pub summary_in : List Item → EditionState
summary_in before = record { graphemes = summary before; link = record { begun = begun before; linked = GB9c.before before } }

-- the link behind one more record
unfoldable pub link_after : Link → ℕ → Link
link_after l conjunct =
    record {
      begun = eqb conjunct Consonant || (member joiners conjunct && l.begun);
      linked = (eqb conjunct Linker && l.begun) || (member joiners conjunct && l.linked);
    }

unfoldable pub advance_in : EditionState → Item → EditionState
advance_in s x = record { graphemes = advance s.graphemes x; link = link_after s.link x.conjunct }

-- # The answer

-- the rules of an edition, asked of the state
unfoldable pub kept_in : ℕ → EditionState → List Rule
kept_in edition s =
    cond (eqb edition 151)
    (GB1 ∷ GB2 ∷ GB3 ∷ GB4 ∷ GB5 ∷ GB6 ∷ GB7 ∷ GB8 ∷ GB9 ∷ GB9a ∷ GB9b
    ∷ ((λ xs. s.link.linked) ⨯ GB9c.after)
    ∷ ((λ xs. s.graphemes.joined) ⨯ GB11.after)
    ∷ ((λ xs. s.graphemes.odd) ⨯ GB12.after)
    ∷ GB999
    ∷ [])
    (kept_rules s.graphemes)

unfoldable pub starts_in : ℕ → EditionState → Item → Bool
starts_in edition s x = decide (kept_in edition s) (near s.graphemes) (x ∷ [])

-- # The step

abbrev pub item_of : ℕ → ℕ → ℕ → Item
item_of kind marked conjunct = record { kind = kind; mark = marked; conjunct = conjunct }

-- 4, of any of the three codes
abbrev pub bad_record_in : ℕ → ℕ → ℕ → Bool
bad_record_in kind marked conjunct = outside (coded kind ClusterBreak.len ∷ coded conjunct Conjunct.len ∷ mark marked ∷ [])

-- 8: a state that no text leads to
abbrev pub bad_link : Link → ℕ → Bool
bad_link l previous = (l.linked && not l.begun) || (l.begun && eqb previous no_class)

abbrev pub bad_state_in : EditionState → Bool
bad_state_in s = Graphemes.bad_state s.graphemes || bad_link s.link s.graphemes.previous

-- 15 first, then 4 of the record, index 0, then 8
unfoldable pub step_verdict_in : ℕ → EditionState → ℕ → ℕ → ℕ → Verdict
step_verdict_in edition s kind marked conjunct =
    refuse (unknown edition) 15 Neither 0 ⊳ refuse (bad_record_in kind marked conjunct) 4 Record 0 ⊳ refuse (bad_state_in s) 8 Neither 0

-- with a refusal the state that it was given and the answer 0
abbrev pub step_under_in : Verdict → ℕ → EditionState → ℕ → ℕ → ℕ → EditionStep
step_under_in (Ok _) edition s kind marked conjunct =
    let x = item_of kind marked conjunct in
    record { state = advance_in s x; answer = cond (starts_in edition s x) 1 0; verdict = Ok tt }
step_under_in (Err r) edition s kind marked conjunct = record { state = s; answer = 0; verdict = Err r }

abbrev pub step_in : ℕ → EditionState → ℕ → ℕ → ℕ → EditionStep
step_in edition s kind marked conjunct = step_under_in (step_verdict_in edition s kind marked conjunct) edition s kind marked conjunct
