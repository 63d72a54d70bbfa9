-- What the calls over clusters as UAX #29 has them tell, and what stands in the lent columns afterwards.
use Rattle.std.specs.Prelude.{ℕ, Bool, ◌||◌, List, [], ◌∷◌, eqb, ltb, length}
use Rattle.records.specs.Refusals.{◌⊳◌}
use Rattle.records.specs.Verdict.{Verdict}
use Rattle.uax29.specs.declared.graphemes.GraphemeState.{GraphemeState}
use Rattle.uax29.specs.declared.graphemes.GraphemeStep.{GraphemeStep}
use Rattle.uax29.specs.GraphemeStep.{step_of}
use Rattle.uax29.specs.Graphemes.{grapheme_check, grapheme_verdict, graphemes_under}
use Rattle.exports.specs.declared.Kept.{Kept}
use Rattle.exports.specs.Results.{check_room, grapheme_room, tight, mark_code, Answered}
use Rattle.exports.specs.States.{narrow, judged, SteppedIn}

-- # The check and the runs

unfoldable pub check_graphemes_verdict : List ℕ → List ℕ → ℕ → Verdict
check_graphemes_verdict breaks emojis cells = tight cells check_room ⊳ grapheme_check breaks emojis

-- both engines have this one definition
abbrev pub GraphemesRan : List ℕ → List ℕ → List ℕ → List ℕ → ℕ → List ℕ → List ℕ → Type 0
GraphemesRan breaks emojis out results =
    Answered (tight (length results) check_room ⊳ grapheme_verdict breaks emojis (length out)) (λ v. graphemes_under v breaks emojis out) results

-- # The step

-- the state that a caller gives: but for the class, marks, 0 for no and 1 for yes
abbrev pub kept_of : Kept → GraphemeState
kept_of k = record { previous = narrow k.previous; odd = eqb k.odd 1; extended = eqb k.extended 1; joined = eqb k.joined 1 }

-- a mark that is neither
abbrev pub bad_kept : Kept → Bool
bad_kept k = ltb 1 k.odd || (ltb 1 k.extended || ltb 1 k.joined)

abbrev pub grapheme_from : Kept → ℕ → ℕ → GraphemeStep
grapheme_from k class emoji = step_of (kept_of k) (narrow class) (narrow emoji)

unfoldable pub grapheme_judged : Kept → GraphemeStep → Verdict
grapheme_judged k s = judged s.verdict (bad_kept k)

-- a state as numbers, and more after it
abbrev pub after_state : GraphemeState → List ℕ → List ℕ
after_state s more = s.previous ∷ mark_code s.odd ∷ mark_code s.extended ∷ mark_code s.joined ∷ more

-- and that which was given
abbrev pub after_kept : Kept → List ℕ → List ℕ
after_kept k more = k.previous ∷ k.odd ∷ k.extended ∷ k.joined ∷ more

-- the results after the first three: previous, odd, extended, joined, answer
abbrev pub grapheme_after : GraphemeStep → List ℕ
grapheme_after s =
    s.state.previous ∷ mark_code s.state.odd ∷ mark_code s.state.extended ∷ mark_code s.state.joined ∷ s.answer ∷ []

abbrev pub grapheme_given : Kept → List ℕ
grapheme_given k = k.previous ∷ k.odd ∷ k.extended ∷ k.joined ∷ 0 ∷ []

abbrev pub GraphemeStepFor : Kept → ℕ → ℕ → List ℕ → ℕ → List ℕ → Type 0
GraphemeStepFor k class emoji =
    let s = grapheme_from k class emoji in SteppedIn grapheme_room (grapheme_judged k s) (grapheme_given k) (grapheme_after s)
