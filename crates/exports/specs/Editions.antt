-- What the calls over clusters by an edition of UAX #29 tell, and what stands in the lent columns afterwards.
use Rattle.std.specs.Prelude.{ℕ, Bool, ◌||◌, List, [], ◌∷◌, eqb, ltb, length}
use Rattle.records.specs.Refusals.{◌⊳◌}
use Rattle.records.specs.Written.{written_under}
use Rattle.records.specs.Verdict.{Verdict}
use Rattle.uax29.specs.declared.editions.EditionState.{EditionState}
use Rattle.uax29.specs.declared.editions.EditionStep.{EditionStep}
use Rattle.uax29.specs.EditionStep.{step_in}
use Rattle.uax29.specs.EditionRuns.{start_in, edition_check, edition_verdict}
use Rattle.exports.specs.declared.KeptIn.{KeptIn}
use Rattle.exports.specs.Results.{check_room, edition_room, tight, mark_code, Answered}
use Rattle.exports.specs.States.{narrow, judged, SteppedIn}
use Rattle.exports.specs.Graphemes.{kept_of, bad_kept, after_state, after_kept}

-- # The check and the runs

unfoldable pub check_edition_verdict : ℕ → List ℕ → List ℕ → List ℕ → ℕ → Verdict
check_edition_verdict edition breaks emojis conjuncts cells = tight cells check_room ⊳ edition_check edition breaks emojis conjuncts

-- the output column after a run
abbrev pub edition_under : Verdict → ℕ → List ℕ → List ℕ → List ℕ → List ℕ → List ℕ
edition_under v edition breaks emojis conjuncts out = written_under v (start_in edition breaks emojis conjuncts) (length breaks) out

-- both engines have this one definition
abbrev pub EditionRan : ℕ → List ℕ → List ℕ → List ℕ → List ℕ → List ℕ → ℕ → List ℕ → List ℕ → Type 0
EditionRan edition breaks emojis conjuncts out results =
    Answered (tight (length results) check_room ⊳ edition_verdict edition breaks emojis conjuncts (length out))
    (λ v. edition_under v edition breaks emojis conjuncts out) results

-- # The step

-- the state that a caller gives: that of 15.0, and two marks more
abbrev pub kept_in_of : KeptIn → EditionState
kept_in_of k = record { graphemes = kept_of k.kept; link = record { begun = eqb k.begun 1; linked = eqb k.linked 1 } }

-- a mark that is neither 0 nor 1
abbrev pub bad_kept_in : KeptIn → Bool
bad_kept_in k = bad_kept k.kept || (ltb 1 k.begun || ltb 1 k.linked)

abbrev pub edition_from : ℕ → KeptIn → ℕ → ℕ → ℕ → EditionStep
edition_from edition k class emoji conjunct = step_in edition (kept_in_of k) (narrow class) (narrow emoji) (narrow conjunct)

unfoldable pub edition_judged : KeptIn → EditionStep → Verdict
edition_judged k s = judged s.verdict (bad_kept_in k)

-- the results after the first three: previous, odd, extended, joined, begun, linked, answer
abbrev pub edition_after : EditionStep → List ℕ
edition_after s =
    after_state s.state.graphemes (mark_code s.state.link.begun ∷ mark_code s.state.link.linked ∷ s.answer ∷ [])

abbrev pub edition_given : KeptIn → List ℕ
edition_given k = after_kept k.kept (k.begun ∷ k.linked ∷ 0 ∷ [])

abbrev pub EditionStepFor : ℕ → KeptIn → ℕ → ℕ → ℕ → List ℕ → ℕ → List ℕ → Type 0
EditionStepFor edition k class emoji conjunct =
    let s = edition_from edition k class emoji conjunct in SteppedIn edition_room (edition_judged k s) (edition_given k) (edition_after s)
