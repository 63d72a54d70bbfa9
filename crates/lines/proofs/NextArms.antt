-- The step of `next`: what it accepts, the word machine accepts. Assumes nothing.
use Rattle.std.specs.Prelude.{Ok}
use Prim.Native.Nat.{ℕ}
use mathlib.Core.Path.{◌≡◌, sym, ◌∙◌}
use mathlib.Core.Bool.{false}
use mathlib.Core.List.{List}
use lib.Dec.{leb}
use Rattle.basics.proofs.Tests.{neither}
use Rattle.records.specs.Refusals.{refuse, ◌⊳◌}
use Rattle.records.specs.declared.Side.TheVariants.{Record, Neither}
use Rattle.records.specs.Verdict.{Verdict}
use Rattle.words.specs.Rules.{ruled}
use Rattle.words.specs.Step as Words
use Rattle.words.specs.Next.{Next}
use Rattle.words.specs.declared.WordStep.{WordStep}
use Rattle.lines.specs.LineBreak as LineBreak
use Rattle.lines.specs.Rules.{line_answer, line_after, or_word}
use Rattle.lines.specs.Refusals.{bad_table, bad_state, judged}
use Rattle.lines.specs.NextStep.{bad_record, bad_states, next_verdict, next_ruled, next_of}
use Rattle.lines.specs.declared.Strength.{Strength}
use Rattle.lines.specs.declared.Boundary.{Boundary}
use Rattle.lines.specs.declared.LineState.{LineState}
use Rattle.lines.specs.declared.BoundaryState.{BoundaryState}
use Rattle.records.proofs.Verdicts.{passes, unrefused}

-- what `next` accepts, both machines accept
module _ (table : List ℕ) (s : BoundaryState) (line word pictograph : ℕ) (next : Next) (good : next_verdict table s line word pictograph next ≡ Ok tt) where
  parts : (bad_table table ≡ false) × ((bad_record line word pictograph next ≡ false) × (bad_states table s ≡ false))
  unfolding next_verdict judged
  parts =
      let p : _ = passes (refuse (bad_table table) 10 Neither 0) (refuse (bad_record line word pictograph next) 4 Record 0 ⊳ refuse (bad_states table s) 8 Neither 0) good in
      let q : _ = passes (refuse (bad_record line word pictograph next) 4 Record 0) (refuse (bad_states table s) 8 Neither 0) p.1 in
      (unrefused _ 10 Neither 0 p.0, (unrefused _ 4 Record 0 q.0, unrefused _ 8 Neither 0 q.1))

  word_passes : Words.step_verdict s.word word pictograph next ≡ Ok tt
  unfolding Words.step_verdict
  word_passes =
      rw ((neither (leb LineBreak.len line) (Words.bad_record word pictograph next) parts.1.0).1, (neither (bad_state table s.line) (Words.bad_state s.word) parts.1.1).1)

  pub word_steps : Words.step_of s.word word pictograph next ≡ ruled s.word word pictograph next
  word_steps = rw word_passes

-- v is what the judge said, w what the word machine's step handed back
pub next_passed : (strength : Strength) (table : List ℕ) (s : BoundaryState) (line word pictograph : ℕ) (next : Next) (v : Verdict) (w : WordStep) (l : LineState) (a b : Boundary) → v ≡ next_verdict table s line word pictograph next → v ≡ Ok tt → w ≡ Words.step_of s.word word pictograph next → l ≡ line_after table s.line line → a ≡ line_answer strength table s.line line → b ≡ or_word a w.answer → record { state = record { line = l; word = w.state }; answer = b; verdict = Ok tt } ≡ next_of strength table s line word pictograph next
unfolding next_ruled
next_passed strength table s line word pictograph next v w l a b e h f k m n =
    let u : w ≡ ruled s.word word pictograph next = f ∙ word_steps table s line word pictograph next (sym e ∙ h) in
    rw (← e, h, n, m, k, u)
