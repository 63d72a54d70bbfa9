-- How the run's check and the run come out. Assumes nothing.
use Rattle.std.specs.Prelude.{Ok}
use Prim.Native.Nat.{ℕ, ◌≤◌}
use mathlib.Core.Path.{◌≡◌, ◌∙◌}
use mathlib.Core.Bool.{false}
use mathlib.Core.List.{List, [], ◌∷◌, ◌++◌}
use native.Mathlib.Omega.{arith}
use lib.ListN.{length, drop}
use lib.Seq.{drop_at}
use borrow.Author.Tests.{le-ltb}
use Rattle.basics.specs.Columns.{cells}
use Rattle.basics.proofs.Columns.{cells_length}
use Rattle.classes.specs.WordBreak as WordBreak
use Rattle.records.specs.Text.{cell}
use Rattle.records.specs.Refusals.{refuse, over, judge_lengths, word_verdict}
use Rattle.records.specs.declared.Side.TheVariants.{Neither}
use Rattle.records.specs.Verdict.{Verdict}
use Rattle.words.specs.Run as Words
use Rattle.lines.specs.LineBreak as LineBreak
use Rattle.lines.specs.Refusals.{bad_table}
use Rattle.lines.specs.Run.{judge_record, check_verdict, run_verdict, run_cells}
use Rattle.lines.specs.Inner.{laid_at}
use Rattle.lines.specs.declared.Strength.{Strength}
use Rattle.records.proofs.Marks.{second_is, three_second}
use Rattle.records.specs.Written.{roomy}
use Rattle.records.proofs.Verdicts.{unrefused, passes}
use Rattle.records.proofs.Written.{ran_checked, ran_long}
use Rattle.lines.proofs.Turns.{merged_all}

-- # What acceptance gives

-- what the line run accepts, the word run accepts
module _ (table lines words pictographs : List ℕ) (accepted : check_verdict table lines words pictographs ≡ Ok tt) where
  pub check_passes : (judge_lengths (length lines ∷ length words ∷ length pictographs ∷ []) [] ≡ Ok tt) × ((bad_table table ≡ false) × (over (λ i. judge_record (cell lines i) (cell words i) (cell pictographs i) i) 0 (length lines) ≡ Ok tt))
  unfolding check_verdict
  check_passes =
      let p = passes (judge_lengths (length lines ∷ length words ∷ length pictographs ∷ []) []) _ accepted in
      let q = passes (refuse (bad_table table) 10 Neither 0) _ p.1 in
      (p.0, (unrefused _ 10 Neither 0 q.0, q.1))

  pub one_length : length words ≡ length lines
  one_length = second_is (length lines) (length words) (length pictographs) check_passes.0

  pub words_accepted : word_verdict words pictographs ≡ Ok tt
  words_accepted = three_second LineBreak.len WordBreak.len lines words pictographs check_passes.0 check_passes.1.1

-- # The run, where w is what the check said, v what was then said of the room
module _ (table lines words pictographs out : List ℕ) (w v : Verdict) (e : w ≡ check_verdict table lines words pictographs) (f : v ≡ roomy w (length lines) (length out)) (h : v ≡ Ok tt) where
  accepted : check_verdict table lines words pictographs ≡ Ok tt
  accepted = ran_checked (λ i. i) (length lines) out _ w v e f h

  long : length lines ≤ length out
  long = ran_long (λ i. i) (length lines) out _ w v e f h

  same : length words ≡ length lines
  same = one_length table lines words pictographs accepted

  -- what the line run accepts, the word run does not refuse
  pub word_run_passes : Words.run_verdict words pictographs (length out) ≡ Ok tt
  unfolding Words.run_verdict
  word_run_passes =
      let room : length words ≤ length out = omega (arith, same, long) in
      rw (words_accepted table lines words pictographs accepted, le-ltb (length out) (length words) room)

  -- out₁ is what the word run left, cells' what the line answers made of it
  pub run_whole : (strength : Strength) (out₁ cells' : List ℕ) → out₁ ≡ Words.run_cells words pictographs out → cells' ≡ cells (laid_at strength table lines out₁) (length lines) ++ drop (length lines) out₁ → cells' ≡ run_cells strength table lines words pictographs out
  unfolding run_verdict
  run_whole strength out₁ cells' q k =
      let g : out₁ ≡ Words.answers words pictographs (length lines) ++ drop (length lines) out =
      q ∙ rw (word_run_passes, same) in
      rw (accepted, le-ltb _ _ long)
      (k ∙ rw (g, merged_all strength table lines words pictographs out (length lines), drop_at (Words.answers words pictographs (length lines)) (drop (length lines) out) (length lines) (cells_length (Words.answer_at words pictographs) (length lines))))
