-- What is true of every run of `next`: it is the fold of the step, its states never leave the table's rows, and where word stands.
-- Assumes nothing.
use Rattle.std.specs.Prelude.{Ok, Err}
use Prim.Native.Nat.{ℕ, zero, suc, ◌+◌, ◌<◌, ◌≤◌}
use mathlib.Core.Path.{◌≡◌, refl, ap}
use mathlib.Core.Bool.{false}
use mathlib.Core.List.{List, [], ◌∷◌}
use native.Mathlib.Omega.{arith}
use native.Mathlib.Numerals.{add-one}
use lib.Dec.{eqb, leb}
use lib.ListN.{length}
use borrow.Author.Tests.{eqb-true, lt-leb}
use Rattle.basics.proofs.Columns.{written_cell, kept_cell}
use Rattle.basics.proofs.Tests.{by_test, neither}
use Rattle.classes.specs.WordBreak as WordBreak
use Rattle.records.specs.Text.{cell}
use Rattle.records.specs.Refusals.{refuse, outside, coded, mark, judge_three}
use Rattle.records.proofs.Unique.{unique}
use Rattle.records.proofs.Verdicts.{never, unrefused, passes, over_each}
use Rattle.records.specs.declared.Side.TheVariants.{Record, Neither}
use Rattle.records.specs.declared.Refusal.{Refusal}
use Rattle.records.specs.Verdict.{Verdict}
use Rattle.words.specs.Rules.{ruled}
use Rattle.words.specs.Step as Step
use Rattle.words.specs.Run as Words
use Rattle.words.specs.Next.{Next}
use Rattle.words.specs.declared.WordState.{WordState}
use Rattle.words.specs.declared.WordStep.{WordStep}
use Rattle.words.proofs.Laws.{answer_bit, run_folds}
use Rattle.lines.specs.LineBreak as LineBreak
use Rattle.lines.specs.Rules.{boundary_code, line_answer, line_after, or_word}
use Rattle.lines.specs.Refusals.{rows_of, bad_table, bad_previous, bad_state, judged, step_verdict, step_of}
use Rattle.lines.specs.NextStep as NextStep
use Rattle.lines.specs.NextStep.{bad_record, next_verdict, next_ruled, next_of}
use Rattle.lines.specs.Run.{state_at, line_at, boundary_at, answer_at, judge_record, check_verdict, run_verdict, run_cells}
use Rattle.lines.specs.declared.Strength.{Strength}
use Rattle.lines.specs.declared.Boundary.{Boundary}
use Rattle.lines.specs.declared.BoundaryState.{BoundaryState}
use Rattle.lines.specs.declared.BoundaryStep.{BoundaryStep}
use Rattle.lines.proofs.Laws.{enough_rows, row_stays, never_word}
use Rattle.lines.proofs.RunLaws.{check_passes, one_length, words_accepted}

-- both states before the record at an index
abbrev pub both_at : List ℕ → List ℕ → List ℕ → List ℕ → ℕ → BoundaryState
both_at table lines words pictographs i = record { line = state_at table lines i; word = Words.state_at words pictographs i }

-- a run begins in the start states
pub begins : (table lines words pictographs : List ℕ) → both_at table lines words pictographs 0 ≡ NextStep.start_state
unfolding state_at Words.state_at
begins table lines words pictographs = refl

-- what the word step said where it accepted
word_verdict_lem : (s : WordState) (class pictograph : ℕ) (next : Next) (v : Verdict) → (Step.step_under v s class pictograph next).verdict ≡ Ok tt → v ≡ Ok tt
word_verdict_lem s class pictograph next (Ok _) h = refl
word_verdict_lem s class pictograph next (Err r) h = never h

-- a text and a table that the check accepts
module _ (table lines words pictographs : List ℕ) (accepted : check_verdict table lines words pictographs ≡ Ok tt) where
  good_table : bad_table table ≡ false
  good_table = (check_passes table lines words pictographs accepted).1.0

  class_listed : (i : ℕ) → i < length lines → leb LineBreak.len (cell lines i) ≡ false
  unfolding judge_three
  class_listed i h =
      let one : judge_record (cell lines i) (cell words i) (cell pictographs i) i ≡ (Ok tt) =
      over_each (λ k. judge_record (cell lines k) (cell words k) (cell pictographs k) k) (length lines) 0 (check_passes table lines words pictographs accepted).1.1 i (omega arith) (omega arith) in
      (neither (leb LineBreak.len (cell lines i)) (outside (coded (cell words i) WordBreak.len ∷ mark (cell pictographs i) ∷ [])) (unrefused _ 4 Record i one)).0

  -- No state of a run leaves the rows of its table (SCOPE 12.1).
  pub state_rows : (i : ℕ) → (state_at table lines i).row < rows_of table
  unfolding state_at
  state_rows zero = enough_rows table good_table
  state_rows (suc i) = row_stays table (state_at table lines i) (cell lines i) good_table

  state_previous : (i : ℕ) → i ≤ length lines → bad_previous (state_at table lines i).previous ≡ false
  unfolding state_at line_after
  state_previous zero h = refl
  state_previous (suc i) h = class_listed i (omega arith)

  -- The run never meets refusal 8: its line state is never a bad one.
  pub state_good : (i : ℕ) → i ≤ length lines → bad_state table (state_at table lines i) ≡ false
  state_good i h = rw (lt-leb _ _ (state_rows i), state_previous i h)

  -- The line answers are the fold of the line step: the public step, refusals and all, leads from the state before a record to the one
  -- after it and gives the line answer.
  pub line_folds : (strength : Strength) (i : ℕ) → i < length lines
      → step_of strength table (state_at table lines i) (cell lines i)
      ≡ record { state = state_at table lines (i + 1); answer = line_at strength table lines i; verdict = Ok tt }
  unfolding step_verdict judged line_at
  line_folds strength i h =
      let after : state_at table lines (i + 1) ≡ line_after table (state_at table lines i) (cell lines i) = unfold state_at in ap (state_at table lines) (add-one i) in
      rw (good_table, class_listed i h, state_good i (omega arith), after)

  word_fold : (i : ℕ) → i < length lines
      → Step.step_of (Words.state_at words pictographs i) (cell words i) (cell pictographs i) (Words.next_at words (i + 1))
      ≡ record { state = Words.state_at words pictographs (i + 1); answer = Words.answer_at words pictographs i; verdict = Ok tt }
  word_fold i h =
      run_folds words pictographs (words_accepted table lines words pictographs accepted) i (rw (one_length table lines words pictographs accepted) h)

  word_accepts : (i : ℕ) → i < length lines → Step.step_verdict (Words.state_at words pictographs i) (cell words i) (cell pictographs i) (Words.next_at words (i + 1)) ≡ Ok tt
  word_accepts i h = word_verdict_lem _ _ _ _ _ (ap (λ (r : WordStep). r.verdict) (word_fold i h))

  next_accepts : (i : ℕ) → i < length lines → next_verdict table (both_at table lines words pictographs i) (cell lines i) (cell words i) (cell pictographs i) (Words.next_at words (i + 1)) ≡ Ok tt
  unfolding next_verdict judged Step.step_verdict
  next_accepts i h =
      let p : _ = passes (refuse (Step.bad_record (cell words i) (cell pictographs i) (Words.next_at words (i + 1))) 4 Record 0) (refuse (Step.bad_state (Words.state_at words pictographs i)) 8 Neither 0) (word_accepts i h) in
      let record_fine : Step.bad_record (cell words i) (cell pictographs i) (Words.next_at words (i + 1)) ≡ false = unrefused _ 4 Record 0 p.0 in
      let state_fine : Step.bad_state (Words.state_at words pictographs i) ≡ false = unrefused _ 8 Neither 0 p.1 in
      rw (good_table, class_listed i h, record_fine, state_good i (omega arith), state_fine)

  -- The run is the fold of the step of `next`.
  pub next_folds : (strength : Strength) (i : ℕ) → i < length lines
      → next_of strength table (both_at table lines words pictographs i) (cell lines i) (cell words i) (cell pictographs i) (Words.next_at words (i + 1))
      ≡ record { state = both_at table lines words pictographs (i + 1); answer = boundary_at strength table lines words pictographs i; verdict = Ok tt }
  unfolding next_ruled line_at
  next_folds strength i h =
      let after : state_at table lines (i + 1) ≡ line_after table (state_at table lines i) (cell lines i) = unfold state_at in ap (state_at table lines) (add-one i) in
      let w : ruled (Words.state_at words pictographs i) (cell words i) (cell pictographs i) (Words.next_at words (i + 1)) ≡ record { state = Words.state_at words pictographs (i + 1); answer = Words.answer_at words pictographs i; verdict = Ok tt } =
      rw (word_accepts i h) at (word_fold i h) in
      rw (next_accepts i h, w, after)

-- "Word stands only if the line answer is none": the answer is the word run's where the line answer is none, else the line answer's number;
-- and so it is 1 only where the line answer is none.
module _ (strength : Strength) (table lines words pictographs : List ℕ) (i : ℕ) where
  pub where_none : line_at strength table lines i ≡ Boundary.None → answer_at strength table lines words pictographs i ≡ Words.answer_at words pictographs i
  unfolding answer_at
  where_none h = rw h (bit (Words.answer_at words pictographs i) (answer_bit words pictographs i))
    where
      bit : (word : ℕ) → word ≤ 1 → boundary_code (or_word Boundary.None word) ≡ word
      bit zero h = refl
      bit (suc zero) h = refl
      bit (suc (suc word)) h = absurd (omega arith)

  pub where_line : (line_at strength table lines i ≡ Boundary.None → ⊥) → answer_at strength table lines words pictographs i ≡ boundary_code (line_at strength table lines i)
  unfolding answer_at
  where_line h = go (line_at strength table lines i) h
    where
      go : (b : Boundary) → (b ≡ Boundary.None → ⊥) → boundary_code (or_word b (Words.answer_at words pictographs i)) ≡ boundary_code b
      go Boundary.None h = absurd (h refl)
      go Boundary.Word h = refl
      go Boundary.Line h = refl
      go Boundary.Mandatory h = refl

  pub word_only : answer_at strength table lines words pictographs i ≡ 1 → (line_at strength table lines i ≡ Boundary.None) × (Words.answer_at words pictographs i ≡ 1)
  unfolding answer_at line_at
  word_only h = go (line_answer strength table (state_at table lines i) (cell lines i)) (never_word strength table (state_at table lines i) (cell lines i)) (Words.answer_at words pictographs i) h
    where
      go : (b : Boundary) → (b ≡ Boundary.Word → ⊥) → (word : ℕ) → boundary_code (or_word b word) ≡ 1 → (b ≡ Boundary.None) × (word ≡ 1)
      go Boundary.None n word e = (refl, by_test (eqb word 1) (λ t. eqb-true word 1 t) (λ t. absurd (let z : ◌≡◌ {A = ℕ} 0 1 = rw t at e in omega arith)))
      go Boundary.Word n word e = absurd (n refl)
      go Boundary.Line n word e = absurd (omega arith)
      go Boundary.Mandatory n word e = absurd (omega arith)

-- The cells after a run: with a refusal as they were, else a record's cell has its answer, and a cell past the records is as it was.
module _ (strength : Strength) (table lines words pictographs out : List ℕ) where
  pub refused_keeps : (r : Refusal) → run_verdict table lines words pictographs (length out) ≡ Err r → run_cells strength table lines words pictographs out ≡ out
  refused_keeps r e = rw e

  pub record_cell : (i : ℕ) → i < length lines → run_verdict table lines words pictographs (length out) ≡ Ok tt → cell (run_cells strength table lines words pictographs out) i ≡ answer_at strength table lines words pictographs i
  record_cell i h e =
      rw e (written_cell (answer_at strength table lines words pictographs) out (length lines) i h)

  pub later_cell : (k : ℕ) → run_verdict table lines words pictographs (length out) ≡ Ok tt → cell (run_cells strength table lines words pictographs out) (length lines + k) ≡ cell out (length lines + k)
  later_cell k e =
      rw e (kept_cell (answer_at strength table lines words pictographs) out (length lines) k)

-- no two results fulfil the contracts (SCOPE 10)
pub next_unique : (strength : Strength) (table : List ℕ) (s : BoundaryState) (line word pictograph : ℕ) (next : Next) (a b : BoundaryStep) → a ≡ next_of strength table s line word pictograph next → b ≡ next_of strength table s line word pictograph next → a ≡ b
next_unique strength table s line word pictograph next = unique (next_of strength table s line word pictograph next)

module _ (strength : Strength) (table lines words pictographs out : List ℕ) where
  -- a run's contract: its verdict, and the lent column afterwards
  abbrev LineRan : Verdict → List ℕ → Type 0
  LineRan r out' = (r ≡ run_verdict table lines words pictographs (length out)) × (out' ≡ run_cells strength table lines words pictographs out)

  pub line_run_unique : (r q : Verdict) (out' out'' : List ℕ) → LineRan r out' → LineRan q out'' → (r ≡ q) × (out' ≡ out'')
  line_run_unique r q out' out'' a b = (unique _ r q a.0 b.0, unique _ out' out'' a.1 b.1)
