-- The word run: the step over two columns from the start state on.
use Rattle.std.specs.Prelude.{ℕ, zero, suc, ◌+◌, cond, List, ltb, length, Some, None}
use Rattle.basics.specs.Columns.{cells}
use Rattle.records.specs.Text.{cell}
use Rattle.records.specs.Refusals.{word_verdict}
use Rattle.records.specs.Written.{roomy, written_under}
use Rattle.records.specs.Verdict.{Verdict}
use Rattle.words.specs.declared.WordState.{WordState}
use Rattle.words.specs.declared.WordStep.{WordStep}
use Rattle.words.specs.Next.{Next}
use Rattle.words.specs.Rules.{ruled}
use Rattle.words.specs.Step.{start_state}

-- the class of the record at an index, or none past the last
unfoldable pub next_at : List ℕ → ℕ → Next
next_at words i = cond (ltb i (length words)) (Some (cell words i)) None

-- the call of `check_word` at an index, from a state
abbrev pub step_from : List ℕ → List ℕ → WordState → ℕ → WordStep
step_from words pictographs s i = ruled s (cell words i) (cell pictographs i) (next_at words (i + 1))

-- the state before the record at an index
unfoldable pub state_at : List ℕ → List ℕ → ℕ → WordState
state_at words pictographs zero = start_state
state_at words pictographs (suc i) = (step_from words pictographs (state_at words pictographs i) i).state

-- the answer at an index
unfoldable pub answer_at : List ℕ → List ℕ → ℕ → ℕ
answer_at words pictographs i = (step_from words pictographs (state_at words pictographs i) i).answer

-- the answers to the first n records
abbrev pub answers : List ℕ → List ℕ → ℕ → List ℕ
answers words pictographs = cells (answer_at words pictographs)

-- the word run, "over the columns word class and pictograph alone": 1, 2, 4, 9 (SCOPE 5.5); 9 is "fewer than 1 for each record"
unfoldable pub run_verdict : List ℕ → List ℕ → ℕ → Verdict
run_verdict words pictographs room = roomy (word_verdict words pictographs) (length words) room

-- "Cells after the last record stay as they were" (SCOPE 7.3), and with a refusal all of them
abbrev pub cells_under : Verdict → List ℕ → List ℕ → List ℕ → List ℕ
cells_under v words pictographs out = written_under v (answer_at words pictographs) (length words) out

-- what stands in the lent column after a run
abbrev pub run_cells : List ℕ → List ℕ → List ℕ → List ℕ
run_cells words pictographs out = cells_under (run_verdict words pictographs (length out)) words pictographs out
