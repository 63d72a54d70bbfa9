-- The run of `next` over three columns and a lent table: `check_line` and `check_word` at each record.
use Rattle.std.specs.Prelude.{ℕ, zero, suc, List, [], ◌∷◌, ◌++◌, ltb, length, drop, Ok, Err}
use Rattle.basics.specs.Columns.{cells}
use Rattle.classes.specs.WordBreak as WordBreak
use Rattle.records.specs.Text.{cell}
use Rattle.records.specs.Refusals.{refuse, ◌⊳◌, over, judge_three, judge_lengths}
use Rattle.records.specs.declared.Side.TheVariants.{Neither}
use Rattle.records.specs.Verdict.{Verdict}
use Rattle.words.specs.Run as Words
use Rattle.lines.specs.LineBreak as LineBreak
use Rattle.lines.specs.Rules.{boundary_code, start_state, line_answer, line_after, or_word}
use Rattle.lines.specs.Refusals.{bad_table}
use Rattle.lines.specs.declared.Strength.{Strength}
use Rattle.lines.specs.declared.Boundary.{Boundary}
use Rattle.lines.specs.declared.LineState.{LineState}

-- the state before the record at an index; no strength is looked at
unfoldable pub state_at : List ℕ → List ℕ → ℕ → LineState
state_at table lines zero = start_state
state_at table lines (suc i) = line_after table (state_at table lines i) (cell lines i)

-- the line answer at an index
unfoldable pub line_at : Strength → List ℕ → List ℕ → ℕ → Boundary
line_at strength table lines i = line_answer strength table (state_at table lines i) (cell lines i)

-- the answer of `next` at an index, "mandatory, line, word or none": the word machine takes its step whatever the line answer is
abbrev pub boundary_at : Strength → List ℕ → List ℕ → List ℕ → List ℕ → ℕ → Boundary
boundary_at strength table lines words pictographs i = or_word (line_at strength table lines i) (Words.answer_at words pictographs i)

-- its number
unfoldable pub answer_at : Strength → List ℕ → List ℕ → List ℕ → List ℕ → ℕ → ℕ
answer_at strength table lines words pictographs i = boundary_code (boundary_at strength table lines words pictographs i)

-- the answers to the first n records
abbrev pub answers : Strength → List ℕ → List ℕ → List ℕ → List ℕ → ℕ → List ℕ
answers strength table lines words pictographs = cells (answer_at strength table lines words pictographs)

-- 4, of any of the three codes
abbrev pub judge_record : ℕ → ℕ → ℕ → ℕ → Verdict
judge_record line word pictograph i = judge_three LineBreak.len WordBreak.len line word pictograph i

-- 1 and 2 over the three columns, then 10, then 4 by rising index
unfoldable pub check_verdict : List ℕ → List ℕ → List ℕ → List ℕ → Verdict
check_verdict table lines words pictographs =
    judge_lengths (length lines ∷ length words ∷ length pictographs ∷ []) []
    ⊳ refuse (bad_table table) 10 Neither 0
    ⊳ over (λ i. judge_record (cell lines i) (cell words i) (cell pictographs i) i) 0 (length lines)

-- then 9 for fewer cells than records
unfoldable pub run_verdict : List ℕ → List ℕ → List ℕ → List ℕ → ℕ → Verdict
run_verdict table lines words pictographs cells =
    check_verdict table lines words pictographs ⊳ refuse (ltb cells (length lines)) 9 Neither 0

-- cells past the records keep their content, and with a refusal all do
abbrev pub cells_under : Verdict → Strength → List ℕ → List ℕ → List ℕ → List ℕ → List ℕ → List ℕ
cells_under (Ok _) strength table lines words pictographs out =
    answers strength table lines words pictographs (length lines) ++ drop (length lines) out
cells_under (Err r) strength table lines words pictographs out = out

abbrev pub run_cells : Strength → List ℕ → List ℕ → List ℕ → List ℕ → List ℕ → List ℕ
run_cells strength table lines words pictographs out =
    cells_under (run_verdict table lines words pictographs (length out)) strength table lines words pictographs out
