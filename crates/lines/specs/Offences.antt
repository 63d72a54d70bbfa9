-- The lines of the table of refusals (SCOPE 5.1, 12.1) that are the line step's, the step's of `next` and the run's.
use Rattle.std.specs.Prelude.{ℕ, List, [], ◌∷◌, ◌++◌, leb, ltb, length}
use Rattle.classes.specs.WordBreak as WordBreak
use Rattle.records.specs.Text.{cell}
use Rattle.records.specs.Refusals.{coded, mark, outside}
use Rattle.records.specs.Offences.{Line, line, Table, length_lines}
use Rattle.words.specs.Next.{Next}
use Rattle.lines.specs.LineBreak as LineBreak
use Rattle.lines.specs.Refusals.{bad_table, bad_state}
use Rattle.lines.specs.NextStep.{bad_record, bad_states}
use Rattle.lines.specs.declared.LineState.{LineState}
use Rattle.lines.specs.declared.BoundaryState.{BoundaryState}

-- 10
abbrev pub table_line : List ℕ → Line
table_line table = line 10 (bad_table table)

-- a step's table: 10, then 4 of the record at index 0, then 8
abbrev pub step_table : List ℕ → Line → Line → Table
step_table table four eight =
    record {
      before = table_line table ∷ [];
      parts = 0;
      of_part = λ i. [];
      records = 1;
      of_record = λ i. four ∷ [];
      after = eight ∷ [];
    }

abbrev pub line_table : List ℕ → LineState → ℕ → Table
line_table table s class = step_table table (line 4 (leb LineBreak.len class)) (line 8 (bad_state table s))

abbrev pub next_table : List ℕ → BoundaryState → ℕ → ℕ → ℕ → Next → Table
next_table table s class word pictograph next = step_table table (line 4 (bad_record class word pictograph next)) (line 8 (bad_states table s))

-- the run's: 1 and 2 over the three columns, 10, 4 of each record, 9
abbrev pub run_table : List ℕ → List ℕ → List ℕ → List ℕ → ℕ → Table
run_table table lines words pictographs room =
    record {
      before = length_lines (length lines ∷ length words ∷ length pictographs ∷ []) [] ++ (table_line table ∷ []);
      parts = 0;
      of_part = λ i. [];
      records = length lines;
      of_record = λ i. line 4 (outside (coded (cell lines i) LineBreak.len ∷ coded (cell words i) WordBreak.len ∷ mark (cell pictographs i) ∷ [])) ∷ [];
      after = line 9 (ltb room (length lines)) ∷ [];
    }
