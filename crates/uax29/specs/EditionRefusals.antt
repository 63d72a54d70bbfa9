-- The lines of the table of refusals (SCOPE 5.1, 12.6) that are an edition's: its check's, its runs' and its step's.
use Rattle.std.specs.Prelude.{ℕ, List, [], ◌∷◌, length}
use Rattle.records.specs.Text.{cell}
use Rattle.records.specs.Offences.{Line, line, Table, length_lines}
use Rattle.uax29.specs.EditionRuns.{unknown}
use Rattle.uax29.specs.EditionStep.{bad_record_in, bad_state_in}
use Rattle.uax29.specs.declared.editions.EditionState.{EditionState}

-- 15, 1 and 2 over the three columns, 4 of each record, and what a call adds: 9
abbrev pub edition_table : ℕ → List ℕ → List ℕ → List ℕ → List Line → Table
edition_table edition breaks marks conjuncts more =
    record {
      before = line 15 (unknown edition) ∷ length_lines (length breaks ∷ length conjuncts ∷ length marks ∷ []) [];
      parts = 0;
      of_part = λ i. [];
      records = length breaks;
      of_record = λ i. line 4 (bad_record_in (cell breaks i) (cell marks i) (cell conjuncts i)) ∷ [];
      after = more;
    }

-- 15, then 4 of the record, index 0, then 8
abbrev pub edition_step_table : ℕ → EditionState → ℕ → ℕ → ℕ → Table
edition_step_table edition s kind marked conjunct =
    record {
      before = line 15 (unknown edition) ∷ [];
      parts = 0;
      of_part = λ i. [];
      records = 1;
      of_record = λ i. line 4 (bad_record_in kind marked conjunct) ∷ [];
      after = line 8 (bad_state_in s) ∷ [];
    }
