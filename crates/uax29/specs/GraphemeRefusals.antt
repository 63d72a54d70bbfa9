-- The lines of the table of refusals (SCOPE 5.1, 12.5) that are the step's of the engine that goes forward.
use Rattle.std.specs.Prelude.{ℕ, [], ◌∷◌}
use Rattle.records.specs.Offences.{line, Table}
use Rattle.uax29.specs.GraphemeStep.{bad_record, bad_state}
use Rattle.uax29.specs.declared.graphemes.GraphemeState.{GraphemeState}

-- 4 of the record, index 0, then 8
abbrev pub step_table : GraphemeState → ℕ → ℕ → Table
step_table s kind marked =
    record {
      before = [];
      parts = 0;
      of_part = λ i. [];
      records = 1;
      of_record = λ i. line 4 (bad_record kind marked) ∷ [];
      after = line 8 (bad_state s) ∷ [];
    }
