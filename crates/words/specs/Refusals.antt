-- The lines of the table of refusals (SCOPE 5.1) that are the word step's own.
use Rattle.std.specs.Prelude.{ℕ, [], ◌∷◌}
use Rattle.records.specs.Offences.{line, Table}
use Rattle.words.specs.declared.WordState.{WordState}
use Rattle.words.specs.Next.{Next}
use Rattle.words.specs.Step.{bad_record, bad_state}

-- the step: "4 (record, index 0) for the record's class, its mark or the class of the next record, then 8" (SCOPE 5.5)
abbrev pub step_table : WordState → ℕ → ℕ → Next → Table
step_table s class pictograph next =
    record {
      before = [];
      parts = 0;
      of_part = λ i. [];
      records = 1;
      of_record = λ i. line 4 (bad_record class pictograph next) ∷ [];
      after = line 8 (bad_state s) ∷ [];
    }
