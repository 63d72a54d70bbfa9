-- A run that answers each record in the cell of its index.
use Rattle.std.specs.Prelude.{ℕ, List, ◌++◌, ltb, drop, Ok, Err}
use Rattle.basics.specs.Columns.{cells}
use Rattle.records.specs.Refusals.{refuse, ◌⊳◌}
use Rattle.records.specs.declared.Side.TheVariants.{Neither}
use Rattle.records.specs.Verdict.{Verdict}

-- what the check said, then 9: "fewer than 1 for each record"
abbrev pub roomy : Verdict → ℕ → ℕ → Verdict
roomy check records room = check ⊳ refuse (ltb room records) 9 Neither 0

-- the lent column after a run that answers the first n records: cells after the last record stay as they were, and with a refusal all of
-- them
abbrev pub written_under : Verdict → (ℕ → ℕ) → ℕ → List ℕ → List ℕ
written_under (Ok _) answer n out = cells answer n ++ drop n out
written_under (Err r) answer n out = out
