-- The refusals of a line step (SCOPE 12.1).
use Rattle.std.specs.Prelude.{ℕ, ◌/◌, ◌%◌, Bool, false, not, ◌||◌, List, eqb, leb, ltb, length, Ok, Err, Some, None}
use Rattle.basics.specs.Sets.{any}
use Rattle.records.specs.Refusals.{refuse, ◌⊳◌}
use Rattle.records.specs.declared.Side.TheVariants.{Record, Neither}
use Rattle.records.specs.Verdict.{Verdict}
use Rattle.lines.specs.LineBreak as LineBreak
use Rattle.lines.specs.Rules.{width, row_in, line_answer, line_after}
use Rattle.lines.specs.declared.Strength.{Strength}
use Rattle.lines.specs.Previous.{Previous}
use Rattle.lines.specs.declared.Boundary.TheVariants as Boundary
use Rattle.lines.specs.declared.LineState.{LineState}
use Rattle.lines.specs.declared.LineStep.{LineStep}

abbrev pub rows_of : List ℕ → ℕ
rows_of table = length table / width

-- 10: "the table is not whole rows of 44, has fewer than 45 rows, or has a cell that names a row it has not"
unfoldable pub bad_table : List ℕ → Bool
bad_table table =
    not (eqb (length table % width) 0) || (ltb (rows_of table) 45 || any (λ v. leb (rows_of table) (row_in v)) table)

-- 8: "a state whose row the table has not or whose class before is outside the list"
abbrev pub bad_previous : Previous → Bool
bad_previous (Some c) = leb LineBreak.len c
bad_previous None = false

abbrev pub bad_state : List ℕ → LineState → Bool
bad_state table s = leb (rows_of table) s.row || bad_previous s.previous

-- of a step: 10, then 4 (record, index 0), then 8
unfoldable pub judged : List ℕ → Bool → Bool → Verdict
judged table bad_record bad_state =
    refuse (bad_table table) 10 Neither 0 ⊳ refuse bad_record 4 Record 0 ⊳ refuse bad_state 8 Neither 0

unfoldable pub step_verdict : List ℕ → LineState → ℕ → Verdict
step_verdict table s class = judged table (leb LineBreak.len class) (bad_state table s)

-- with a refusal "the state that it was given and none"
abbrev pub step_under : Verdict → Strength → List ℕ → LineState → ℕ → LineStep
step_under (Ok _) strength table s class =
    record { state = line_after table s class; answer = line_answer strength table s class; verdict = Ok tt }
step_under (Err r) strength table s class = record { state = s; answer = Boundary.None; verdict = Err r }

abbrev pub step_of : Strength → List ℕ → LineState → ℕ → LineStep
step_of strength table s class = step_under (step_verdict table s class) strength table s class
