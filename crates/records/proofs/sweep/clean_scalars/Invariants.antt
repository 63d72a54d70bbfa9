use Rattle.std.specs.Prelude.{ℕ, ◌<◌, ◌≡◌}
use Rattle.records.specs.Text.{cell}
use Rattle.records.specs.Sweep.{CleanScalar}
use Rattle.records.proofs.sweep.clean_scalars.Given as goal

abbrev pub invariant-loop-x : goal.invariant-loop-x
invariant-loop-x l = l.odd ≡ 0 → (k : ℕ) → k < l.x-index → CleanScalar (cell l.column k)
