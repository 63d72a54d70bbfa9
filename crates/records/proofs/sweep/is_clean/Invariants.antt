use Rattle.std.specs.Prelude.{ℕ, ◌<◌, ◌≤◌}
use Rattle.records.specs.Text.{cell}
use Rattle.records.proofs.sweep.is_clean.Given as goal

abbrev pub invariant-loop-i : goal.invariant-loop-i
invariant-loop-i l = ((k : ℕ) → k < l.i → cell l.classes k ≤ l.class) × ((k : ℕ) → k < l.i → cell l.marks k ≤ l.mark)
