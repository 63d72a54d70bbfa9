use Rattle.std.specs.Prelude.{ℕ, ◌+◌, ◌<◌, ◌≤◌}
use Rattle.records.specs.Text.{cell}
use Rattle.records.proofs.sweep.ends_by.Given as goal

abbrev pub invariant-loop-i : goal.invariant-loop-i
invariant-loop-i l = (k : ℕ) → k < l.i → cell l.firsts k + cell l.counts k ≤ l.most
