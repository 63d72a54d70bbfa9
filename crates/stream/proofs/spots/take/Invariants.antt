use Rattle.std.specs.Prelude.{◌≡◌, ◌-◌}
use Rattle.records.specs.Text.{lent}
use Rattle.stream.specs.Inner.{rest_at}
use Rattle.stream.proofs.spots.take.Given as goal

abbrev pub invariant-loop-i : goal.invariant-loop-i
invariant-loop-i l = rest_at l.mode l.khmer (lent l.columns) (record { index = l.initial.i; part = l.initial.k }) ≡ rest_at l.mode l.khmer (lent l.columns) (record { index = l.i; part = l.k })

abbrev pub decreases-loop-i : goal.decreases-loop-i
decreases-loop-i l = l.n - l.i
