use Rattle.records.specs.Text.{lent}
use Rattle.segment.proofs.Left.{left}
use Rattle.display.proofs.show.Given as goal

abbrev pub invariant-loop-cluster : goal.invariant-loop-cluster
invariant-loop-cluster l = Unit {0}

abbrev pub decreases-loop-cluster : goal.decreases-loop-cluster
decreases-loop-cluster l = left l.reader.state (lent l.reader.columns)
