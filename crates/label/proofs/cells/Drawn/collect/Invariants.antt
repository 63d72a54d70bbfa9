use Rattle.records.specs.Text.{lent}
use Rattle.segment.proofs.Left.{left}
use Rattle.label.proofs.cells.Drawn.collect.Given as goal

abbrev pub invariant-loop-self : goal.invariant-loop-self
invariant-loop-self l = Unit {0}

abbrev pub decreases-loop-self : goal.decreases-loop-self
decreases-loop-self l = left l.state (lent l.columns)
