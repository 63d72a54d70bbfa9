use Rattle.records.specs.Text.{lent}
use Rattle.segment.proofs.Left.{left}
use Rattle.replay.proofs.texts.calls.Given as goal

abbrev pub invariant-loop-after : goal.invariant-loop-after
invariant-loop-after l = Unit {0}

abbrev pub decreases-loop-after : goal.decreases-loop-after
decreases-loop-after l = left l.state (lent l.columns)
