use Rattle.spans.proofs.Along.{Walked}
use Rattle.spans.proofs.offsets.Counted.spans.Given as goal

abbrev pub invariant-loop-j : goal.invariant-loop-j
invariant-loop-j l = Walked l.scalars l.text l.at l.cluster.len l.cluster.chars l.along l.chars l.end l.place l.j
