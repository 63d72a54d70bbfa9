use Rattle.exports.specs.Steps.{scalar_of, class_of, record_of, noted_of}
use Rattle.segment.proofs.Written.{Cells}
use Prim.Native.Nat.{◌≤◌}
use Rattle.exports.proofs.laid.lay.Given as goal

abbrev pub invariant-loop-j : goal.invariant-loop-j
invariant-loop-j l = (l.j ≤ l.cluster.len) × (Cells scalar_of 0 l.cluster.chars l.initial.cscalars l.cscalars l.j × (Cells class_of 0 l.cluster.chars l.initial.cclasses l.cclasses l.j × (Cells record_of 0 l.cluster.chars l.initial.crecords l.crecords l.j × Cells noted_of 0 l.cluster.chars l.initial.cnoted l.cnoted l.j)))
