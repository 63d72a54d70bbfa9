use Rattle.segment.specs.Runs.{scalar_in, class_in, cluster_in}
use Rattle.segment.proofs.Written.{Cells}
use Rattle.segment.proofs.runs.write.Given as goal

abbrev pub invariant-loop-j : goal.invariant-loop-j
invariant-loop-j l = Cells (scalar_in l.number) l.at l.p.chars l.initial.oscalars l.oscalars l.j × (Cells (class_in l.number) l.at l.p.chars l.initial.oclasses l.oclasses l.j × Cells (cluster_in l.number) l.at l.p.chars l.initial.oclusters l.oclusters l.j)
