use mathlib.Core.Path.{◌≡◌}
use Rattle.classes.specs.ClusterBreak.{RI}
use Rattle.uax29.specs.Clusters.{is}
use Rattle.uax29.specs.ClustersBack.{beyond, before}
use Rattle.uax29.proofs.clusters.Place.beyond_flags.Given as goal

abbrev pub invariant-loop-place : goal.invariant-loop-place
invariant-loop-place l = beyond (is RI) (before l.place) ≡ beyond (is RI) (before l.self)

abbrev pub decreases-loop-place : goal.decreases-loop-place
decreases-loop-place l = l.place.at
