use mathlib.Core.Path.{◌≡◌}
use Rattle.classes.specs.ClusterBreak.{EX}
use Rattle.uax29.specs.Clusters.{is, pictographic, one, many}
use Rattle.uax29.specs.ClustersBack.{before}
use Rattle.uax29.proofs.clusters.Place.is_extended_before.Given as goal

abbrev pub invariant-loop-place : goal.invariant-loop-place
invariant-loop-place l = many (is EX) (one pictographic) (before l.place) ≡ many (is EX) (one pictographic) (before l.self)

abbrev pub decreases-loop-place : goal.decreases-loop-place
decreases-loop-place l = l.place.at
