use Rattle.uax29.proofs.ClustersSides.{no_place, a_place}
use Rattle.uax29.proofs.clusters.boundary.Goals as goal

pub returns-then-at-breaks : goal.returns-then-at-breaks
returns-then-at-breaks c = search a_place

pub returns-else-at-breaks : goal.returns-else-at-breaks
returns-else-at-breaks c = search no_place
