use Rattle.parse.specs.State.{empty_cluster}
use mathlib.Core.Path.{refl}
use Rattle.parse.proofs.Cluster.empty.Goals as goal

-- `parse::Cluster::empty` meets its contract. Assumes nothing.
pub returns : goal.returns
returns c = unfold empty_cluster in refl
