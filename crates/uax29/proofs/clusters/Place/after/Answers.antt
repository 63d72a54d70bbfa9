use mathlib.Core.Path.{◌∙◌}
use native.Mathlib.Omega.{arith}
use Rattle.uax29.proofs.ClustersSides.{nearest_after}
use Rattle.uax29.proofs.clusters.Place.after.Goals as goal

pub returns : goal.returns
returns c = c.copied.ensures ∙ nearest_after _ _ _ _ c.get.ensures.lookup.0 (c.get.ensures.lookup.4 (omega arith))
