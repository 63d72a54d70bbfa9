use mathlib.Core.Path.{refl}
use Prim.Native.Nat.{◌<◌}
use native.Mathlib.Omega.{arith}
use lib.ListN.{length}
use Rattle.parse.specs.State.{nothing}
use Rattle.segment.specs.Runs.{scalar_in, class_in, cluster_in}
use Rattle.segment.proofs.Written.{cells_more, cells_all}
use Rattle.segment.proofs.runs.write.Goals as goal

pub loop-j-init : goal.loop-j-init
loop-j-init c = ((refl, refl), ((refl, refl), (refl, refl)))

pub loop-j-preserved : goal.loop-j-preserved
loop-j-preserved c = let h : c.loop-j.j < length c.args.p.chars = omega (arith, c.loop-j-test.true, c.requires.cells) in (cells_more nothing (scalar_in 0) _ _ _ _ _ _ h refl c.loop-j.invariant.0, (cells_more nothing (class_in 0) _ _ _ c.args.p.chars _ _ h c.from.ensures c.loop-j.invariant.1.0, cells_more nothing (cluster_in _) _ _ _ c.args.p.chars _ _ h refl c.loop-j.invariant.1.1))

pub returns : goal.returns
returns c = record { scalar = cells_all (scalar_in 0) _ _ _ _ _ _ c.loop-j.auto.j-end c.loop-j-test.false c.loop-j.invariant.0; class = cells_all (class_in 0) _ _ _ _ _ _ c.loop-j.auto.j-end c.loop-j-test.false c.loop-j.invariant.1.0; cluster = cells_all (cluster_in _) _ _ _ _ _ _ c.loop-j.auto.j-end c.loop-j-test.false c.loop-j.invariant.1.1 }
