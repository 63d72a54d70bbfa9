use Rattle.exports.proofs.StepLaws.{laid_more, laid_all}
use Rattle.exports.specs.Steps.{scalar_of, class_of, record_of, noted_of}
use lib.ListN.{length}
use native.Mathlib.Omega.{arith}
use Prim.Native.Nat.{◌<◌}
use mathlib.Core.Path.{refl}
use Rattle.exports.proofs.laid.lay.Goals as goal

pub loop-j-init : goal.loop-j-init
loop-j-init c = (omega arith, ((refl, refl), ((refl, refl), ((refl, refl), (refl, refl)))))

pub loop-j-preserved : goal.loop-j-preserved
loop-j-preserved c = let h : c.loop-j.j < length c.args.cluster.chars = omega (arith, c.loop-j-test.true, c.requires.cells) in (omega arith, (laid_more scalar_of _ _ _ _ _ h refl c.loop-j.invariant.1.0, (laid_more class_of _ _ c.args.cluster.chars _ _ h c.from.ensures c.loop-j.invariant.1.1.0, (laid_more record_of _ _ _ _ _ h refl c.loop-j.invariant.1.1.1.0, laid_more noted_of _ _ _ _ _ h refl c.loop-j.invariant.1.1.1.1))))

pub returns : goal.returns
returns c = record { scalar = laid_all scalar_of _ _ _ _ c.loop-j.invariant.0 c.loop-j-test.false c.requires.cells c.requires.scalar c.loop-j.invariant.1.0; class = laid_all class_of _ _ _ _ c.loop-j.invariant.0 c.loop-j-test.false c.requires.cells c.requires.class c.loop-j.invariant.1.1.0; source = laid_all record_of _ _ _ _ c.loop-j.invariant.0 c.loop-j-test.false c.requires.cells c.requires.source c.loop-j.invariant.1.1.1.0; note = laid_all noted_of _ _ _ _ c.loop-j.invariant.0 c.loop-j-test.false c.requires.cells c.requires.note c.loop-j.invariant.1.1.1.1 }
