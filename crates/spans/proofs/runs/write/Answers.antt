use mathlib.Core.Path.{refl}
use Prim.Native.Nat.{◌<◌}
use native.Mathlib.Omega.{arith}
use lib.ListN.{length}
use Rattle.segment.proofs.Written.{cells_more, cells_all}
use Rattle.spans.specs.Spans.{no_span}
use Rattle.spans.specs.Runs.{offset_in, length_in, noffset_in, nlength_in}
use Rattle.spans.proofs.runs.write.Goals as goal

pub loop-j-init : goal.loop-j-init
loop-j-init c = (omega arith, ((refl, refl), ((refl, refl), ((refl, refl), (refl, refl)))))

pub loop-j-preserved : goal.loop-j-preserved
loop-j-preserved c = let h : c.loop-j.j < length c.args.spans.chars = omega (arith, c.loop-j-test.true, c.requires.cells) in (omega arith, (cells_more no_span offset_in _ _ _ c.args.spans.chars _ _ h refl c.loop-j.invariant.1.0, (cells_more no_span length_in _ _ _ c.args.spans.chars _ _ h refl c.loop-j.invariant.1.1.0, (cells_more no_span noffset_in _ _ _ c.args.spans.chars _ _ h refl c.loop-j.invariant.1.1.1.0, cells_more no_span nlength_in _ _ _ c.args.spans.chars _ _ h refl c.loop-j.invariant.1.1.1.1))))

pub returns : goal.returns
returns c = record { at_offsets = cells_all offset_in _ _ _ _ _ _ c.loop-j.invariant.0 c.loop-j-test.false c.loop-j.invariant.1.0; at_lengths = cells_all length_in _ _ _ _ _ _ c.loop-j.invariant.0 c.loop-j-test.false c.loop-j.invariant.1.1.0; at_noffsets = cells_all noffset_in _ _ _ _ _ _ c.loop-j.invariant.0 c.loop-j-test.false c.loop-j.invariant.1.1.1.0; at_nlengths = cells_all nlength_in _ _ _ _ _ _ c.loop-j.invariant.0 c.loop-j-test.false c.loop-j.invariant.1.1.1.1 }
