use native.Mathlib.Omega.{arith}
use Rattle.spans.proofs.Counting.{end_most, to_begins, to_turns, to_over}
use Rattle.spans.proofs.offsets.Counted.to.Goals as goal

pub loop-i-init : goal.loop-i-init
loop-i-init c = to_begins c.args.scalars.now c.args.self _ _ c.requires c.begin-from.ensures

pub overflow_add-bytes : goal.overflow_add-bytes
overflow_add-bytes c = omega (arith, end_most c.args.scalars.now c.loop-i.i, c.loop-i.invariant.0, c.loop-i.invariant.1, c.loop-i-test.true, c.length_of-bytes.ensures, c.ranges.index)

pub loop-i-preserved : goal.loop-i-preserved
loop-i-preserved c = to_turns _ _ _ _ _ c.loop-i-test.true c.loop-i.invariant.1 c.length_of-bytes.ensures

pub returns : goal.returns
returns c = search to_over
