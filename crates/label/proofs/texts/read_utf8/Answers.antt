use native.Mathlib.Omega.{arith}
use Rattle.label.proofs.Decoding.{read_inside}
use Rattle.label.proofs.Reading.{reading_more, reading_bad, reading_end}
use Rattle.label.proofs.texts.read_utf8.Goals as goal

pub overflow_add-at : goal.overflow_add-at
overflow_add-at c = omega (arith, read_inside c.args.bytes.now c.loop-at.at _ _ _ c.loop-at-test.true c.decode.ensures c.in-Some.is)

pub loop-at-smaller : goal.loop-at-smaller
loop-at-smaller c = omega (arith, read_inside c.args.bytes.now c.loop-at.at _ _ _ c.loop-at-test.true c.decode.ensures c.in-Some.is)

pub loop-at-preserved : goal.loop-at-preserved
loop-at-preserved c = reading_more c.args.bytes.now _ c.loop-at.out c.loop-at.at c.loop-at.n c.loop-at.invariant c.loop-at-test.true _ c.decode.ensures _ _ c.in-Some.is _ _ c.store-n.ensures.value c.store-n.ensures.out_after

pub returns-in_default : goal.returns-in_default
returns-in_default c = let all = reading_bad c.args.bytes.now _ c.loop-at.out c.loop-at.at c.loop-at.n c.loop-at.invariant c.loop-at-test.true _ c.decode.ensures c.in_default.is in record { value = all.0; out_after = all.1 }

pub returns : goal.returns
returns c = let all = reading_end c.args.bytes.now _ c.loop-at.out c.loop-at.at c.loop-at.n c.loop-at.invariant c.loop-at-test.false in record { value = all.0; out_after = all.1 }
