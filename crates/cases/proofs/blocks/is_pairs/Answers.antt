use native.Mathlib.Omega.{arith}
use Rattle.basics.specs.Sets.{every}
use Rattle.cases.proofs.Pairs.{pairs_odd, pairs_fail, pairs_more, pairs_all}
use mathlib.Core.Path.{refl}
use Rattle.cases.proofs.blocks.is_pairs.Goals as goal

pub returns-then-digits-ne0 : goal.returns-then-digits-ne0
returns-then-digits-ne0 c = search pairs_odd

pub loop-byte-init : goal.loop-byte-init
loop-byte-init c = unfold every in refl

pub returns-then-is_none : goal.returns-then-is_none
returns-then-is_none c = pairs_fail _ _ _ c.digit.ensures c.if-digits-ne0.false c.loop-byte-test.true c.if-is_none.ensures

pub loop-byte-preserved : goal.loop-byte-preserved
loop-byte-preserved c = pairs_more _ _ _ c.digit.ensures c.loop-byte.invariant c.if-is_none.ensures

pub returns : goal.returns
returns c = pairs_all _ c.if-digits-ne0.false _ c.loop-byte.invariant (omega arith)
