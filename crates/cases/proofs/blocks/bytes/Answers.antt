use Rattle.basics.specs.Columns.{cells}
use Rattle.cases.proofs.Pairs.{bytes_more, bytes_all}
use mathlib.Core.Path.{refl}
use native.Mathlib.Omega.{arith}
use Rattle.cases.proofs.blocks.bytes.Goals as goal

pub loop-i-init : goal.loop-i-init
loop-i-init c = unfold cells in (refl, refl)

pub loop-i-preserved : goal.loop-i-preserved
loop-i-preserved c = bytes_more _ _ c.min-most.result _ _ c.loop-i.invariant (omega (arith, c.min-most.ensures)) c.loop-i-test.true _ c.byte.ensures

pub returns : goal.returns
returns c = let all = bytes_all _ _ c.min-most.result _ _ c.loop-i.invariant (omega (arith, c.min-most.ensures)) (omega arith) in record { value = c.min-most.ensures; prefix_len = all.0; out_after = all.1 }
