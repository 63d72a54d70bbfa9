use mathlib.Core.Path.{refl}
use native.Mathlib.Omega.{arith}
use Rattle.basics.specs.Sets.{every}
use Rattle.properties.proofs.Orders.{rise_fails, rise_more, rise_over, before_next}
use borrow.Author.Rules.{rules}
use Rattle.properties.proofs.ranges.rises.Goals as goal

pub loop-i-init : goal.loop-i-init
loop-i-init c = unfold every in (search rules, (refl, refl))

pub returns-then-column-i : goal.returns-then-column-i
returns-then-column-i c = rise_fails _ _ _ c.loop-i.invariant.1.1 _ (omega arith) c.if-column-i.true

pub loop-i-preserved : goal.loop-i-preserved
loop-i-preserved c = (search rules, (rise_more _ _ _ c.loop-i.invariant.1.1 c.loop-i.invariant.1.0 c.if-column-i.false, before_next c.args.column.now c.loop-i.i))

pub returns : goal.returns
returns c = rise_over _ _ _ c.loop-i.invariant.1.0 (omega arith)
