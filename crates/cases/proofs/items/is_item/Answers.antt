use native.Mathlib.Omega.{arith}
use Rattle.basics.specs.Sets.{every}
use Rattle.cases.proofs.Fields.{item_uneven, item_more, item_fails, item_all}
use mathlib.Core.Path.{refl}
use Rattle.cases.proofs.items.is_item.Goals as goal

pub returns-then-count-last : goal.returns-then-count-last
returns-then-count-last c = search item_uneven

pub loop-k-init : goal.loop-k-init
loop-k-init c = unfold every in refl

pub loop-k-preserved : goal.loop-k-preserved
loop-k-preserved c = search item_more

pub returns-then-not-is_field : goal.returns-then-not-is_field
returns-then-not-is_field c = item_fails _ _ _ _ c.count.ensures c.commas-last.ensures.value c.if-count-last.false _ (omega arith) _ _ c.span.ensures c.is_field.ensures c.if-not-is_field.true

pub returns : goal.returns
returns c = item_all _ _ _ _ c.count.ensures c.commas-last.ensures.value c.if-count-last.false _ c.loop-k.invariant (omega arith)
