use mathlib.Core.Path.{refl}
use native.Mathlib.Omega.{arith}
use borrow.Author.Rules.{rules}
use Rattle.basics.specs.Columns.{cells}
use Rattle.uax29.proofs.Links.{link_none, link_more, turn_taken}
use Rattle.uax29.proofs.conjoined.take_starts.Goals as goal

pub loop-i-init : goal.loop-i-init
loop-i-init c = unfold cells in (refl, (link_none _, refl))

pub loop-i-preserved : goal.loop-i-preserved
loop-i-preserved c = (search rules, (search link_more, turn_taken _ _ _ _ _ c.loop-i.invariant.1.0 _ c.cell-conjunct.ensures _ _ _ _ c.class_before.ensures c.is_joined.ensures c.taken.ensures (omega arith) c.loop-i.invariant.1.1))
