use mathlib.Core.Path.{refl}
use native.Mathlib.Omega.{arith}
use borrow.Author.Rules.{rules}
use Rattle.basics.specs.Columns.{cells}
use Rattle.uax29.proofs.EditionLaws.{turn_in}
use Rattle.uax29.proofs.editions.decide_starts_in.Goals as goal

pub loop-i-init : goal.loop-i-init
loop-i-init c = unfold cells in (refl, refl)

pub loop-i-preserved : goal.loop-i-preserved
loop-i-preserved c = (search rules, turn_in _ _ _ _ _ _ _ _ c.start_in.ensures (omega arith) c.loop-i.invariant.1)
