use mathlib.Core.Path.{refl}
use native.Mathlib.Omega.{arith}
use borrow.Author.Rules.{rules}
use Rattle.basics.specs.Columns.{cells}
use Rattle.uax29.proofs.GraphemeSummary.{turn_decided}
use Rattle.uax29.proofs.graphemes.decide_starts.Goals as goal

pub loop-i-init : goal.loop-i-init
loop-i-init c = unfold cells in (refl, refl)

pub loop-i-preserved : goal.loop-i-preserved
loop-i-preserved c = (search rules, turn_decided _ _ _ _ _ _ _ c.boundary.ensures c.from.ensures (omega arith) c.loop-i.invariant.1)
