use mathlib.Core.Path.{refl}
use Rattle.basics.specs.Columns.{cells}
use Rattle.lines.specs.Run.{state_at}
use Rattle.lines.proofs.Turns.{turn_state, turn_cells}
use borrow.Author.Rules.{rules}
use native.Mathlib.Omega.{arith}
use Rattle.lines.proofs.runs.lay.Goals as goal

pub loop-i-init : goal.loop-i-init
loop-i-init c = unfold state_at cells in (refl, (refl, refl))

pub loop-i-preserved : goal.loop-i-preserved
loop-i-preserved c = (search rules, (search turn_state, turn_cells _ _ _ _ _ c.loop-i.invariant.1.0 _ refl _ _ _ _ _ c.answer-answer.ensures c.from.ensures c.merge.ensures (omega arith) c.loop-i.invariant.1.1))
