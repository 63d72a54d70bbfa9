use mathlib.Core.Path.{refl}
use native.Mathlib.Omega.{arith}
use borrow.Author.Rules.{rules}
use Rattle.basics.specs.Columns.{cells}
use Rattle.uax29.specs.WordsSeen.{seen_at}
use Rattle.uax29.proofs.WordsWalk.{turn_seen, turn_cells}
use Rattle.uax29.proofs.words.boundaries.Goals as goal

pub loop-i-init : goal.loop-i-init
loop-i-init c = unfold seen_at cells in (refl, (refl, refl))

pub loop-i-preserved : goal.loop-i-preserved
loop-i-preserved c = (search rules, (turn_seen _ _ _ _ _ c.loop-i.invariant.1.0 refl c.after-seen.ensures, turn_cells _ _ _ _ _ _ _ _ _ _ _ c.loop-i.invariant.1.0 refl c.cell-mark.ensures c.ahead.ensures c.is_boundary.ensures c.from.ensures (omega arith) (omega arith) c.loop-i.invariant.1.1))
