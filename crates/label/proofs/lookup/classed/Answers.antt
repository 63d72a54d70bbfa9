use Rattle.std.proofs.Common.{arith, rules}
use Rattle.label.proofs.Columns.{classed_more}
use Rattle.label.proofs.lookup.classed.Goals as goal

pub loop-i-preserved : goal.loop-i-preserved
loop-i-preserved c = (search rules, classed_more _ _ c.loop-i.column _ _ (omega arith) c.class_of.ensures c.loop-i.invariant.1)
