use mathlib.Core.Path.{◌≡◌, refl}
use lib.ListN.{length}
use native.Mathlib.Omega.{arith}
use Rattle.basics.specs.Columns.{cells}
use Rattle.properties.proofs.Fills.{count_reach, filled_more}
use borrow.Author.Rules.{rules}
use Rattle.properties.proofs.lookups.fill.Goals as goal

pub is_ordered-sorted-requires : goal.is_ordered-sorted-requires
is_ordered-sorted-requires c = ((count_reach c.args.rows.now.firsts.now c.args.rows.now.lasts.now c.args.rows.now.codes.now _ _ c.count-n.ensures).firsts_reach, (count_reach c.args.rows.now.firsts.now c.args.rows.now.lasts.now c.args.rows.now.codes.now _ _ c.count-n.ensures).lasts_reach)

pub loop-i-init : goal.loop-i-init
loop-i-init c = unfold cells in (search rules, (refl, refl))

pub code_among-requires : goal.code_among-requires
code_among-requires c = (count_reach _ _ _ _ _ c.count-n.ensures, c.is_ordered-sorted.ensures)

pub loop-i-preserved : goal.loop-i-preserved
loop-i-preserved c = (search rules, (search rules, filled_more _ _ _ _ _ c.count-n.ensures _ _ _ _ _ c.code_among.ensures (omega arith) c.loop-i.invariant.1.1))

pub returns : goal.returns
returns c = let e : c.loop-i.i ≡ length c.args.scalars.now = omega arith in rw (← e) c.loop-i.invariant.1.1
