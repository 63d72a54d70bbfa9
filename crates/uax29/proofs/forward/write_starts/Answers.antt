use mathlib.Core.Path.{◌≡◌, refl}
use lib.ListN.{length}
use native.Mathlib.Omega.{arith}
use Rattle.basics.specs.Columns.{cells}
use Rattle.records.proofs.Marks.{even, fine_class, fine_mark}
use Rattle.uax29.proofs.GraphemeStanding.{start_stands, row_small, turn_stands, turn_written}
use borrow.Author.Rules.{rules}
use Rattle.uax29.proofs.forward.write_starts.Goals as goal

pub loop-i-init : goal.loop-i-init
loop-i-init c = unfold cells in (refl, (start_stands _ _, refl))

pub bounds-marks-i : goal.bounds-marks-i
bounds-marks-i c = omega (arith, even _ _ _ c.requires.0)

pub cell_of-cell-requires : goal.cell_of-cell-requires
cell_of-cell-requires c = (fine_class _ _ _ c.requires.0 _ (omega arith), fine_mark _ _ _ c.requires.0 _ (omega arith))

pub answer_in-requires : goal.answer_in-requires
answer_in-requires c = row_small c.loop-i.invariant.1.0

pub row_in-row-requires : goal.row_in-row-requires
row_in-row-requires c = row_small c.loop-i.invariant.1.0

pub loop-i-preserved : goal.loop-i-preserved
loop-i-preserved c = (search rules, (turn_stands _ _ c.requires.0 _ (omega arith) _ c.loop-i.invariant.1.0 _ c.cell_of-cell.ensures _ c.row_in-row.ensures, turn_written _ _ c.requires.0 _ (omega arith) _ c.loop-i.invariant.1.0 _ c.cell_of-cell.ensures _ _ _ c.answer_in.ensures (omega arith) c.loop-i.invariant.1.1))

pub returns : goal.returns
returns c = let e : c.loop-i.i ≡ length c.args.breaks.now = omega arith in rw (← e) c.loop-i.invariant.1.1
