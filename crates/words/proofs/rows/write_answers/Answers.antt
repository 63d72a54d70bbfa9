use mathlib.Core.Path.{refl}
use native.Mathlib.Omega.{arith}
use Rattle.basics.specs.Columns.{cells}
use Rattle.words.specs.Run.{state_at}
use Rattle.records.proofs.Marks.{even, fine_class, fine_mark}
use Rattle.words.proofs.Accepted.{fine_next}
use Rattle.words.proofs.Standing.{start_stands, turn_stands, turn_written, turn_symbol, row_small, group_small}
use borrow.Author.Rules.{rules}
use Rattle.words.proofs.rows.write_answers.Goals as goal

pub loop-i-init : goal.loop-i-init
loop-i-init c = unfold state_at cells in (refl, (start_stands, refl))

pub group_at-group-requires : goal.group_at-group-requires
group_at-group-requires c = fine_class _ _ _ c.requires.0 _

pub bounds-pictographs-i : goal.bounds-pictographs-i
bounds-pictographs-i c = omega (arith, even _ _ _ c.requires.0)

pub symbol_of-symbol-requires : goal.symbol_of-symbol-requires
symbol_of-symbol-requires c = (fine_class _ _ _ c.requires.0 _ c.loop-i-test.true, (fine_mark _ _ _ c.requires.0 _ c.loop-i-test.true, group_small _ _ (fine_next _ _ c.requires.0 _) c.group_at-group.ensures))

pub answer_of-requires : goal.answer_of-requires
answer_of-requires c = (turn_symbol _ _ c.requires.0 _ c.loop-i-test.true _ c.loop-i.invariant.1.0 _ _ _ _ refl refl c.group_at-group.ensures c.symbol_of-symbol.ensures, row_small c.loop-i.invariant.1.0)

pub row_after-row-requires : goal.row_after-row-requires
row_after-row-requires c = (turn_symbol _ _ c.requires.0 _ c.loop-i-test.true _ c.loop-i.invariant.1.0 _ _ _ _ refl refl c.group_at-group.ensures c.symbol_of-symbol.ensures, row_small c.loop-i.invariant.1.0)

pub loop-i-preserved : goal.loop-i-preserved
loop-i-preserved c = (search rules, (turn_stands _ _ c.requires.0 _ c.loop-i-test.true _ c.loop-i.invariant.1.0 _ _ _ _ refl refl c.group_at-group.ensures c.symbol_of-symbol.ensures _ c.row_after-row.ensures, turn_written _ _ c.requires.0 _ c.loop-i-test.true _ c.loop-i.invariant.1.0 _ _ _ _ refl refl c.group_at-group.ensures c.symbol_of-symbol.ensures _ _ _ c.answer_of.ensures (omega arith) c.loop-i.invariant.1.1))
