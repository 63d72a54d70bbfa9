use mathlib.Core.Path.{refl, sym, ◌∙◌}
use native.Mathlib.Omega.{arith}
use Rattle.records.specs.declared.Parser.TheVariants.{Simple}
use Rattle.tables.specs.Symbols.{table_of}
use Rattle.tables.specs.SimpleTable.{simple_table}
use Rattle.segment.proofs.Reading.{index_simple}
use Rattle.segment.proofs.Ways.{facing_inside, facing_row, facing_index, sees_cell, sees_over}
use Rattle.segment.proofs.direct.BySimpleWay.look.Goals as goal

pub token_at-t-requires : goal.token_at-t-requires
token_at-t-requires c = (c.requires.0, facing_inside _ c.args.self.now.seen _ c.requires.1)

pub is_crowded-requires : goal.is_crowded-requires
is_crowded-requires c = (c.requires.0, facing_inside _ c.args.self.now.seen _ c.requires.1, c.requires.1.room)

pub returns-then-is_crowded : goal.returns-then-is_crowded
returns-then-is_crowded c = sees_over _ _ _ _ _ _ c.token_at.ensures c.scalar.ensures (sym c.is_crowded.ensures ∙ c.if-is_crowded.true)

pub overflow_add-index : goal.overflow_add-index
overflow_add-index c = omega (arith, c.simple_symbol.ensures.1, facing_row _ _ _ c.requires.1)

pub cell_at-cell-requires : goal.cell_at-cell-requires
unfolding table_of simple_table
cell_at-cell-requires c = facing_index _ _ _ c.requires.1 c.args.mode _ (table_of Simple) refl (index_simple _ _ _ _ _ _ c.simple_symbol.ensures.0 c.token_at-t.ensures)

pub returns : goal.returns
unfolding table_of simple_table
returns c = sees_cell _ _ _ _ _ _ c.token_at-t.ensures c.scalar-scalar.ensures _ _ (table_of Simple) _ (sym c.is_crowded.ensures ∙ c.if-is_crowded.false) refl refl (index_simple _ _ _ _ _ _ c.simple_symbol.ensures.0 c.token_at-t.ensures) c.cell_at-cell.ensures
