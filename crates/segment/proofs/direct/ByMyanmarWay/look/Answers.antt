use mathlib.Core.Path.{refl}
use Rattle.records.specs.declared.Parser.TheVariants.{Myanmar}
use Rattle.tables.specs.Symbols.{table_of}
use Rattle.tables.specs.MyanmarTable.{myanmar_table}
use Rattle.segment.proofs.Reading.{index_seen}
use Rattle.segment.proofs.Ways.{facing_inside, facing_row, facing_index, sees_cell}
use Rattle.segment.proofs.direct.ByMyanmarWay.look.Goals as goal

pub token_at-t-requires : goal.token_at-t-requires
token_at-t-requires c = (c.requires.0, facing_inside _ c.args.self.now.seen _ c.requires.1)

pub myanmar_index-index-requires : goal.myanmar_index-index-requires
myanmar_index-index-requires c = (facing_inside _ c.args.self.now.seen _ c.requires.1, facing_row _ _ _ c.requires.1)

pub cell_at-cell-requires : goal.cell_at-cell-requires
unfolding table_of myanmar_table
cell_at-cell-requires c = facing_index _ _ _ c.requires.1 c.args.mode _ (table_of Myanmar) refl (index_seen _ _ _ _ _ _ c.requires.0 _ _ _ _ _ c.token_at-t.ensures c.myanmar_index-index.ensures)

pub returns : goal.returns
unfolding table_of myanmar_table
returns c = sees_cell _ _ _ _ _ _ c.token_at-t.ensures c.scalar-scalar.ensures _ _ (table_of Myanmar) _ refl refl refl (index_seen _ _ _ _ _ _ c.requires.0 _ _ _ _ _ c.token_at-t.ensures c.myanmar_index-index.ensures) c.cell_at-cell.ensures
