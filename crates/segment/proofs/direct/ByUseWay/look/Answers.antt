use Rattle.segment.proofs.Loops.{crowds_use}
use Rattle.segment.proofs.Reading.{index_use, joins_use}
use Rattle.segment.proofs.Ways.{facing_inside, facing_row, facing_index, sees_cell}
use Rattle.segment.proofs.direct.ByUseWay.look.Goals as goal

pub token_at-t-requires : goal.token_at-t-requires
token_at-t-requires g c = (c.requires.0, facing_inside _ c.args.self.now.seen _ c.requires.1)

pub use_index-index-requires : goal.use_index-index-requires
use_index-index-requires g c = facing_row _ _ _ c.requires.1

pub cell_at-cell-requires : goal.cell_at-cell-requires
cell_at-cell-requires g c = facing_index _ _ _ c.requires.1 c.args.mode _ _ c.use_table.ensures (index_use _ _ _ _ _ _ _ c.use_index-index.ensures c.token_at-t.ensures)

pub returns : goal.returns
returns g c = sees_cell _ _ _ _ _ _ c.token_at-t.ensures c.scalar-scalar.ensures _ _ _ _ (crowds_use _ _ _ _ _ _ _) (joins_use _) c.use_table.ensures (index_use _ _ _ _ _ _ _ c.use_index-index.ensures c.token_at-t.ensures) c.cell_at-cell.ensures
