use mathlib.Core.Path.{refl}
use Rattle.segment.proofs.Loops.{crowds_use}
use Rattle.segment.proofs.Reading.{index_use, joins_use}
use Rattle.segment.proofs.Ways.{facing_row, facing_index, sees_cell}
use Rattle.segment.proofs.tabled.ByTokensWay.look.Goals as goal

pub use_index-index-requires : goal.use_index-index-requires
use_index-index-requires g c = facing_row _ _ _ c.requires.1

pub cell_at-cell-requires : goal.cell_at-cell-requires
cell_at-cell-requires g c = facing_index _ _ _ c.requires.1 c.args.mode _ _ c.use_table.ensures (index_use _ _ _ _ _ _ _ c.use_index-index.ensures refl)

pub returns : goal.returns
returns g c = sees_cell _ _ _ _ _ _ refl c.scalar-scalar.ensures _ _ _ _ (crowds_use _ _ _ _ _ _ _) (joins_use _) c.use_table.ensures (index_use _ _ _ _ _ _ _ c.use_index-index.ensures refl) c.cell_at-cell.ensures
