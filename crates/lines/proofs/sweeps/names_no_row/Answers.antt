use Rattle.lines.proofs.Greatest.{any_halves}
use Rattle.lines.proofs.sweeps.names_no_row.Goals as goal

pub returns : goal.returns
returns c = any_halves c.args.table.now c.requires.1 _ _ c.either_names.ensures
