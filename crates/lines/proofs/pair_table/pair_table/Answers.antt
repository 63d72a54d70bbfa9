use mathlib.Core.Path.{refl}
use Rattle.lines.specs.PairTable.{pair_table}
use Rattle.lines.proofs.pair_table.pair_table.Goals as goal

pub returns : goal.returns
returns c = unfold pair_table in refl
