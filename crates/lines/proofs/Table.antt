-- The crate's own table and its list of classes, each by one computed test. Assumes nothing.
use mathlib.Core.Path.{◌≡◌, refl}
use mathlib.Core.Bool.{true, false}
use mathlib.Core.List.{[], ◌∷◌}
use Rattle.classes.proofs.Lists.{are_all_listed}
use Rattle.lines.specs.LineBreak.{len, line_breaks}
use Rattle.lines.specs.PairTable.{pair_table}
use Rattle.lines.specs.Refusals.{rows_of, bad_table}

-- codes count from 0, and there are as many as the length says
pub lines_listed : are_all_listed (record { codes = line_breaks; len = len } ∷ []) ≡ true
lines_listed = refl

-- the table has 53 rows, and is accepted: so every cell names a row that it has
pub table_accepted : (rows_of pair_table ≡ 53) × (bad_table pair_table ≡ false)
unfolding pair_table bad_table
table_accepted = (refl, refl)
