use Rattle.label.proofs.Columns.{found_here}
use Rattle.label.proofs.lookup.class_in.Goals as goal

pub returns-then-x-cell : goal.returns-then-x-cell
returns-then-x-cell c = search found_here
