use Rattle.uax29.specs.GraphemeRows.{row_in}
use mathlib.Core.Path.{refl}
use Rattle.uax29.proofs.forward.row_in.Goals as goal

pub returns : goal.returns
returns c = unfold row_in in refl
