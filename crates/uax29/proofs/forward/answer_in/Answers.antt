use Rattle.uax29.specs.GraphemeRows.{answer_in}
use mathlib.Core.Path.{refl}
use Rattle.uax29.proofs.forward.answer_in.Goals as goal

pub returns : goal.returns
returns c = unfold answer_in in refl
