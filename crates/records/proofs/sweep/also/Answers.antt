use Rattle.records.proofs.Passing.{none_joined}
use Rattle.std.specs.Prelude.{refl}
use Rattle.records.proofs.sweep.also.Goals as goal

pub returns : goal.returns
returns c = λ e. let n = none_joined _ _ _ refl e in (n.0, c.outside.ensures n.1)
