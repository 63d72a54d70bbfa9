use Rattle.records.proofs.Passing.{spared_all}
use Rattle.records.proofs.sweep.are_spared.Goals as goal

pub returns : goal.returns
returns c = λ e. spared_all _ _ _ _ c.loop-i.invariant c.loop-i-test.false
