use borrow.Author.Tests.{eqb-true}
use mathlib.Core.Path.{refl}
use Rattle.records.proofs.Passing.{joined_more, clean_all}
use Rattle.records.proofs.sweep.clean_scalars.Goals as goal

pub loop-x-preserved : goal.loop-x-preserved
loop-x-preserved c = joined_more _ _ _ _ _ c.loop-x.invariant c.oddness-odd.ensures refl

pub returns : goal.returns
returns c = λ e. clean_all c.args.column.now _ _ c.loop-x.invariant c.loop-x-test.false (eqb-true _ _ e)
