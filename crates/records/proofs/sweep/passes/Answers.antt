use Rattle.records.specs.Text.{lent}
use Rattle.records.proofs.Passing.{columns_pass}
use Rattle.records.proofs.sweep.passes.Goals as goal

pub returns : goal.returns
returns c = λ e.
    columns_pass (lent c.args.columns.now)
    (c.below.ensures c.if-not-below.false)
    (c.clean_scalars.ensures c.if-not-clean_scalars.false)
    (c.clean_scalars-else-not-clean_scalars.ensures c.if-not-clean_scalars-2.false)
    (c.ends_by.ensures e)
