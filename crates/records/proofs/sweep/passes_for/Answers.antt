use Rattle.records.specs.Text.{lent}
use Rattle.records.proofs.Passing.{columns_pass_for}
use Rattle.records.proofs.sweep.passes_for.Goals as goal

pub returns : goal.returns
returns c = λ e.
    columns_pass_for c.args.parser (lent c.args.columns.now)
    (c.below.ensures c.if-not-below.false)
    (c.are_spared.ensures c.if-not-are_spared.false)
    (c.are_spared-else-not-are_spared.ensures c.if-not-are_spared-2.false)
    (c.ends_by.ensures e)
