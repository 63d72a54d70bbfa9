use Rattle.records.specs.Text.{lent}
use Rattle.records.specs.declared.Parser.TheVariants.{Complex}
use Rattle.segment.proofs.Regulars.{even, marks_long}
use Rattle.segment.proofs.regular.use_direct.Goals as goal

pub all_single-requires : goal.all_single-requires
all_single-requires c = marks_long _ (lent c.args.columns.now) c.requires

pub all_use-requires : goal.all_use-requires
all_use-requires c = ((even _ (lent c.args.columns.now) c.requires Complex).kind, (even _ (lent c.args.columns.now) c.requires Complex).emoji)

pub returns-then-all_single : goal.returns-then-all_single
returns-then-all_single c = λ e. (c.all_single.ensures c.if-all_single.true, c.all_use.ensures e)
