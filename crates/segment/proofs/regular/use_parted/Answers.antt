use Rattle.records.specs.Text.{lent}
use Rattle.records.specs.declared.Parser.TheVariants.{Complex}
use Rattle.segment.proofs.Regulars.{even, parts_long}
use Rattle.segment.proofs.regular.use_parted.Goals as goal

pub all_parts-requires : goal.all_parts-requires
all_parts-requires c = parts_long _ (lent c.args.columns.now) c.requires

pub all_use-requires : goal.all_use-requires
all_use-requires c = ((even _ (lent c.args.columns.now) c.requires Complex).kind, (even _ (lent c.args.columns.now) c.requires Complex).emoji)

pub returns-then-all_parts : goal.returns-then-all_parts
returns-then-all_parts c = λ e. (c.all_parts.ensures c.if-all_parts.true, c.all_use.ensures e)
