use mathlib.Core.Path.{refl}
use Rattle.records.specs.Text.{lent}
use Rattle.segment.proofs.Partings.{read_whole, read_split}
use Rattle.segment.proofs.parted.taken_at.Goals as goal

pub returns-then-is_whole : goal.returns-then-is_whole
returns-then-is_whole c = read_whole c.args.mode c.args.khmer (lent c.args.columns.now) _ _ _ c.args.s _ c.is_whole.ensures c.if-is_whole.true c.token_at-token.ensures refl

pub returns : goal.returns
returns c = read_split c.args.mode c.args.khmer (lent c.args.columns.now) _ _ _ c.args.s _ c.is_whole.ensures c.if-is_whole.false c.take.ensures
