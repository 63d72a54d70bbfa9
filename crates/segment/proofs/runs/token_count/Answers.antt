use Rattle.segment.proofs.Regulars.{direct_length}
use Rattle.segment.proofs.CallLaws.{counted}
use Rattle.stream.proofs.Accepted.{few}
use mathlib.Core.Path.{◌∙◌}
use Rattle.records.specs.Text.{lent}
use Rattle.segment.proofs.runs.token_count.Goals as goal

pub returns-then-direct : goal.returns-then-direct
returns-then-direct c = direct_length _ _ (lent c.args.columns.now) c.requires.sound (c.requires.direct c.if-direct.true)

pub returns-else-direct : goal.returns-else-direct
returns-else-direct c = c.count_of.ensures ∙ counted _ _ (lent c.args.columns.now) (few _ (lent c.args.columns.now) c.requires.sound)
