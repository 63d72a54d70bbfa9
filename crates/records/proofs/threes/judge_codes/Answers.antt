use Rattle.records.proofs.Marks.{three_accepted}
use Rattle.records.proofs.threes.judge_codes.Goals as goal

pub returns-then-is_clean-2 : goal.returns-then-is_clean-2
returns-then-is_clean-2 c = three_accepted _ _ _ _ _ (c.is_clean.ensures c.if-is_clean.true) (c.is_clean-then-is_clean.ensures c.if-is_clean-2.true)
