use Rattle.exports.proofs.StepLaws.{step_numbers_lem}
use Rattle.exports.proofs.steps.tell_step.Goals as goal

pub returns : goal.returns
returns c = step_numbers_lem c.args.a _ _ _ _ _ _ _ c.verdict.ensures (simp (c.code.ensures, c.from.ensures, c.code-2.ensures, c.scalar.ensures, c.mark.ensures, c.mark-2.ensures)) c.numbered-n.ensures c.put.ensures
