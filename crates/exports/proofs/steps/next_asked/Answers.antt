use Rattle.exports.proofs.StepLaws.{step_unknown, step_known}
use Rattle.exports.proofs.steps.next_asked.Goals as goal

pub returns-in_default : goal.returns-in_default
returns-in_default c = step_unknown _ _ _ _ _ _ c.requested.ensures _ _ c.in_default.is c.unlisted.ensures c.refused_at.ensures

pub returns : goal.returns
returns c = step_known _ _ _ _ _ _ c.requested.ensures _ _ _ _ c.in-Some.is c.next.ensures c.taken.ensures
