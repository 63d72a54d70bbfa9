use Rattle.exports.proofs.LineLaws.{line_outside, line_listed}
use Rattle.exports.proofs.linesteps.line_for.Goals as goal

pub returns-in_default : goal.returns-in_default
returns-in_default c = line_outside _ _ c.asked_by.ensures _ _ _ _ c.in_default.is c.unlisted.ensures

pub returns : goal.returns
returns c = line_listed _ _ c.asked_by.ensures _ _ _ _ _ c.in-Some.is c.step.ensures
