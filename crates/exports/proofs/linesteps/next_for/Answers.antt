use Rattle.exports.proofs.LineLaws.{next_outside, next_listed}
use Rattle.exports.proofs.linesteps.next_for.Goals as goal

pub returns-in_default : goal.returns-in_default
returns-in_default c = next_outside _ _ c.asked_by.ensures _ _ _ _ _ _ _ c.in_default.is c.unlisted.ensures

pub returns : goal.returns
returns c = next_listed _ _ c.asked_by.ensures _ _ _ _ _ _ _ _ c.in-Some.is c.next.ensures
