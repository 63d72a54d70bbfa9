use Rattle.uax29.proofs.GraphemeSummary.{step_refused, step_passed}
use Rattle.uax29.proofs.graphemes.GraphemeState.step.Goals as goal

pub returns-in_default : goal.returns-in_default
returns-in_default c = search step_refused

pub returns : goal.returns
returns c = search step_passed
