use Rattle.uax29.proofs.EditionLaws.{step_refused, step_good, step_passed}
use Rattle.uax29.proofs.editions.EditionState.step.Goals as goal

pub returns-in_default : goal.returns-in_default
returns-in_default c = search step_refused

pub answer-requires : goal.answer-requires
answer-requires c = search step_good

pub returns : goal.returns
returns c = search step_passed
