use Rattle.exports.proofs.StepLaws.{step_fits, step_tight, step_told}
use Rattle.exports.proofs.ezh_step.Goals as goal

pub returns-then-results-lt-STEP_ROOM : goal.returns-then-results-lt-STEP_ROOM
returns-then-results-lt-STEP_ROOM c = step_tight _ _ _ _ _ _ _ _ _ c.if-results-lt-STEP_ROOM.true

pub hand_over-requires : goal.hand_over-requires
hand_over-requires c = step_fits _ _ _ _ _ _ _ _ _ _ c.shortest.ensures c.next_asked-answer.ensures

pub returns : goal.returns
returns c = step_told _ _ _ _ _ _ _ _ _ _ _ _ _ _ _ _ _ c.if-results-lt-STEP_ROOM.false c.shortest.ensures c.next_asked-answer.ensures c.hand_over.ensures
