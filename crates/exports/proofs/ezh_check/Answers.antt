use Rattle.exports.specs.Calls.{check_verdict}
use Rattle.exports.proofs.Refusals.{three_tight, three_told}
use Rattle.exports.proofs.ezh_check.Goals as goal

pub returns-then-results-lt-CHECK_ROOM : goal.returns-then-results-lt-CHECK_ROOM
returns-then-results-lt-CHECK_ROOM c = unfold check_verdict in three_tight _ _ c.if-results-lt-CHECK_ROOM.true

pub returns : goal.returns
returns c = unfold check_verdict in three_told _ _ _ _ _ c.if-results-lt-CHECK_ROOM.false c.check_asked.ensures c.tell.ensures
