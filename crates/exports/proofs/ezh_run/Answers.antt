use Rattle.exports.proofs.Runs.{run_tight, run_unknown, run_known}
use Rattle.exports.proofs.ezh_run.Goals as goal

pub returns-then-results-lt-RUN_ROOM : goal.returns-then-results-lt-RUN_ROOM
returns-then-results-lt-RUN_ROOM c = run_tight _ _ _ _ _ _ _ c.if-results-lt-RUN_ROOM.true

pub returns-in_default : goal.returns-in_default
returns-in_default c = run_unknown _ _ _ _ _ _ _ _ c.requested.ensures _ _ _ c.if-results-lt-RUN_ROOM.false c.tell_run.ensures _ c.in_default.is c.unlisted.ensures c.refused.ensures

pub returns : goal.returns
returns c = run_known _ _ _ _ _ _ _ _ c.requested.ensures _ _ _ c.if-results-lt-RUN_ROOM.false c.tell_run-2.ensures _ _ _ _ _ c.in-Some.is c.run-answer.ensures
