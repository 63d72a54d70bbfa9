use Rattle.exports.proofs.Runs.{answered_tight, answered_told}
use mathlib.Core.Path.{refl}
use Rattle.exports.proofs.ezh_run_words.Goals as goal

pub returns-then-results-lt-CHECK_ROOM : goal.returns-then-results-lt-CHECK_ROOM
returns-then-results-lt-CHECK_ROOM c = answered_tight _ _ _ _ c.if-results-lt-CHECK_ROOM.true refl

pub returns : goal.returns
returns c = answered_told _ _ _ _ _ _ _ c.if-results-lt-CHECK_ROOM.false c.run.ensures.value c.run.ensures.out_after c.tell.ensures
