use Rattle.std.specs.Prelude.{Err}
use Rattle.exports.proofs.LineLaws.{lines_tight, lines_outside, lines_listed}
use mathlib.Core.Path.{ap}
use Rattle.exports.proofs.ezh_run_lines.Goals as goal

pub returns-then-results-lt-CHECK_ROOM : goal.returns-then-results-lt-CHECK_ROOM
returns-then-results-lt-CHECK_ROOM c = lines_tight _ _ _ _ _ _ _ c.if-results-lt-CHECK_ROOM.true

pub returns-in_default : goal.returns-in_default
returns-in_default c = lines_outside _ _ c.asked_by.ensures _ _ _ _ _ _ _ _ _ c.if-results-lt-CHECK_ROOM.false c.tell.ensures c.in_default.is (ap Err c.unlisted.ensures)

pub returns : goal.returns
returns c = lines_listed _ _ c.asked_by.ensures _ _ _ _ _ _ _ _ _ c.if-results-lt-CHECK_ROOM.false c.tell-2.ensures _ _ c.in-Some.is c.run.ensures.value c.run.ensures.out_after
