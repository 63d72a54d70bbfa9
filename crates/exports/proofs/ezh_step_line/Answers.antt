use Rattle.exports.proofs.StateLaws.{step_tight, step_roomy}
use Rattle.exports.specs.Lines.{line_judged, line_after}
use mathlib.Core.Path.{refl}
use Rattle.exports.proofs.ezh_step_line.Goals as goal

pub returns-then-results-lt-LINE_ROOM : goal.returns-then-results-lt-LINE_ROOM
returns-then-results-lt-LINE_ROOM c = step_tight _ _ _ _ _ c.if-results-lt-LINE_ROOM.true refl

pub returns : goal.returns
returns c = step_roomy _ (line_judged _) (λ s. line_after s) _ _ _ _ _ _ c.if-results-lt-LINE_ROOM.false c.line_from.ensures c.tell_line.ensures
