use Rattle.exports.proofs.StateLaws.{step_tight, step_roomy}
use Rattle.exports.specs.Lines.{next_judged, next_after}
use mathlib.Core.Path.{refl}
use Rattle.exports.proofs.ezh_step_next.Goals as goal

pub returns-then-results-lt-NEXT_ROOM : goal.returns-then-results-lt-NEXT_ROOM
returns-then-results-lt-NEXT_ROOM c = step_tight _ _ _ _ _ c.if-results-lt-NEXT_ROOM.true refl

pub returns : goal.returns
returns c = step_roomy _ (next_judged _ _) (λ s. next_after s) _ _ _ _ _ _ c.if-results-lt-NEXT_ROOM.false c.next.ensures c.tell_next.ensures
