use Rattle.exports.proofs.StateLaws.{step_tight, step_roomy}
use Rattle.exports.specs.Editions.{edition_judged, edition_after}
use mathlib.Core.Path.{refl}
use Rattle.exports.proofs.ezh_step_edition.Goals as goal

pub returns-then-results-lt-EDITION_ROOM : goal.returns-then-results-lt-EDITION_ROOM
returns-then-results-lt-EDITION_ROOM c = step_tight _ _ _ _ _ c.if-results-lt-EDITION_ROOM.true refl

pub returns : goal.returns
returns c = step_roomy _ (edition_judged _) (λ s. edition_after s) _ _ _ _ _ _ c.if-results-lt-EDITION_ROOM.false c.step.ensures c.tell_edition.ensures
