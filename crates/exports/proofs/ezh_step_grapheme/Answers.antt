use Rattle.exports.proofs.StateLaws.{step_tight, step_roomy}
use Rattle.exports.specs.Graphemes.{grapheme_judged, grapheme_after}
use mathlib.Core.Path.{refl}
use Rattle.exports.proofs.ezh_step_grapheme.Goals as goal

pub returns-then-results-lt-GRAPHEME_ROOM : goal.returns-then-results-lt-GRAPHEME_ROOM
returns-then-results-lt-GRAPHEME_ROOM c = step_tight _ _ _ _ _ c.if-results-lt-GRAPHEME_ROOM.true refl

pub returns : goal.returns
returns c = step_roomy _ (grapheme_judged _) (λ s. grapheme_after s) _ _ _ _ _ _ c.if-results-lt-GRAPHEME_ROOM.false c.step.ensures c.tell_grapheme.ensures
