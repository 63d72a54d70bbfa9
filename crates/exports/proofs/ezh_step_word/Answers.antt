use Rattle.exports.proofs.StateLaws.{step_tight, step_roomy}
use Rattle.exports.specs.Words.{word_judged, word_after}
use mathlib.Core.Path.{refl}
use Rattle.exports.proofs.ezh_step_word.Goals as goal

pub returns-then-results-lt-WORD_ROOM : goal.returns-then-results-lt-WORD_ROOM
returns-then-results-lt-WORD_ROOM c = step_tight _ _ _ _ _ c.if-results-lt-WORD_ROOM.true refl

pub returns : goal.returns
returns c = step_roomy _ (word_judged _) (λ s. word_after s) _ _ _ _ _ _ c.if-results-lt-WORD_ROOM.false c.step.ensures c.tell_word.ensures
