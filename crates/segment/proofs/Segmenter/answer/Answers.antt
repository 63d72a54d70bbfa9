use Rattle.segment.proofs.CallLaws.{answer_past, answer_over, answer_found}
use Rattle.segment.proofs.Segmenter.answer.Goals as goal

pub returns-then-text-at : goal.returns-then-text-at
returns-then-text-at c = answer_past _ _ _ c.if-text-at.true c.refused.ensures

pub returns-then-at-text : goal.returns-then-at-text
returns-then-at-text c = answer_over _ _ _ c.if-text-at.false c.if-at-text.true c.end.ensures

pub returns : goal.returns
returns c = answer_found _ _ _ _ c.if-text-at.false c.if-at-text.false c.call.ensures c.found.ensures
