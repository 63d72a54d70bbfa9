use Rattle.spans.proofs.Steps.{some_spannable, spanned_some, spanned_none}
use Rattle.spans.proofs.next.Goals as goal

pub returns-then-answer-eq0 : goal.returns-then-answer-eq0
returns-then-answer-eq0 c = spanned_none _ _ _ c.next-answer.ensures c.if-answer-eq0.true

pub spans_at-spans-requires : goal.spans_at-spans-requires
spans_at-spans-requires c = some_spannable _ _ _ c.next-answer.ensures c.if-answer-eq0.false

pub returns : goal.returns
returns c = spanned_some _ _ _ c.next-answer.ensures _ c.spans_at-spans.ensures
