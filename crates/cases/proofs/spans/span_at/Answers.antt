use Rattle.cases.proofs.Splits.{span_none, span_here, span_within}
use Rattle.cases.proofs.spans.span_at.Goals as goal

pub returns-then-xs-at : goal.returns-then-xs-at
returns-then-xs-at c = search span_none

pub slice_bounds-result-end-2 : goal.slice_bounds-result-end-2
slice_bounds-result-end-2 c = span_within _ _ _ _ c.end_of-end.ensures c.if-xs-at.false

pub returns : goal.returns
returns c = search span_here
