use mathlib.Core.Path.{◌≡◌, refl}
use native.Mathlib.Omega.{arith}
use Rattle.cases.proofs.Splits.{rest_more, span_read}
use Rattle.cases.specs.Spans.{rest}
use Rattle.cases.proofs.spans.span.Goals as goal

pub loop-init : goal.loop-init
loop-init c = unfold rest in refl

pub loop-preserved : goal.loop-preserved
loop-preserved c = search rest_more

pub returns : goal.returns
returns c = let e : c.loop.counter ≡ c.args.k = omega arith in rw (← e) (span_read _ _ _ c.loop.at c.loop.invariant _ c.span_at.ensures)
