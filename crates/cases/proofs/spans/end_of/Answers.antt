use mathlib.Core.Path.{◌≡◌, ◌∙◌}
use native.Mathlib.Omega.{arith}
use Rattle.cases.proofs.Splits.{end_here, end_pass, end_over}
use Rattle.cases.proofs.spans.end_of.Goals as goal

pub returns-then-xs-i : goal.returns-then-xs-i
returns-then-xs-i c = search end_here

pub loop-i-preserved : goal.loop-i-preserved
loop-i-preserved c = (omega arith, end_pass _ _ _ _ c.loop-i.invariant.1 c.loop-i-test.true c.if-xs-i.false)

pub returns : goal.returns
returns c =
    let e : c.max.result ≡ c.loop-i.i = omega (arith, c.max.ensures, c.loop-i.invariant.0, c.loop-i.auto.i) in
    e ∙ end_over _ _ _ _ c.loop-i.invariant.1 c.loop-i-test.false
