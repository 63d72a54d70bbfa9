use native.Mathlib.Omega.{arith}
use Rattle.properties.proofs.Tables.{left_over, left_found, left_more}
use Rattle.properties.proofs.names.find.Goals as goal

pub loop-code-preserved : goal.loop-code-preserved
loop-code-preserved c = left_more _ _ _ _ _ c.loop-code.invariant (omega arith) _ c.span_at.ensures _ c.eq.ensures c.if-eq.false _ c.next_of-at.ensures

pub returns-then-eq : goal.returns-then-eq
returns-then-eq c = left_found _ _ _ c.loop-code.at _ c.loop-code.invariant (omega arith) _ c.span_at.ensures _ c.eq.ensures c.if-eq.true

pub returns : goal.returns
returns c = left_over c.args.names.now c.args.codes.now c.args.value.now c.loop-code.at c.loop-code.code-index c.loop-code.invariant (omega arith)
