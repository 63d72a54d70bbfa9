use native.Mathlib.Omega.{arith}
use Rattle.properties.proofs.Grammar.{end_over, end_more, end_here}
use Rattle.properties.proofs.file_lines.ending.Goals as goal

pub loop-i-preserved : goal.loop-i-preserved
loop-i-preserved c = end_more _ _ c.loop-i.invariant _ c.is_blank.ensures (omega arith) c.if-not-is_blank.false

pub returns-then-not-is_blank-clause-value : goal.returns-then-not-is_blank-clause-value
returns-then-not-is_blank-clause-value c = end_here _ _ c.loop-i.invariant _ c.is_blank.ensures (omega arith) c.if-not-is_blank.true

pub returns-clause-value : goal.returns-clause-value
returns-clause-value c = end_over _ _ c.loop-i.invariant (omega arith)
