use native.Mathlib.Omega.{arith}
use Rattle.properties.proofs.Grammar.{lead_over, lead_more, lead_here}
use borrow.Author.Rules.{rules}
use Rattle.properties.proofs.file_lines.leading.Goals as goal

pub loop-i-preserved : goal.loop-i-preserved
loop-i-preserved c = (search rules, lead_more _ _ c.loop-i.invariant.1 _ c.is_blank.ensures (omega arith) c.if-not-is_blank.false)

pub returns-then-not-is_blank-clause-value : goal.returns-then-not-is_blank-clause-value
returns-then-not-is_blank-clause-value c = lead_here _ _ c.loop-i.invariant.1 _ c.is_blank.ensures (omega arith) c.if-not-is_blank.true

pub returns-clause-value : goal.returns-clause-value
returns-clause-value c = lead_over _ _ c.loop-i.invariant.1 (omega arith) (omega arith)
