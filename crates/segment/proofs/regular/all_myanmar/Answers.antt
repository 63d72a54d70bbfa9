use Rattle.records.proofs.Passing.{joined_more}
use Rattle.segment.proofs.Regulars.{each_all}
use borrow.Author.Tests.{eqb-true}
use native.Mathlib.Omega.{arith}
use mathlib.Core.Path.{refl}
use Rattle.segment.proofs.regular.all_myanmar.Goals as goal

pub loop-i-init : goal.loop-i-init
loop-i-init c = λ e k h. absurd (omega arith)

pub loop-i-preserved : goal.loop-i-preserved
loop-i-preserved c = joined_more _ _ _ _ _ c.loop-i.invariant c.odd_myanmar-odd.ensures refl

pub returns : goal.returns
returns c = λ e. each_all _ _ _ _ c.loop-i.invariant c.loop-i-test.false (eqb-true _ _ e)
