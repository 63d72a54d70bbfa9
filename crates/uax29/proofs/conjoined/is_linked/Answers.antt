use native.Mathlib.Omega.{arith}
use Rattle.uax29.proofs.Links.{linked_back, linked_on}
use Rattle.uax29.proofs.conjoined.is_linked.Goals as goal

pub returns-in-2 : goal.returns-in-2
returns-in-2 c = search linked_back depth 8

pub loop-i-preserved : goal.loop-i-preserved
loop-i-preserved c = linked_on _ _ _ c.loop-i-test.true _ c.cell.ensures c.loop-i.invariant (λ e. omega arith) (omega arith)

pub returns-in_default : goal.returns-in_default
returns-in_default c = search linked_back depth 8

pub returns : goal.returns
returns c = search linked_back depth 8
