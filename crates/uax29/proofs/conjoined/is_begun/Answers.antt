use native.Mathlib.Omega.{arith}
use Rattle.uax29.proofs.Links.{begun_back, begun_parted, begun_on}
use Rattle.uax29.proofs.conjoined.is_begun.Goals as goal

pub returns-in-1 : goal.returns-in-1
returns-in-1 c = search begun_back depth 8

pub loop-i-preserved : goal.loop-i-preserved
loop-i-preserved c = begun_on _ _ _ c.loop-i-test.true _ c.cell.ensures c.loop-i.invariant (omega arith) (omega arith)

pub returns-in_default : goal.returns-in_default
returns-in_default c = begun_parted _ _ _ c.loop-i-test.true _ c.cell.ensures c.loop-i.invariant (λ e. omega arith) (λ e. omega arith) (λ e. omega arith)

pub returns-in_default-2 : goal.returns-in_default-2
returns-in_default-2 c = begun_parted _ _ _ c.loop-i-test.true _ c.cell.ensures c.loop-i.invariant (λ e. omega arith) (λ e. omega arith) (λ e. omega arith)

pub returns : goal.returns
returns c = search begun_back depth 8
