use Prim.Native.Nat.{◌-◌}
use mathlib.Core.Path.{◌≡◌}
use native.Mathlib.Omega.{arith}
use Rattle.cases.proofs.Laid.{lay_none, lay_more}
use Rattle.cases.proofs.table.lay.Goals as goal

pub loop-i-init : goal.loop-i-init
loop-i-init c = (omega arith, lay_none _ c.args.from c.args.v)

pub loop-i-preserved : goal.loop-i-preserved
loop-i-preserved c = (omega arith, lay_more _ _ _ _ _ c.loop-i.auto.i c.loop-i.invariant.1)

pub returns : goal.returns
returns c = let e : c.loop-i.i - c.args.from ≡ c.args.end - c.args.from = omega arith in rw (← e) c.loop-i.invariant.1
