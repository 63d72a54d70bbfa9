use native.Mathlib.Omega.{arith}
use Rattle.properties.proofs.Hits.{scan_all, scan_over, scan_hit, scan_pass}
use borrow.Author.Rules.{rules}
use Rattle.properties.proofs.ranges.Rows.scan.Goals as goal

pub loop-i-init : goal.loop-i-init
loop-i-init c = (search rules, scan_all _ _ _)

pub returns-then-is_in : goal.returns-then-is_in
returns-then-is_in c = scan_hit _ _ _ _ c.loop-i.invariant.1 _ c.is_in.ensures (omega arith) c.if-is_in.true

pub loop-i-preserved : goal.loop-i-preserved
loop-i-preserved c = (search rules, scan_pass _ _ _ _ c.loop-i.invariant.1 _ c.is_in.ensures (omega arith) c.if-is_in.false)

pub returns : goal.returns
returns c = scan_over _ _ _ _ c.loop-i.invariant.1 (omega arith)
