use mathlib.Core.Path.{refl}
use native.Mathlib.Omega.{arith}
use Rattle.properties.specs.Inner.{some}
use Rattle.properties.proofs.Meetings.{held_hit, held_more, held_over}
use borrow.Author.Rules.{rules}
use Rattle.properties.proofs.meets.met_in.Goals as goal

pub loop-k-init : goal.loop-k-init
loop-k-init c = unfold some in (search rules, refl)

pub returns-then-shares : goal.returns-then-shares
returns-then-shares c = held_hit _ _ _ _ _ _ _ c.shares.ensures (omega arith) c.if-shares.true

pub loop-k-preserved : goal.loop-k-preserved
loop-k-preserved c = (search rules, held_more c.args.firsts.now c.args.lasts.now c.args.n _ _ c.loop-k.k _ c.shares.ensures c.loop-k.invariant.1 c.if-shares.false)

pub returns : goal.returns
returns c = held_over _ _ _ _ _ _ c.loop-k.invariant.1 (omega arith)
