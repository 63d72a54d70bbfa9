use native.Mathlib.Omega.{arith}
use mathlib.Core.Path.{◌∙◌, sym}
use Rattle.segment.proofs.CallTurns.{run_fits, run_turn, run_falls, run_over}
use Rattle.segment.proofs.runs.finish.Goals as goal

pub loop-s-init : goal.loop-s-init
loop-s-init c = (c.requires, λ s₀ c₀ n₀ r q. q)

pub write-requires : goal.write-requires
write-requires c = run_fits _ _ _ _ _ _ _ _ _ _ _ _ c.loop-s.invariant.0.roomy c.loop-s.invariant.0.running c.loop-s-test.true _ c.call-p.ensures

pub overflow_add-s-in-loop-s : goal.overflow_add-s-in-loop-s
overflow_add-s-in-loop-s c = omega (arith, (run_fits _ _ _ _ _ _ _ _ _ _ _ _ c.loop-s.invariant.0.roomy c.loop-s.invariant.0.running c.loop-s-test.true _ c.call-p.ensures).most, c.loop-s.invariant.0.running.room, c.loop-s.invariant.0.running.inside, c.loop-s.invariant.0.roomy.short)

pub loop-s-smaller : goal.loop-s-smaller
loop-s-smaller c = run_falls _ _ _ _ _ _ _ _ _ _ _ _ c.loop-s.invariant.0.roomy c.loop-s.invariant.0.running c.loop-s-test.true _ c.call-p.ensures _ c.place.ensures

pub loop-s-preserved : goal.loop-s-preserved
loop-s-preserved c = (record { scalars₀ = c.loop-s.invariant.0.scalars₀; classes₀ = c.loop-s.invariant.0.classes₀; clusters₀ = c.loop-s.invariant.0.clusters₀; roomy = c.loop-s.invariant.0.roomy; running = run_turn _ _ _ _ _ _ _ _ _ _ _ _ c.loop-s.invariant.0.roomy c.loop-s.invariant.0.running c.loop-s-test.true _ c.call-p.ensures _ _ _ _ c.write.ensures.scalar c.write.ensures.class c.write.ensures.cluster c.place.ensures }, λ s₀ c₀ n₀ r q. run_turn _ _ _ _ _ _ _ _ _ _ _ _ r (c.loop-s.invariant.1 s₀ c₀ n₀ r q) c.loop-s-test.true _ c.call-p.ensures _ _ _ _ c.write.ensures.scalar c.write.ensures.class c.write.ensures.cluster c.place.ensures)

pub shape_of-oscalars : goal.shape_of-oscalars
shape_of-oscalars c = (c.loop-s.invariant.1 _ _ _ c.requires.roomy c.requires.running).scalar.0 ∙ sym c.requires.running.scalar.0

pub shape_of-oclasses : goal.shape_of-oclasses
shape_of-oclasses c = (c.loop-s.invariant.1 _ _ _ c.requires.roomy c.requires.running).class.0 ∙ sym c.requires.running.class.0

pub shape_of-oclusters : goal.shape_of-oclusters
shape_of-oclusters c = (c.loop-s.invariant.1 _ _ _ c.requires.roomy c.requires.running).cluster.0 ∙ sym c.requires.running.cluster.0

pub returns : goal.returns
returns c = λ s₀ c₀ n₀ r q. rw c.accepted.ensures (run_over _ _ _ _ _ _ _ _ _ _ _ _ r (c.loop-s.invariant.1 s₀ c₀ n₀ r q) c.loop-s-test.false)
