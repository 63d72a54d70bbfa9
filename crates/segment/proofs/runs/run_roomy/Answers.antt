use native.Mathlib.Omega.{arith}
use Rattle.segment.proofs.CallTurns.{run_over}
use Rattle.segment.proofs.runs.run_roomy.Goals as goal

pub run_rest-requires : goal.run_rest-requires
run_rest-requires c = (omega (arith, c.requires.tokens, c.requires.roomy.short), record { fits = omega (arith, c.requires.tokens); stands = record { scalars₀ = _; classes₀ = _; clusters₀ = _; roomy = c.requires.roomy; running = c.begin-from.ensures } })

pub returns-then-from-task : goal.returns-then-from-task
returns-then-from-task c = c.run_rest.ensures _ _ _ c.requires.roomy c.begin-from.ensures

pub returns : goal.returns
returns c = rw c.accepted.ensures (run_over _ _ _ _ _ _ _ _ _ _ _ _ c.requires.roomy c.begin-from.ensures (omega (arith, c.requires.tokens, c.if-from-task.false)))
