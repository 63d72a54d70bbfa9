use Prim.Native.Nat.{◌-◌}
use mathlib.Core.Path.{◌≡◌}
use lib.ListN.{length}
use Rattle.parse.specs.Inner.{step_past}
use Rattle.parse.proofs.state.step_past.Given as goal

-- What is left to pass gives the whole.
abbrev pub invariant-loop-len : goal.invariant-loop-len
invariant-loop-len l = step_past (32 - l.len) (length l.text) l.text l.i ≡ step_past (32 - l.initial.len) (length l.text) l.text l.initial.i

abbrev pub decreases-loop-len : goal.decreases-loop-len
decreases-loop-len l = 32 - l.len
