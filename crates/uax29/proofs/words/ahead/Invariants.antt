use mathlib.Core.Path.{◌≡◌}
use Prim.Native.Nat.{◌-◌}
use lib.ListN.{length}
use Rattle.uax29.specs.WordsSeen.{ahead}
use Rattle.uax29.proofs.words.ahead.Given as goal

abbrev pub invariant-loop-i : goal.invariant-loop-i
invariant-loop-i l = ahead l.words l.i (length l.words - l.i) ≡ ahead l.words l.at (length l.words - l.at)
