use Rattle.cases.specs.Spans.{before}
use lib.ListN.{length, drop}
use mathlib.Core.Path.{◌≡◌}
use Prim.Native.Nat.{◌+◌, ◌≤◌, max}
use Rattle.cases.proofs.spans.end_of.Given as goal

abbrev pub invariant-loop-i : goal.invariant-loop-i
invariant-loop-i l = (l.i ≤ max l.at (length l.xs)) × (l.i + before l.s (drop l.i l.xs) ≡ l.at + before l.s (drop l.at l.xs))
