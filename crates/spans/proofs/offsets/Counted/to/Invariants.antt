use Prim.Native.Nat.{◌≤◌}
use mathlib.Core.Path.{◌≡◌}
use Rattle.spans.specs.Offsets.{offset_of}
use Rattle.spans.proofs.offsets.Counted.to.Given as goal

abbrev pub invariant-loop-i : goal.invariant-loop-i
invariant-loop-i l = (l.i ≤ l.index) × (l.bytes ≡ offset_of l.scalars l.i)
