use Prim.Native.Nat.{ℕ, ◌<◌}
use mathlib.Core.Path.{◌≡◌}
use Rattle.records.specs.Text.{cell}
use Rattle.segment.specs.Seen.{Single}
use Rattle.segment.proofs.regular.all_single.Given as goal

abbrev pub invariant-loop-i : goal.invariant-loop-i
invariant-loop-i l = l.odd ≡ 0 → (k : ℕ) → k < l.i → Single l.khmer (cell l.scalars k) (cell l.decomposes k)
