use Prim.Native.Nat.{ℕ, ◌<◌}
use mathlib.Core.Path.{◌≡◌}
use mathlib.Core.Bool.{true}
use Rattle.records.specs.Text.{cell}
use Rattle.tables.specs.Symbols.{regular_use}
use Rattle.segment.proofs.regular.all_use.Given as goal

abbrev pub invariant-loop-i : goal.invariant-loop-i
invariant-loop-i l = l.odd ≡ 0 → (k : ℕ) → k < l.i → regular_use l.khmer (cell l.scalars k) (cell l.kinds k) (cell l.emojis k) ≡ true
