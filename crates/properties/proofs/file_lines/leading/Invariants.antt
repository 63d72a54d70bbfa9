use Rattle.properties.specs.Lines.{leading}
use lib.ListN.{length, drop}
use mathlib.Core.Path.{◌≡◌}
use Prim.Native.Nat.{◌+◌, ◌≤◌}
use Rattle.properties.proofs.file_lines.leading.Given as goal

abbrev pub invariant-loop-i : goal.invariant-loop-i
invariant-loop-i l = (l.i ≤ length l.bytes) × (l.i + leading (drop l.i l.bytes) ≡ leading l.bytes)
