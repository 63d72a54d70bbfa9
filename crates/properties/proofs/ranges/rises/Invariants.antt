use Prim.Native.Nat.{◌≤◌}
use mathlib.Core.Path.{◌≡◌}
use mathlib.Core.Bool.{true}
use Rattle.basics.specs.Sets.{every}
use Rattle.properties.specs.Inner.{cell_before, rises_at}
use Rattle.properties.proofs.ranges.rises.Given as goal

abbrev pub invariant-loop-i : goal.invariant-loop-i
invariant-loop-i l = (l.i ≤ l.n) × ((every (rises_at l.column) l.i ≡ true) × (l.before ≡ cell_before l.column l.i))
