use Prim.Native.Nat.{◌≤◌}
use mathlib.Core.Path.{◌≡◌}
use lib.ListN.{length}
use Rattle.basics.proofs.Columns.{Written}
use Rattle.properties.specs.Ranges.{ranges, class_at}
use Rattle.properties.proofs.lookups.fill.Given as goal

abbrev pub invariant-loop-i : goal.invariant-loop-i
invariant-loop-i l = (l.i ≤ length l.scalars) × ((length l.out ≡ length l.initial.out) × Written (class_at (ranges l.rows.firsts.now l.rows.lasts.now l.rows.codes.now l.held) l.scalars) l.initial.out l.i l.out)
