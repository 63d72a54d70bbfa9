use Prim.Native.Nat.{◌≤◌}
use Rattle.properties.specs.Ranges.{ranges}
use Rattle.properties.proofs.Hits.{Scanned}
use Rattle.properties.proofs.ranges.Rows.scan.Given as goal

abbrev pub invariant-loop-i : goal.invariant-loop-i
invariant-loop-i l = (l.i ≤ l.n) × Scanned (ranges l.self.firsts.now l.self.lasts.now l.self.codes.now l.n) l.scalar l.n l.i
