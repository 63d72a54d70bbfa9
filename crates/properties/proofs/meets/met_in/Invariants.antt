use Prim.Native.Nat.{◌≤◌}
use Rattle.properties.proofs.Meetings.{Unmet}
use Rattle.properties.proofs.meets.met_in.Given as goal

abbrev pub invariant-loop-k : goal.invariant-loop-k
invariant-loop-k l = (l.k ≤ l.n) × Unmet l.firsts l.lasts l.n l.first l.last l.k
