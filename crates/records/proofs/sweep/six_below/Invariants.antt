use Rattle.records.proofs.Passing.{SixSo}
use Rattle.records.proofs.sweep.six_below.Given as goal

abbrev pub invariant-loop-i : goal.invariant-loop-i
invariant-loop-i l = SixSo l.limits l.a l.b l.c l.d l.e l.f l.i l.odd
