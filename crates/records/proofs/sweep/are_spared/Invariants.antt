use Rattle.records.proofs.Passing.{SparedSo}
use Rattle.records.proofs.sweep.are_spared.Given as goal

abbrev pub invariant-loop-i : goal.invariant-loop-i
invariant-loop-i l = SparedSo l.parser l.scalars l.uses l.i
