use mathlib.Core.Path.{◌≡◌}
use lib.ListN.{length}
use Rattle.basics.proofs.Columns.{Written}
use Rattle.uax29.specs.EditionRuns.{start_in}
use Rattle.uax29.proofs.editions.decide_starts_in.Given as goal

abbrev pub invariant-loop-i : goal.invariant-loop-i
invariant-loop-i l = (length l.out ≡ length l.initial.out) × Written (start_in l.edition l.breaks l.marks l.conjuncts) l.initial.out l.i l.out
