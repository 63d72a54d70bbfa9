use mathlib.Core.Path.{◌≡◌}
use lib.ListN.{length}
use Rattle.basics.proofs.Columns.{Written}
use Rattle.uax29.specs.Graphemes.{start_at}
use Rattle.uax29.proofs.graphemes.decide_starts.Given as goal

abbrev pub invariant-loop-i : goal.invariant-loop-i
invariant-loop-i l = (length l.out ≡ length l.initial.out) × Written (start_at l.breaks l.marks) l.initial.out l.i l.out
