use mathlib.Core.Path.{◌≡◌}
use lib.ListN.{length}
use Rattle.basics.proofs.Columns.{Written}
use Rattle.uax29.specs.Conjoined.{taken_at}
use Rattle.uax29.proofs.Links.{link_at}
use Rattle.uax29.proofs.conjoined.take_starts.Given as goal

abbrev pub invariant-loop-i : goal.invariant-loop-i
invariant-loop-i l = (length l.out ≡ length l.initial.out) × ((l.link ≡ link_at l.conjuncts l.i) × Written (taken_at l.breaks l.conjuncts l.initial.out) l.initial.out l.i l.out)
