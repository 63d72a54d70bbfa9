use mathlib.Core.Path.{◌≡◌}
use lib.ListN.{length}
use Rattle.basics.proofs.Columns.{Written}
use Rattle.uax29.specs.Words.{boundary_at}
use Rattle.uax29.specs.WordsSeen.{seen_at}
use Rattle.uax29.proofs.words.boundaries.Given as goal

abbrev pub invariant-loop-i : goal.invariant-loop-i
invariant-loop-i l = (length l.out ≡ length l.initial.out) × ((l.seen ≡ seen_at l.words l.i) × Written (boundary_at l.words l.pictographs) l.initial.out l.i l.out)
