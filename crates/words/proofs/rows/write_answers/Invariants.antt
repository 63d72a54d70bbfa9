use mathlib.Core.Path.{◌≡◌}
use lib.ListN.{length}
use Rattle.basics.proofs.Columns.{Written}
use Rattle.words.specs.Run.{state_at, answer_at}
use Rattle.words.proofs.Standing.{Stands}
use Rattle.words.proofs.rows.write_answers.Given as goal

abbrev pub invariant-loop-i : goal.invariant-loop-i
invariant-loop-i l = (length l.out ≡ length l.initial.out) × (Stands (state_at l.words l.pictographs l.i) l.row × Written (answer_at l.words l.pictographs) l.initial.out l.i l.out)
