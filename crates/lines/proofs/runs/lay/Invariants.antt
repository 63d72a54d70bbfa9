use mathlib.Core.Path.{◌≡◌}
use lib.ListN.{length}
use Rattle.basics.proofs.Columns.{Written}
use Rattle.lines.specs.Run.{state_at}
use Rattle.lines.specs.Inner.{laid_at}
use Rattle.lines.proofs.runs.lay.Given as goal

abbrev pub invariant-loop-i : goal.invariant-loop-i
invariant-loop-i l = (length l.out ≡ length l.initial.out) × ((l.state ≡ state_at l.table l.lines l.i) × Written (laid_at l.strength l.table l.lines l.initial.out) l.initial.out l.i l.out)
