use mathlib.Core.Path.{◌≡◌}
use lib.ListN.{length, take}
use Rattle.basics.specs.Columns.{cells}
use Rattle.label.specs.Said.{said_at}
use Rattle.label.proofs.lookup.classed.Given as goal

abbrev pub invariant-loop-i : goal.invariant-loop-i
invariant-loop-i l = (4097 ≡ length l.column) × (take l.i l.column ≡ cells (said_at l.field l.scalars) l.i)
