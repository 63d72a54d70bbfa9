use Rattle.std.specs.Fn.{FnReturnsAt}
use Rattle.cases.specs.Columns.{Filled}
use Rattle.cases.specs.Spans.{rest}
use lib.ListN.{drop}
use mathlib.Core.Path.{◌≡◌}
use Rattle.cases.proofs.columns.column.Given as goal

abbrev pub invariant-loop-i : goal.invariant-loop-i
invariant-loop-i g l = (drop l.at l.section ≡ rest 32 l.i l.section) × Filled (FnReturnsAt g.F.Fn l.read) l.section l.initial.out l.i l.out
