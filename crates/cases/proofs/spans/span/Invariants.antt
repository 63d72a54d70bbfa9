use Rattle.cases.specs.Spans.{rest}
use lib.ListN.{drop}
use mathlib.Core.Path.{◌≡◌}
use Rattle.cases.proofs.spans.span.Given as goal

abbrev pub invariant-loop : goal.invariant-loop
invariant-loop l = drop l.at l.xs ≡ rest l.s l.counter l.xs
