use Rattle.basics.specs.Sets.{every}
use Rattle.cases.specs.Items.{item_fits}
use Rattle.cases.specs.Spans.{rest}
use lib.ListN.{drop}
use mathlib.Core.Bool.{true}
use mathlib.Core.Path.{◌≡◌}
use Rattle.cases.proofs.items.count_items.Given as goal

abbrev pub invariant-loop : goal.invariant-loop
invariant-loop l = (drop l.at l.section ≡ rest 32 l.counter l.section) × (every (item_fits l.kind l.section) l.counter ≡ true)
