use Rattle.basics.specs.Sets.{every}
use Rattle.cases.specs.Items.{field_fits}
use mathlib.Core.Bool.{true}
use mathlib.Core.Path.{◌≡◌}
use Rattle.cases.proofs.items.is_item.Given as goal

abbrev pub invariant-loop-k : goal.invariant-loop-k
invariant-loop-k l = every (field_fits l.kind l.item) l.k ≡ true
