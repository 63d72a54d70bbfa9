use mathlib.Core.Path.{◌≡◌}
use Rattle.uax29.specs.Conjoined.{linked_at}
use Rattle.uax29.proofs.conjoined.is_linked.Given as goal

abbrev pub invariant-loop-i : goal.invariant-loop-i
invariant-loop-i l = linked_at l.conjuncts l.at ≡ linked_at l.conjuncts l.i
