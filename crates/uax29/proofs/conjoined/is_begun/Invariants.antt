use mathlib.Core.Path.{◌≡◌}
use Rattle.uax29.specs.Conjoined.{begun_at}
use Rattle.uax29.proofs.conjoined.is_begun.Given as goal

abbrev pub invariant-loop-i : goal.invariant-loop-i
invariant-loop-i l = begun_at l.conjuncts l.at ≡ begun_at l.conjuncts l.i
