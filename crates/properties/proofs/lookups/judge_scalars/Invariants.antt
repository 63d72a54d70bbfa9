use lib.ListN.{length}
use Rattle.records.specs.Text.{cell}
use Rattle.records.proofs.Over.{Rest}
use Rattle.properties.specs.Ranges.{judge_scalar}
use Rattle.properties.proofs.lookups.judge_scalars.Given as goal

abbrev pub invariant-loop-i : goal.invariant-loop-i
invariant-loop-i l = Rest (λ k. judge_scalar (cell l.scalars k) k) (length l.scalars) l.i
