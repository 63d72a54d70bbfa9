use Rattle.records.specs.Refusals.{judge_part}
use Rattle.records.specs.Text.{part_of, lent}
use Rattle.records.proofs.Over.{Rest}
use Rattle.records.proofs.sets.judge_parts.Given as goal

abbrev pub invariant-loop-i : goal.invariant-loop-i
invariant-loop-i l = Rest (λ k. judge_part l.parser (part_of (lent l.columns).parts k) k) l.i-end l.i
