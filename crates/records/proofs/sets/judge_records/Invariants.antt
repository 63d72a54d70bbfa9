use Rattle.records.specs.Refusals.{judge_record}
use Rattle.records.specs.Text.{row_of, lent}
use Rattle.records.proofs.Over.{Rest}
use Rattle.records.proofs.sets.judge_records.Given as goal

abbrev pub invariant-loop-i : goal.invariant-loop-i
invariant-loop-i l = Rest (λ k. judge_record l.parser (row_of (lent l.columns).records k) l.parts k) l.i-end l.i
