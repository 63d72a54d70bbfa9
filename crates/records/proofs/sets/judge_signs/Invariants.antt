use Rattle.records.specs.Refusals.{judge_sign_at}
use Rattle.records.specs.Text.{lent}
use Rattle.records.proofs.Over.{Rest}
use Rattle.records.proofs.sets.judge_signs.Given as goal

abbrev pub invariant-loop-i : goal.invariant-loop-i
invariant-loop-i l = Rest (judge_sign_at (lent l.columns)) l.i-end l.i
