use Rattle.records.specs.Refusals.{judge_marked}
use Rattle.records.specs.Text.{cell}
use Rattle.records.proofs.Over.{Rest}
use Rattle.records.proofs.sets.judge_all_marked.Given as goal

abbrev pub invariant-loop-i : goal.invariant-loop-i
invariant-loop-i l = Rest (λ k. judge_marked l.len (cell l.classes k) (cell l.marks k) k) l.i-end l.i
