use Rattle.records.specs.Refusals.{judge_three}
use Rattle.records.specs.Text.{cell}
use Rattle.records.proofs.Over.{Rest}
use Rattle.records.proofs.threes.judge_all_three.Given as goal

abbrev pub invariant-loop-i : goal.invariant-loop-i
invariant-loop-i l = Rest (λ k. judge_three l.first l.second (cell l.classes k) (cell l.others k) (cell l.marks k) k) l.i-end l.i
