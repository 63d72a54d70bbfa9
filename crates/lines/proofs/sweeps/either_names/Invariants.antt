use Rattle.lines.specs.Rules.{row_in}
use Rattle.lines.proofs.Greatest.{Swept}
use Rattle.lines.proofs.sweeps.either_names.Given as goal

abbrev pub invariant-loop-i : goal.invariant-loop-i
invariant-loop-i l = Swept row_in l.rows l.first l.i l.one × Swept row_in l.rows l.second l.i l.two
