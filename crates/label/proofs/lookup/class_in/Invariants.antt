use Rattle.label.proofs.Columns.{Left}
use Rattle.label.proofs.lookup.class_in.Given as goal

abbrev pub invariant-loop-i : goal.invariant-loop-i
invariant-loop-i l = Left l.firsts l.lasts l.classes l.x l.i
