use lib.ListN.{length, drop}
use Rattle.label.proofs.Numbers.{Counting}
use Rattle.label.proofs.texts.read_numbers.Given as goal

abbrev pub invariant-loop-at : goal.invariant-loop-at
invariant-loop-at l = Counting l.bytes l.initial.out l.out l.at l.n

abbrev pub decreases-loop-at : goal.decreases-loop-at
decreases-loop-at l = length (drop l.at l.bytes)
