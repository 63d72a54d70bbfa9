use Prim.Native.Nat.{◌-◌}
use lib.ListN.{length}
use Rattle.label.proofs.Reading.{Reading}
use Rattle.label.proofs.texts.read_utf8.Given as goal

abbrev pub invariant-loop-at : goal.invariant-loop-at
invariant-loop-at l = Reading l.bytes l.initial.out l.out l.at l.n

abbrev pub decreases-loop-at : goal.decreases-loop-at
decreases-loop-at l = length l.bytes - l.at
