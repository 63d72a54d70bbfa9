use Prim.Native.Nat.{◌-◌}
use lib.ListN.{length}
use Rattle.spans.proofs.Filling.{Filling}
use Rattle.spans.proofs.runs.fill.Given as goal

abbrev pub invariant-loop-at : goal.invariant-loop-at
invariant-loop-at l = Filling l.parser l.mode l.scalars l.text (record { offsets = l.initial.offsets; lengths = l.initial.lengths; noffsets = l.initial.noffsets; nlengths = l.initial.nlengths; starts = l.initial.starts; ends = l.initial.ends })
    (record { offsets = l.offsets; lengths = l.lengths; noffsets = l.noffsets; nlengths = l.nlengths; starts = l.starts; ends = l.ends }) l.along l.at l.clusters l.characters

abbrev pub decreases-loop-at : goal.decreases-loop-at
decreases-loop-at l = length l.text - l.at
