use Prim.Native.Nat.{◌≤◌}
use Rattle.segment.proofs.Written.{Cells}
use Rattle.spans.specs.Runs.{offset_in, length_in, noffset_in, nlength_in}
use Rattle.spans.proofs.runs.write.Given as goal

abbrev pub invariant-loop-j : goal.invariant-loop-j
invariant-loop-j l = (l.j ≤ l.len) × (Cells offset_in l.at l.spans.chars l.initial.offsets l.offsets l.j × (Cells length_in l.at l.spans.chars l.initial.lengths l.lengths l.j × (Cells noffset_in l.at l.spans.chars l.initial.noffsets l.noffsets l.j × Cells nlength_in l.at l.spans.chars l.initial.nlengths l.nlengths l.j)))
