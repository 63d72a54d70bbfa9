use Rattle.properties.specs.Lines.{ending}
use lib.ListN.{length}
use mathlib.Core.Path.{◌≡◌}
use Rattle.properties.proofs.file_lines.ending.Given as goal

abbrev pub invariant-loop-i : goal.invariant-loop-i
invariant-loop-i l = ending l.bytes l.i ≡ ending l.bytes (length l.bytes)
