use mathlib.Core.Path.{◌≡◌}
use Rattle.classes.specs.MyanmarClass.{PT}
use Rattle.parse.specs.State.{turns}
use Rattle.parse.specs.Rule.{run, while, is}
use Rattle.myanmar.specs.Grammar.{pwo_tone_mark}
use Rattle.myanmar.proofs.parse_pwo_tone_marks.Given as goal

-- `myanmar::parse_pwo_tone_marks` meets its contract. Assumes nothing.
abbrev pub invariant-loop-s : goal.invariant-loop-s
invariant-loop-s l = run (while (is PT) pwo_tone_mark) l.text l.s ≡ run (while (is PT) pwo_tone_mark) l.text l.initial.s

abbrev pub decreases-loop-s : goal.decreases-loop-s
decreases-loop-s l = turns l.text l.s
