use mathlib.Core.Path.{◌≡◌}
use Rattle.classes.specs.MyanmarClass.{H}
use Rattle.parse.specs.State.{turns}
use Rattle.parse.specs.Rule.{run, while, is}
use Rattle.myanmar.specs.Grammar.{stacked}
use Rattle.myanmar.proofs.parse_stacked.Given as goal

-- `myanmar::parse_stacked` meets its contract. Assumes nothing.
abbrev pub invariant-loop-s : goal.invariant-loop-s
invariant-loop-s l = run (while (is H) stacked) l.text l.s ≡ run (while (is H) stacked) l.text l.initial.s

abbrev pub decreases-loop-s : goal.decreases-loop-s
decreases-loop-s l = turns l.text l.s
