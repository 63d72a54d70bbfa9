use Rattle.complex.specs.Grammar.{halant_number}
use Rattle.parse.specs.Rule.{run, while, is}
use Rattle.parse.specs.State.{turns}
use mathlib.Core.Path.{◌≡◌}
use Rattle.classes.specs.UseClass.{HN}
use Rattle.complex.proofs.parse_halant_numbers.Given as goal

-- `complex::parse_halant_numbers` meets its contract. Assumes nothing.
abbrev pub invariant-loop-s : goal.invariant-loop-s
invariant-loop-s l = run (while (is HN) halant_number) l.text l.s ≡ run (while (is HN) halant_number) l.text l.initial.s

abbrev pub decreases-loop-s : goal.decreases-loop-s
decreases-loop-s l = turns l.text l.s
