use Rattle.complex.specs.Grammar.{halant_base, opens_halant}
use Rattle.parse.specs.Rule.{run, while}
use Rattle.parse.specs.State.{turns}
use mathlib.Core.Path.{◌≡◌}
use Rattle.complex.proofs.parse_halant_bases.Given as goal

-- `complex::parse_halant_bases` meets its contract. Assumes nothing.
abbrev pub invariant-loop-s : goal.invariant-loop-s
invariant-loop-s l = run (while opens_halant (halant_base l.khmer)) l.text l.s ≡ run (while opens_halant (halant_base l.khmer)) l.text l.initial.s

abbrev pub decreases-loop-s : goal.decreases-loop-s
decreases-loop-s l = turns l.text l.s
