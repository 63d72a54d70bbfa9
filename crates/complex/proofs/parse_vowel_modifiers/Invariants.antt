use Rattle.complex.specs.Grammar.{is_vowel_modifier, vowel_modifier}
use Rattle.parse.specs.Rule.{run, while}
use Rattle.parse.specs.State.{turns}
use mathlib.Core.Path.{◌≡◌}
use Rattle.complex.proofs.parse_vowel_modifiers.Given as goal

-- `complex::parse_vowel_modifiers` meets its contract. Assumes nothing.
abbrev pub invariant-loop-s : goal.invariant-loop-s
invariant-loop-s l = run (while is_vowel_modifier vowel_modifier) l.text l.s ≡ run (while is_vowel_modifier vowel_modifier) l.text l.initial.s

abbrev pub decreases-loop-s : goal.decreases-loop-s
decreases-loop-s l = turns l.text l.s
