use mathlib.Core.Path.{◌≡◌}
use Rattle.classes.specs.MyanmarClass.{VPst}
use Rattle.parse.specs.State.{turns}
use Rattle.parse.specs.Rule.{run, while, is}
use Rattle.myanmar.specs.Grammar.{post_base_vowel}
use Rattle.myanmar.proofs.parse_post_base_vowels.Given as goal

-- `myanmar::parse_post_base_vowels` meets its contract. Assumes nothing.
abbrev pub invariant-loop-s : goal.invariant-loop-s
invariant-loop-s l = run (while (is VPst) post_base_vowel) l.text l.s ≡ run (while (is VPst) post_base_vowel) l.text l.initial.s

abbrev pub decreases-loop-s : goal.decreases-loop-s
decreases-loop-s l = turns l.text l.s
