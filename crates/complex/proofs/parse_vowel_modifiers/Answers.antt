use Rattle.complex.specs.Grammar.{vowel_modifier}
use Rattle.parse.proofs.Rules.{loop_turns, loop_leaves, falls}
use Rattle.complex.proofs.parse_vowel_modifiers.Goals as goal

pub loop-s-smaller : goal.loop-s-smaller
loop-s-smaller c = unfold vowel_modifier in search falls

pub loop-s-preserved : goal.loop-s-preserved
loop-s-preserved c = unfold vowel_modifier in search loop_turns

pub returns : goal.returns
returns c = unfold vowel_modifier in search loop_leaves
