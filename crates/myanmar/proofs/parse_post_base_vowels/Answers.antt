use Rattle.myanmar.specs.Grammar.{post_base_vowel}
use Rattle.parse.proofs.Rules.{loop_turns, loop_leaves, falls}
use Rattle.myanmar.proofs.parse_post_base_vowels.Goals as goal

pub loop-s-smaller : goal.loop-s-smaller
loop-s-smaller c = unfold post_base_vowel in search falls

pub loop-s-preserved : goal.loop-s-preserved
loop-s-preserved c = unfold post_base_vowel in search loop_turns

pub returns : goal.returns
returns c = unfold post_base_vowel in search loop_leaves
