use Rattle.parse.proofs.Rules.{loop_turns, loop_leaves, falls}
use Rattle.simple.specs.Grammar.{extension, extend, combining}
use Rattle.simple.proofs.parse_extensions.Goals as goal

pub loop-s-smaller : goal.loop-s-smaller
loop-s-smaller c = unfold extension extend combining in search falls

pub loop-s-preserved : goal.loop-s-preserved
loop-s-preserved c = unfold extension extend combining in search loop_turns

pub returns : goal.returns
returns c = unfold extension extend combining in search loop_leaves
