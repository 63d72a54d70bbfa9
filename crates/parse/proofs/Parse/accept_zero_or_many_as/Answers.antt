use Rattle.parse.proofs.Rules.{loop_turns, loop_leaves, falls}
use Rattle.parse.proofs.Parse.accept_zero_or_many_as.Goals as goal

pub loop-class-smaller : goal.loop-class-smaller
loop-class-smaller c = search falls

pub loop-class-preserved : goal.loop-class-preserved
loop-class-preserved c = search loop_turns

pub returns : goal.returns
returns c = search loop_leaves
