use Rattle.myanmar.specs.Grammar.{stacked}
use Rattle.parse.proofs.Rules.{loop_turns, loop_leaves, falls}
use Rattle.myanmar.proofs.parse_stacked.Goals as goal

pub loop-s-smaller : goal.loop-s-smaller
loop-s-smaller c = unfold stacked in search falls

pub loop-s-preserved : goal.loop-s-preserved
loop-s-preserved c = unfold stacked in search loop_turns

pub returns : goal.returns
returns c = unfold stacked in search loop_leaves
