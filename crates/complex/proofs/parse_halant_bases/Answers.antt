use Rattle.complex.specs.Grammar.{halant, halant_base}
use Rattle.parse.proofs.Rules.{loop_turns, loop_leaves, falls}
use Rattle.complex.proofs.parse_halant_bases.Goals as goal

pub loop-s-smaller : goal.loop-s-smaller
loop-s-smaller c = unfold halant_base halant in search falls

pub loop-s-preserved : goal.loop-s-preserved
loop-s-preserved c = unfold halant_base halant in search loop_turns

pub returns : goal.returns
returns c = unfold halant_base halant in search loop_leaves
