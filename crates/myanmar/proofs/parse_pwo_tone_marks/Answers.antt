use Rattle.myanmar.specs.Grammar.{pwo_tone_mark}
use Rattle.parse.proofs.Rules.{loop_turns, loop_leaves, falls}
use Rattle.myanmar.proofs.parse_pwo_tone_marks.Goals as goal

pub loop-s-smaller : goal.loop-s-smaller
loop-s-smaller c = unfold pwo_tone_mark in search falls

pub loop-s-preserved : goal.loop-s-preserved
loop-s-preserved c = unfold pwo_tone_mark in search loop_turns

pub returns : goal.returns
returns c = unfold pwo_tone_mark in search loop_leaves
