use Rattle.parse.specs.Rule.{is_emoji}
use Rattle.parse.specs.Shared.{emojis, emoji_turn}
use Rattle.parse.proofs.Rules.{by_seq, by_still, loop_turns, loop_scope, falls}
use Rattle.parse.proofs.Parse.parse_emoji.Goals as goal

pub loop-self-smaller : goal.loop-self-smaller
loop-self-smaller c = unfold emoji_turn in search (falls is_emoji emoji_turn, by_seq)

pub loop-self-preserved : goal.loop-self-preserved
loop-self-preserved c = unfold emoji_turn in search (loop_turns, by_seq)

pub returns-after-loop-self : goal.returns-after-loop-self
returns-after-loop-self c = unfold emojis in search loop_scope

pub returns-else-going : goal.returns-else-going
returns-else-going c = unfold emojis in search (by_seq, by_still) depth 8
