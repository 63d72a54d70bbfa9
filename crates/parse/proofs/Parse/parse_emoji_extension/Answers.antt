use Rattle.parse.specs.Shared.{emoji_mark, emoji_extension}
use Rattle.parse.proofs.Rules.{by_then, by_else, loop_turns, loop_then, falls}
use Rattle.parse.proofs.Parse.parse_emoji_extension.Goals as goal

pub loop-self-smaller : goal.loop-self-smaller
loop-self-smaller c = unfold emoji_mark in search falls

pub loop-self-preserved : goal.loop-self-preserved
loop-self-preserved c = unfold emoji_mark in search loop_turns

pub returns-then-break_is : goal.returns-then-break_is
returns-then-break_is c = unfold emoji_extension in search (loop_then, by_then) depth 8

pub returns-else-break_is : goal.returns-else-break_is
returns-else-break_is c = unfold emoji_extension in search (loop_then, by_else) depth 8
