use Rattle.classes.specs.ClusterBreak.{EX}
use Rattle.parse.specs.Shared.{emoji_mark}
use Rattle.parse.specs.Rule.{run, while, is_break}
use Rattle.parse.specs.State.{turns}
use mathlib.Core.Path.{◌≡◌}
use Rattle.parse.proofs.Parse.parse_emoji_extension.Given as goal

-- `parse::Parse::parse_emoji_extension` meets its contract. Assumes nothing.
abbrev pub invariant-loop-self : goal.invariant-loop-self
invariant-loop-self l = run (while (is_break EX) emoji_mark) l.text l.self ≡ run (while (is_break EX) emoji_mark) l.text l.initial.self

abbrev pub decreases-loop-self : goal.decreases-loop-self
decreases-loop-self l = turns l.text l.self
