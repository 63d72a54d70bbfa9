use mathlib.Core.Path.{◌≡◌}
use Rattle.parse.specs.Rule.{run, while, is_emoji}
use Rattle.parse.specs.Shared.{emoji_turn}
use Rattle.parse.specs.State.{turns}
use Rattle.parse.proofs.Parse.parse_emoji.Given as goal

-- `parse::Parse::parse_emoji` meets its contract. Assumes nothing.
abbrev pub invariant-loop-self : goal.invariant-loop-self
invariant-loop-self l = run (while is_emoji emoji_turn) l.text l.self ≡ run (while is_emoji emoji_turn) l.text l.initial.self

abbrev pub decreases-loop-self : goal.decreases-loop-self
decreases-loop-self l = turns l.text l.self
