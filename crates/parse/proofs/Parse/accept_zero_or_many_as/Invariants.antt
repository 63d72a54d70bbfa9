use Rattle.parse.specs.Rule.{run, many_as}
use Rattle.parse.specs.State.{turns}
use mathlib.Core.Path.{◌≡◌}
use Rattle.parse.proofs.Parse.accept_zero_or_many_as.Given as goal

-- `parse::Parse::accept_zero_or_many_as` meets its contract. Assumes nothing.
abbrev pub invariant-loop-class : goal.invariant-loop-class
invariant-loop-class l = run (many_as l.kind l.class) l.text l.self ≡ run (many_as l.kind l.class) l.text l.initial.self

abbrev pub decreases-loop-class : goal.decreases-loop-class
decreases-loop-class l = turns l.text l.self
