use mathlib.Core.Path.{◌≡◌}
use Rattle.parse.specs.State.{turns}
use Rattle.parse.specs.Rule.{run, while}
use Rattle.simple.specs.Grammar.{is_extension, extension}
use Rattle.simple.proofs.parse_extensions.Given as goal

-- `simple::parse_extensions` meets its contract. Assumes nothing.
abbrev pub invariant-loop-s : goal.invariant-loop-s
invariant-loop-s l = run (while is_extension extension) l.text l.s ≡ run (while is_extension extension) l.text l.initial.s

abbrev pub decreases-loop-s : goal.decreases-loop-s
decreases-loop-s l = turns l.text l.s
