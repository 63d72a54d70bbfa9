use Rattle.basics.specs.Sets.{every}
use Rattle.cases.specs.Blocks.{hex_at}
use mathlib.Core.Bool.{true}
use mathlib.Core.Path.{◌≡◌}
use Rattle.cases.proofs.blocks.is_pairs.Given as goal

abbrev pub invariant-loop-byte : goal.invariant-loop-byte
invariant-loop-byte l = every (hex_at l.digits) l.byte-index ≡ true
