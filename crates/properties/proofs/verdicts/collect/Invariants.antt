use Prim.Native.Nat.{◌-◌}
use mathlib.Core.Path.{◌≡◌}
use lib.ListN.{length}
use Rattle.properties.proofs.Turns.{Turn}
use Rattle.properties.proofs.verdicts.collect.Given as goal

abbrev pub invariant-loop-at : goal.invariant-loop-at
invariant-loop-at l = Turn l.file l.bytes l.firsts l.lasts l.held l.free l.new_firsts l.new_lasts l.new_codes l.at l.k l.n
    × ((length l.new_firsts ≡ length l.initial.new_firsts) × ((length l.new_lasts ≡ length l.initial.new_lasts) × (length l.new_codes ≡ length l.initial.new_codes)))

abbrev pub decreases-loop-at : goal.decreases-loop-at
decreases-loop-at l = length l.bytes - l.at
