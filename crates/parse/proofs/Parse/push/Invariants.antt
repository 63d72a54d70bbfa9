use Prim.Native.Nat.{◌-◌}
use Rattle.parse.proofs.Joiners.{Left}
use Rattle.parse.proofs.Parse.push.Given as goal

-- `parse::Parse::push` meets its contract. Assumes nothing.
abbrev pub invariant-loop-self : goal.invariant-loop-self
invariant-loop-self l = Left l.text l.initial.self l.initial.class l.last l.self l.class

abbrev pub decreases-loop-self : goal.decreases-loop-self
decreases-loop-self l = l.last - l.self.at
