use Prim.Native.Nat.{◌-◌, ℕ}
use mathlib.Core.List.{List}
use lib.ListN.{length}
use Rattle.segment.specs.Inner.{Roomy}
use Rattle.segment.specs.Standing.{Running, Stood}
use Rattle.segment.proofs.runs.finish.Given as goal

abbrev pub invariant-loop-s : goal.invariant-loop-s
invariant-loop-s l = Stood l.parser l.mode l.text l.oscalars l.oclasses l.oclusters l.s
    × ((s₀ c₀ n₀ : List ℕ) → Roomy l.text s₀ c₀ n₀ → Running l.parser l.mode l.text s₀ c₀ n₀ l.initial.oscalars l.initial.oclasses l.initial.oclusters l.initial.s.at l.initial.s.clusters l.initial.s.characters → Running l.parser l.mode l.text s₀ c₀ n₀ l.oscalars l.oclasses l.oclusters l.s.at l.s.clusters l.s.characters)

abbrev pub decreases-loop-s : goal.decreases-loop-s
decreases-loop-s l = length l.text - l.s.at
