-- What only private contracts need. GB9c over the columns themselves: what stands before a place, and where the rule decides.
use Rattle.std.specs.Prelude.{ℕ, zero, suc, ◌-◌, Bool, false, cond, not, ◌&&◌, ◌||◌, List, eqb}
use Rattle.basics.specs.Sets.{member}
use Rattle.records.specs.Text.{cell}
use Rattle.uax29.specs.Clusters.{controls}
use Rattle.uax29.specs.Conjunct.{Consonant, Linker}
use Rattle.uax29.specs.Editions.{joiners}

-- a consonant, then extenders and linkers
unfoldable pub begun_at : List ℕ → ℕ → Bool
begun_at conjuncts zero = false
begun_at conjuncts (suc i) = let c = cell conjuncts i in eqb c Consonant || (member joiners c && begun_at conjuncts i)

-- and a linker among them
unfoldable pub linked_at : List ℕ → ℕ → Bool
linked_at conjuncts zero = false
linked_at conjuncts (suc i) =
    let c = cell conjuncts i in (eqb c Linker && begun_at conjuncts i) || (member joiners c && linked_at conjuncts i)

-- of classes a and b on the two sides
unfoldable pub conjoins : Bool → ℕ → ℕ → ℕ → Bool
conjoins linked conjunct a b = (linked && eqb conjunct Consonant) && not (member controls a || member controls b)

unfoldable pub conjoined_at : List ℕ → List ℕ → ℕ → Bool
conjoined_at breaks conjuncts at = conjoins (linked_at conjuncts at) (cell conjuncts at) (cell breaks (at - 1)) (cell breaks at)

-- a start that GB9c takes away
unfoldable pub taken_at : List ℕ → List ℕ → List ℕ → ℕ → ℕ
taken_at breaks conjuncts out i = cond (conjoined_at breaks conjuncts i) 0 (cell out i)
