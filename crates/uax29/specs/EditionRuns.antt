-- Clusters by an edition of UAX #29 (SCOPE 12.6): its rules over three lent columns, the cluster breaks, the emoji marks and the conjunct
-- codes. Both engines have this one definition.
use Rattle.std.specs.Prelude.{ℕ, Bool, not, cond, List, [], ◌∷◌, length}
use Rattle.basics.specs.Sets.{member}
use Rattle.classes.specs.ClusterBreak as ClusterBreak
use Rattle.records.specs.Text.{cell}
use Rattle.records.specs.Refusals.{refuse, ◌⊳◌, over, judge_lengths, judge_three}
use Rattle.records.specs.Written.{roomy, written_under}
use Rattle.records.specs.declared.Side.TheVariants.{Neither}
use Rattle.records.specs.Verdict.{Verdict}
use Rattle.uax29.specs.Conjunct as Conjunct
use Rattle.uax29.specs.Editions.{editions, boundary_in}

-- 1 where a cluster starts, 0 where none does
unfoldable pub start_in : ℕ → List ℕ → List ℕ → List ℕ → ℕ → ℕ
start_in edition breaks marks conjuncts i = cond (boundary_in edition breaks marks conjuncts i) 1 0

-- "15 for an edition that is neither"
abbrev pub unknown : ℕ → Bool
unknown edition = not (member editions edition)

-- it is "tested first"; then 1 and 2 over the three columns, and 4 by rising index: "a bad code in the column is 4"
unfoldable pub edition_check : ℕ → List ℕ → List ℕ → List ℕ → Verdict
edition_check edition breaks marks conjuncts =
    refuse (unknown edition) 15 Neither 0
    ⊳ judge_lengths (length breaks ∷ length conjuncts ∷ length marks ∷ []) []
    ⊳ over (λ i. judge_three ClusterBreak.len Conjunct.len (cell breaks i) (cell conjuncts i) (cell marks i) i) 0 (length breaks)

-- then 9
abbrev pub edition_verdict : ℕ → List ℕ → List ℕ → List ℕ → ℕ → Verdict
edition_verdict edition breaks marks conjuncts room = roomy (edition_check edition breaks marks conjuncts) (length breaks) room

-- what stands in the lent column after a run
abbrev pub edition_cells : ℕ → List ℕ → List ℕ → List ℕ → List ℕ → List ℕ
edition_cells edition breaks marks conjuncts out =
    written_under (edition_verdict edition breaks marks conjuncts (length out)) (start_in edition breaks marks conjuncts) (length breaks) out
