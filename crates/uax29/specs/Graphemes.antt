-- Clusters as UAX #29 has them (SCOPE 12.5): the rules GB1 to GB999 over "the cluster break column and the simple parser's emoji marks",
-- with no limit of 32. Both engines have this one definition.
use Rattle.std.specs.Prelude.{ℕ, cond, List, length}
use Rattle.classes.specs.ClusterBreak as ClusterBreak
use Rattle.records.specs.Refusals.{marked_verdict}
use Rattle.records.specs.Written.{roomy, written_under}
use Rattle.records.specs.Verdict.{Verdict}
use Rattle.uax29.specs.Clusters.{boundary_at}

-- "0 or 1 for each record, 1 where a cluster starts"
unfoldable pub start_at : List ℕ → List ℕ → ℕ → ℕ
start_at breaks marks i = cond (boundary_at breaks marks i) 1 0

-- "1 and 2 over the two columns, then 4 by rising index for either code"
abbrev pub grapheme_check : List ℕ → List ℕ → Verdict
grapheme_check breaks marks = marked_verdict ClusterBreak.len breaks marks

-- "9 for fewer cells than records"
abbrev pub grapheme_verdict : List ℕ → List ℕ → ℕ → Verdict
grapheme_verdict breaks marks room = roomy (grapheme_check breaks marks) (length breaks) room

-- what stands in the lent column after a run, where this was its verdict
abbrev pub graphemes_under : Verdict → List ℕ → List ℕ → List ℕ → List ℕ
graphemes_under v breaks marks out = written_under v (start_at breaks marks) (length breaks) out

abbrev pub grapheme_cells : List ℕ → List ℕ → List ℕ → List ℕ
grapheme_cells breaks marks out = graphemes_under (grapheme_verdict breaks marks (length out)) breaks marks out
