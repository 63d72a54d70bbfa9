-- Plain cluster texts, by the simple parser: "every cluster break is XX, CR, LF, CN, EX, SM or ZWJ; only XX has the emoji mark; none of
-- EX, SM and ZWJ stands right behind a CR, LF or CN; and no call from the start on pushes 32 characters" (SCOPE 8.1). And where its
-- clusters start.
use Rattle.std.specs.Prelude.{ℕ, zero, suc, ◌+◌, Bool, true, cond, not, ◌&&◌, ◌||◌, List, [], ◌∷◌, ◌++◌, map, eqb, ltb, length}
use Rattle.basics.specs.Sets.{member, every}
use Rattle.classes.specs.ClusterBreak.{XX, CN, CR, LF, EX, SM, ZWJ}
use Rattle.classes.specs.declared.Mode.{Mode}
use Rattle.records.specs.Text.{Text, cell}
use Rattle.records.specs.declared.Parser.TheVariants.{Simple}
use Rattle.stream.specs.Stream.{stream_of}
use Rattle.parse.specs.declared.Parse.{Parse}
use Rattle.parse.specs.declared.Pushed.{Pushed}
use Rattle.parse.specs.State.{place_of}
use Rattle.parse.specs.Cover.{pushed}
use Rattle.segment.specs.Runs.{calls_of}
use Rattle.uax29.specs.Clusters.{controls, boundary_at}

abbrev pub plain_kinds : List ℕ
plain_kinds = XX ∷ EX ∷ SM ∷ ZWJ ∷ CR ∷ LF ∷ CN ∷ []

abbrev pub extensions : List ℕ
extensions = EX ∷ SM ∷ ZWJ ∷ []

-- "only XX has the emoji mark"
unfoldable pub plain_mark : ℕ → ℕ → Bool
plain_mark kind mark = eqb mark 0 || eqb kind XX

-- "none of EX, SM and ZWJ stands right behind a CR, LF or CN"
unfoldable pub plain_pair : ℕ → ℕ → Bool
plain_pair kind next = not (member controls kind && member extensions next)

-- the record at an index; the cell after the last one is read as 0, which is XX
unfoldable pub plain_at : List ℕ → List ℕ → ℕ → Bool
plain_at breaks marks i = member plain_kinds (cell breaks i) && (plain_mark (cell breaks i) (cell marks i) && plain_pair (cell breaks i) (cell breaks (i + 1)))

-- "no call from the start on pushes 32 characters"
unfoldable pub all_short : List Parse → Bool
all_short [] = true
all_short (p ∷ ps) = ltb p.len 32 && all_short ps

-- the simple parser's calls on a text
abbrev pub simple_calls : Mode → Text → List Parse
simple_calls mode t = calls_of Simple mode (stream_of mode Simple t)

unfoldable pub is_plain : Mode → Text → Bool
is_plain mode t = every (plain_at t.records.breaks t.records.semojis) (length t.records.breaks) && all_short (simple_calls mode t)

-- where calls start, the first of them at a place: each where the one before ended
unfoldable pub starts_from : List ℕ → ℕ → List Parse → List ℕ
starts_from stream at [] = []
starts_from stream at (p ∷ ps) = at ∷ starts_from stream (place_of stream p) ps

-- where the simple parser's clusters start
abbrev pub cluster_starts : Mode → Text → List ℕ
cluster_starts mode t = starts_from (stream_of mode Simple t) 0 (simple_calls mode t)

-- the number, from 0, of the cluster that the record at an index is in: how many boundaries stand after the text's start and up to it
unfoldable pub number_at : List ℕ → List ℕ → ℕ → ℕ
number_at breaks marks zero = 0
number_at breaks marks (suc i) = let before = number_at breaks marks i in cond (boundary_at breaks marks (suc i)) (before + 1) before

-- the same for each pushed character of some calls
unfoldable pub numbers_of : List ℕ → List ℕ → List Parse → List ℕ
numbers_of breaks marks [] = []
numbers_of breaks marks (p ∷ ps) = map (λ (c : Pushed). number_at breaks marks c.index) (pushed p) ++ numbers_of breaks marks ps
