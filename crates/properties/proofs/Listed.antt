-- The names of both files: no name stands twice in a file, the names have the codes of their list in order, and whatever is read is a code of
-- that list. Each by one computed test. Assumes nothing.
use Rattle.std.specs.Prelude.{Some, None}
use Prim.Native.Nat.{ℕ, ◌<◌}
use mathlib.Core.Path.{◌≡◌, refl}
use mathlib.Core.Bool.{Bool, true, false, not, cond, ◌&&◌, ◌||◌}
use mathlib.Core.List.{List, [], ◌∷◌, ◌++◌, map}
use native.Mathlib.Omega.{arith}
use lib.Dec.{ltb}
use borrow.Author.Tests.{ltb-true}
use Rattle.basics.proofs.Tests.{both}
use Rattle.classes.specs.ClusterBreak as ClusterBreak
use Rattle.classes.specs.WordBreak as WordBreak
use Rattle.cases.specs.Spans.{agree, equal}
use Rattle.basics.specs.Sets.{every}
use Rattle.records.proofs.Unique.{unique}
use Rattle.properties.specs.declared.File.{File}
use Rattle.properties.specs.declared.File.TheVariants.{Cluster, Word}
use Rattle.properties.specs.Names.{Value}
use Rattle.properties.specs.Names.{Named, names_of, cluster_names, word_names, old_names, among, or_else, code_of}

abbrev has : List ℕ → List Named → Bool
has name [] = false
has name (n ∷ ns) = equal name n.name || has name ns

abbrev distinct : List Named → Bool
distinct [] = true
distinct (n ∷ ns) = not (has n.name ns) && distinct ns

abbrev pub len_of : File → ℕ
len_of Cluster = ClusterBreak.len
len_of Word = WordBreak.len

abbrev within : ℕ → List Named → Bool
within len [] = true
within len (n ∷ ns) = ltb n.means len && within len ns

abbrev fine : File → Bool
fine file = distinct (names_of file ++ old_names) && (within (len_of file) (names_of file) && within (len_of file) old_names)

pub names_fine : (fine Cluster && fine Word) ≡ true
unfolding equal every agree
names_fine = refl

-- with them, each code of the list has its name
pub names_whole : (map (λ n. n.means) cluster_names ≡ ClusterBreak.cluster_breaks) × (map (λ n. n.means) word_names ≡ WordBreak.word_breaks)
names_whole = (refl, refl)

file_fine : (file : File) → fine file ≡ true
file_fine Cluster = (both (fine Cluster) (fine Word) names_fine).0
file_fine Word = (both (fine Cluster) (fine Word) names_fine).1

unknown_found : {A : Type 0} (c : ℕ) → None ≡ Some c → A
unknown_found c e = absurd (let z : ◌≡◌ {A = ℕ} 0 1 = cc in omega arith)

among_within : (len : ℕ) (ns : List Named) (value : List ℕ) (c : ℕ) → within len ns ≡ true → among ns value ≡ Some c → c < len
unfolding among
among_within len [] value c w e = unknown_found c e
among_within len (n ∷ ns) value c w e =
    let b = both (ltb n.means len) (within len ns) w in
    go (equal n.name value) b.0 (λ q. among_within len ns value c b.1 q) e
  where
    go : (t : Bool) → ltb n.means len ≡ true → (among ns value ≡ Some c → c < len) → cond t (Some n.means) (among ns value) ≡ Some c → c < len
    go true h f q = let k : n.means ≡ c = cc in omega (arith, ltb-true n.means len h)
    go false h f q = f q

either : (a b : Value) (c : ℕ) (len : ℕ) → (a ≡ Some c → c < len) → (b ≡ Some c → c < len) → or_else a b ≡ Some c → c < len
either (Some x) b c len f g e = f e
either None b c len f g e = g e

-- a value that is read has a code of its file's list
pub code_listed : (file : File) (value : List ℕ) (c : ℕ) → code_of file value ≡ Some c → c < len_of file
unfolding code_of
code_listed file value c e =
    let w = (both (distinct (names_of file ++ old_names)) (within (len_of file) (names_of file) && within (len_of file) old_names) (file_fine file)).1 in
    let v = both (within (len_of file) (names_of file)) (within (len_of file) old_names) w in
    either (among (names_of file) value) (among old_names value) c (len_of file)
    (λ h. among_within (len_of file) (names_of file) value c v.0 h)
    (λ h. among_within (len_of file) old_names value c v.1 h)
    e

-- no two answers of `code_of` fulfil its contract (SCOPE 10)
pub code_of_unique : (file : File) (value : List ℕ) (a b : Value) → a ≡ code_of file value → b ≡ code_of file value → a ≡ b
code_of_unique file value = unique (code_of file value)
