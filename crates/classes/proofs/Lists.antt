-- The five lists of SCOPE 2.2 and the shape classes of SCOPE 4.1: codes count from 0, there are as many as the list's length says, and
-- no two are equal. One computed test says it of all six, and one law turns the test into the rule at each code.
-- Assumes nothing.
use Prim.Native.Nat.{ℕ, zero, suc, ◌+◌, ◌<◌}
use mathlib.Core.Path.{◌≡◌, refl}
use mathlib.Core.Bool.{Bool, true, ◌&&◌}
use mathlib.Core.List.{List, [], ◌∷◌, map}
use native.Mathlib.Omega.{arith}
use lib.Dec.{eqb}
use lib.ListN.{length, get_or}
use borrow.Author.Tests.{eqb-true}
use Rattle.basics.proofs.Tests.{both}
use Rattle.classes.specs.ClusterBreak as ClusterBreak
use Rattle.classes.specs.UseClass as UseClass
use Rattle.classes.specs.MyanmarClass as MyanmarClass
use Rattle.classes.specs.WordBreak as WordBreak
use Rattle.classes.specs.Category as Category
use Rattle.classes.specs.Shape as Shape

-- the codes of the list are their places, counted from i
abbrev pub counts : ℕ → List ℕ → Bool
counts i [] = true
counts i (x ∷ xs) = eqb x i && counts (suc i) xs

code_from_lem : (xs : List ℕ) (i : ℕ) → counts i xs ≡ true → (k : ℕ) → k < length xs → get_or xs k 0 ≡ i + k
code_from_lem [] i e k h = absurd (omega arith)
code_from_lem (x ∷ xs) i e zero h = omega (arith, eqb-true x i (both (eqb x i) (counts (suc i) xs) e).0)
code_from_lem (x ∷ xs) i e (suc k) h = omega (arith, code_from_lem xs (suc i) (both (eqb x i) (counts (suc i) xs) e).1 k (omega arith))

-- a list of codes and the length that the code and the check go by
pub record Listed : Type 0 where
  pub codes : List ℕ
  pub len : ℕ

abbrev pub lists : List Listed
lists =
    record { codes = ClusterBreak.cluster_breaks; len = ClusterBreak.len }
    ∷ record { codes = UseClass.use_classes; len = UseClass.len }
    ∷ record { codes = MyanmarClass.myanmar_classes; len = MyanmarClass.len }
    ∷ record { codes = WordBreak.word_breaks; len = WordBreak.len }
    ∷ record { codes = Category.categories; len = Category.len }
    ∷ record { codes = map Shape.shape_code Shape.shapes; len = 15 }
    ∷ []

abbrev pub are_all_listed : List Listed → Bool
are_all_listed [] = true
are_all_listed (l ∷ ls) = (counts 0 l.codes && eqb (length l.codes) l.len) && are_all_listed ls

-- with their number, so that no list goes unnoticed
pub all_listed : (length lists ≡ 6) × (are_all_listed lists ≡ true)
all_listed = (refl, refl)

-- so no two places of such a list hold the same code
pub distinct : (xs : List ℕ) → counts 0 xs ≡ true → (i j : ℕ) → i < length xs → j < length xs → get_or xs i 0 ≡ get_or xs j 0 → i ≡ j
distinct xs e i j hi hj p = omega (arith, code_from_lem xs 0 e i hi, code_from_lem xs 0 e j hj)
