-- A walk over a text of names is the walk over the rows of its table. Assumes nothing.
use Rattle.std.specs.Prelude.{Some, None}
use Prim.Native.Nat.{ℕ, zero, suc, ◌+◌, ◌<◌, ◌≤◌}
use mathlib.Core.Path.{◌≡◌, refl, sym, ◌∙◌}
use mathlib.Core.Bool.{Bool, true, false, cond, false≢true}
use mathlib.Core.List.{List}
use native.Mathlib.Numerals.{add-one}
use lib.Dec.{eqb}
use lib.Pointwise.{pointwise, bytes_decides}
use lib.ListN.{length, get_or, drop, drop_of_length-le}
use lib.Seq.{drop-cons, ext_get_or}
use borrow.Author.Tests.{eq-eqb, eqb-true}
use Rattle.basics.specs.Sets.{every}
use Rattle.basics.proofs.Sets.{every_at}
use Rattle.basics.proofs.Tests.{both, by_test}
use Rattle.cases.specs.Spans.{up_to, after, next_from, agree, equal}
use Rattle.cases.proofs.Splits.{next_after_lem}
use Rattle.properties.specs.Names.{among}
use Rattle.properties.specs.Inner.{rows}

agree_self : (xs : List ℕ) (n : ℕ) → every (agree xs xs) n ≡ true
unfolding every agree
agree_self xs zero = refl
agree_self xs (suc n) = rw (eq-eqb (get_or xs n 0) (get_or xs n 0) refl, agree_self xs n)

-- the test of bytes says whether they are the same
pub equal_same : (xs ys : List ℕ) → xs ≡ ys → equal xs ys ≡ true
unfolding equal
equal_same xs ys e = rw (← e, eq-eqb (length xs) (length xs) refl, agree_self xs (length xs))

pub same_equal : (xs ys : List ℕ) → equal xs ys ≡ true → xs ≡ ys
unfolding equal agree
same_equal xs ys e =
    let b = both (eqb (length xs) (length ys)) (every (agree xs ys) (length xs)) e in
    ext_get_or 0 xs ys (eqb-true _ _ b.0) (λ i h. eqb-true _ _ (every_at (agree xs ys) (length xs) i b.1 h))

pub equal_differ : (xs ys : List ℕ) → (xs ≡ ys → ⊥) → equal xs ys ≡ false
equal_differ xs ys n = by_test (equal xs ys) (λ e. absurd (n (same_equal xs ys e))) (λ e. e)

-- what is left from the name at `at`, the i-th, decides
abbrev pub Left : List ℕ → List ℕ → List ℕ → ℕ → ℕ → Type 0
Left names codes value at i = among (rows (drop at names) (drop i codes)) value ≡ among (rows names codes) value

module _ (names codes value : List ℕ) (at i : ℕ) (left : Left names codes value at i) where
  pub left_over : length codes ≤ i → None ≡ among (rows names codes) value
  unfolding among
  left_over h = rw (drop_of_length-le codes h) at left

  -- p is the name there, and t what was said of the two
  module _ (h : i < length codes) (p : List ℕ) (e : p ≡ up_to 32 (drop at names)) (t : Bool) (s : t ≡ pointwise eqb p value) where
    here : cond (equal p value) (Some (get_or codes i 0)) (among (rows (after 32 (drop at names)) (drop (i + 1) codes)) value) ≡ among (rows names codes) value
    unfolding among
    here = rw (e, add-one i) (rw (drop-cons codes i 0 h) at left)

    pub left_found : t ≡ true → Some (get_or codes i 0) ≡ among (rows names codes) value
    left_found k = rw (equal_same p value ((bytes_decides p value).0 (sym s ∙ k))) at here

    pub left_more : t ≡ false → (next : ℕ) → next ≡ next_from 32 at names → Left names codes value next (i + 1)
    left_more k next n =
        let d : equal p value ≡ false = equal_differ p value (λ q. false≢true (sym k ∙ s ∙ (bytes_decides p value).1 q)) in
        rw (n, next_after_lem 32 at names) (rw d at here)
