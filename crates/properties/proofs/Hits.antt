-- The first range that has a scalar, by a scan and by a place. Assumes nothing.
use Prim.Native.Nat.{ℕ, zero, suc, ◌+◌, ◌-◌, ◌<◌, ◌≤◌}
use mathlib.Core.Path.{◌≡◌, refl, sym, ap, subst}
use mathlib.Core.Bool.{Bool, true, false, cond, and-false}
use mathlib.Core.List.{List}
use mathlib.Core.Logic.{⊎_elim}
use native.Mathlib.Nat.{eq-or-lt_of_le, le_refl, sub-zero}
use native.Mathlib.Omega.{arith}
use borrow.Author.Tests.{le-leb, lt-leb, leb-true, ltb-true, ltb-false}
use Rattle.basics.proofs.Tests.{both, by_test}
use lib.Dec.{leb, ltb}
use Rattle.records.specs.Text.{cell}
use Rattle.properties.specs.Ranges.{Ranges, ranges, is_in, has, code_from}
use Rattle.properties.specs.Inner.{rises, ordered, Place}
use Rattle.properties.proofs.Orders.{rising}

module _ (first last scalar : ℕ) where
  pub in_both : first ≤ scalar → scalar ≤ last → is_in first last scalar ≡ true
  unfolding is_in
  in_both a b = rw (le-leb first scalar a, le-leb scalar last b)

  pub in_before : scalar < first → is_in first last scalar ≡ false
  unfolding is_in
  in_before h = rw (lt-leb first scalar h)

  pub in_behind : last < scalar → is_in first last scalar ≡ false
  unfolding is_in
  in_behind h = rw (lt-leb scalar last h, and-false (leb first scalar))

  pub in_within : is_in first last scalar ≡ true → (first ≤ scalar) × (scalar ≤ last)
  unfolding is_in
  in_within h = let b = both (leb first scalar) (leb scalar last) h in (leb-true first scalar b.0, leb-true scalar last b.1)

module _ (r : Ranges) (scalar : ℕ) where
  pub first_hit : (n i k : ℕ) → i ≤ k → k < i + n → ((j : ℕ) → i ≤ j → j < k → has r scalar j ≡ false) → has r scalar k ≡ true → code_from r scalar i n ≡ cell r.codes k
  unfolding code_from
  first_hit zero i k a b f h = absurd (omega arith)
  first_hit (suc n) i k a b f h =
      ⊎_elim
      (λ q. let here : has r scalar i ≡ true = subst (λ (m : ℕ). has r scalar m ≡ true) (sym q) h in rw here (ap (cell r.codes) q))
      (λ q. rw (f i (le_refl i) q) (first_hit n (i + 1) k (omega arith) (omega arith) (λ j c d. f j (omega arith) d) h))
      (eq-or-lt_of_le a)

  pub no_hit : (n i : ℕ) → ((j : ℕ) → i ≤ j → j < i + n → has r scalar j ≡ false) → code_from r scalar i n ≡ 0
  unfolding code_from
  no_hit zero i f = refl
  no_hit (suc n) i f = rw (f i (le_refl i) (omega arith)) (no_hit n (i + 1) (λ j a b. f j (omega arith) (omega arith)))

  -- a scan that has come to i; t is what was said of the range there
  abbrev pub Scanned : ℕ → ℕ → Type 0
  Scanned n i = code_from r scalar i (n - i) ≡ code_from r scalar 0 n

  pub scan_all : (n : ℕ) → Scanned n 0
  scan_all n = rw (sub-zero n)

  module _ (n i : ℕ) (e : Scanned n i) where
    pub scan_over : n ≤ i → 0 ≡ code_from r scalar 0 n
    unfolding code_from
    scan_over h = let f : n - i ≡ 0 = omega arith in rw f at e

    module _ (t : Bool) (s : t ≡ has r scalar i) (h : i < n) where
      scan_here : cond t (cell r.codes i) (code_from r scalar (i + 1) (n - (i + 1))) ≡ code_from r scalar 0 n
      unfolding code_from
      scan_here = let f : n - i ≡ suc (n - (i + 1)) = omega arith in rw s (rw f at e)

      pub scan_hit : t ≡ true → cell r.codes i ≡ code_from r scalar 0 n
      scan_hit k = rw k at scan_here

      pub scan_pass : t ≡ false → Scanned n (i + 1)
      scan_pass k = rw k at scan_here

-- the place that halving has found
module _ (firsts lasts codes : List ℕ) (n scalar place : ℕ) (p : Place lasts n scalar place) where
  passed : (j : ℕ) → j < place → has (ranges firsts lasts codes n) scalar j ≡ false
  passed j h = in_behind (cell firsts j) (cell lasts j) scalar (p.before j h)

  pub place_none : n ≤ place → 0 ≡ code_from (ranges firsts lasts codes n) scalar 0 n
  place_none h = sym (no_hit (ranges firsts lasts codes n) scalar n 0 (λ j a b. passed j (omega arith)))

  module _ (h : place < n) where
    pub place_hit : cell firsts place ≤ scalar → cell codes place ≡ code_from (ranges firsts lasts codes n) scalar 0 n
    place_hit l =
        sym (first_hit (ranges firsts lasts codes n) scalar n 0 place (omega arith) (omega arith) (λ j a b. passed j b)
        (in_both (cell firsts place) (cell lasts place) scalar l (p.after place (le_refl place) h)))

    pub place_gap : ordered firsts lasts n ≡ true → scalar < cell firsts place → 0 ≡ code_from (ranges firsts lasts codes n) scalar 0 n
    unfolding ordered
    place_gap o l =
        sym (no_hit (ranges firsts lasts codes n) scalar n 0
        (λ j a b.
        by_test (ltb j place) (λ t. passed j (ltb-true j place t))
        (λ t. in_before (cell firsts j) (cell lasts j) scalar (omega (arith, rising firsts n (both (rises firsts n) (rises lasts n) o).0 j place (ltb-false j place t) (omega arith))))))
