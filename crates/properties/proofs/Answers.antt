-- What the lookup promises. Assumes nothing.
use Rattle.std.specs.Prelude.{Ok}
use Prim.Native.Nat.{ℕ, zero, suc, ◌+◌, ◌<◌, ◌≤◌, min}
use mathlib.Core.Path.{◌≡◌, refl, sym, ◌∙◌, ap}
use mathlib.Core.Bool.{Bool, true, false}
use mathlib.Core.List.{List, [], ◌∷◌}
use mathlib.Core.Logic.{⊎_elim}
use native.Mathlib.Nat.{eq-or-lt_of_le}
use native.Mathlib.Numerals.{add-one}
use native.Mathlib.Omega.{arith}
use lib.Dec.{ltb}
use lib.ListN.{length}
use borrow.Author.Tests.{le-leb, ltb-true, ltb-false}
use Rattle.basics.specs.Sets.{every}
use Rattle.basics.proofs.Tests.{by_test}
use Rattle.basics.proofs.Columns.{written_cell, kept_cell}
use Rattle.records.specs.Text.{cell}
use Rattle.records.specs.Refusals.{refuse, ◌⊳◌, over}
use Rattle.records.specs.Offences.{ByTable}
use Rattle.records.specs.declared.Side.TheVariants.{Neither}
use Rattle.records.specs.Verdict.{Verdict}
use Rattle.records.proofs.Tables.{by_table}
use Rattle.records.proofs.Judged.{alone, over_same}
use Rattle.records.proofs.Unique.{unique}
use Rattle.properties.specs.Ranges.{Ranges, count, has, code_in, InOrder, judge_scalar, lookup_verdict, class_at, filled, lookup_table}
use Rattle.properties.specs.Inner.{rises_at, rises, ordered}
use Rattle.properties.proofs.Hits.{in_behind, in_within, first_hit, no_hit}

module _ (r : Ranges) (order : InOrder r) where
  -- a range ends before every later one begins
  pub apart_all : (k j : ℕ) → j < k → k < count r → cell r.lasts j < cell r.firsts k
  apart_all zero j h l = absurd (omega arith)
  apart_all (suc k) j h l =
      let m : k + 1 < count r = omega (arith, add-one k) in
      let next : cell r.lasts k < cell r.firsts (suc k) = rw (add-one k) at (order.apart k m) in
      let most : j ≤ k = omega arith in
      ⊎_elim
      (λ q. rw q next)
      (λ q. omega (arith, apart_all k j q (omega arith), order.upward k (omega arith)))
      (eq-or-lt_of_le most)

  -- "it fills range columns in scalar order, and a lookup fills the two class columns": the answer is the value of the one range that has the
  -- scalar
  pub one_range : (scalar k : ℕ) → k < count r → has r scalar k ≡ true → code_in r scalar ≡ cell r.codes k
  unfolding code_in
  one_range scalar k h e =
      first_hit r scalar (count r) 0 k (omega arith) (omega arith)
      (λ j a b. in_behind (cell r.firsts j) (cell r.lasts j) scalar (omega (arith, apart_all k j b h, (in_within (cell r.firsts k) (cell r.lasts k) scalar e).0)))
      e

  -- no other has it
  pub only_one : (scalar j k : ℕ) → j < count r → k < count r → has r scalar j ≡ true → has r scalar k ≡ true → j ≡ k
  only_one scalar j k hj hk ej ek =
      let a : _ = in_within (cell r.firsts j) (cell r.lasts j) scalar ej in
      let b : _ = in_within (cell r.firsts k) (cell r.lasts k) scalar ek in
      by_test (ltb j k)
      (λ t. absurd (omega (arith, apart_all k j (ltb-true j k t) hk, a.1, b.0)))
      (λ t.
      by_test (ltb k j)
      (λ u. absurd (omega (arith, apart_all j k (ltb-true k j u) hj, b.1, a.0)))
      (λ u. omega (arith, ltb-false j k t, ltb-false k j u)))

every_all : (p : ℕ → Bool) (n : ℕ) → ((k : ℕ) → k < n → p k ≡ true) → every p n ≡ true
unfolding every
every_all p zero f = refl
every_all p (suc n) f = rw (f n (omega arith)) (every_all p n (λ k h. f k (omega arith)))

-- in such columns the range is found by halving, and no scan is needed
module _ (r : Ranges) (order : InOrder r) where
  firsts_rise : (k : ℕ) → k < count r → rises_at r.firsts k ≡ true
  unfolding rises_at
  firsts_rise zero h = le-leb 0 (cell r.firsts 0) (omega arith)
  firsts_rise (suc k) h =
      le-leb (cell r.firsts k) (cell r.firsts (suc k))
      (omega (arith, order.upward k (omega arith), apart_all r order (suc k) k (omega arith) h))

  lasts_rise : (k : ℕ) → k < count r → rises_at r.lasts k ≡ true
  unfolding rises_at
  lasts_rise zero h = le-leb 0 (cell r.lasts 0) (omega arith)
  lasts_rise (suc k) h =
      le-leb (cell r.lasts k) (cell r.lasts (suc k))
      (omega (arith, order.upward (suc k) h, apart_all r order (suc k) k (omega arith) h))

  pub halved : ordered r.firsts r.lasts (count r) ≡ true
  unfolding ordered rises
  halved = rw (every_all (rises_at r.firsts) (count r) firsts_rise) (every_all (rises_at r.lasts) (count r) lasts_rise)

-- "A scalar in no range is XX or Other.": of columns in any order
pub in_no_range : (r : Ranges) (scalar : ℕ) → ((k : ℕ) → k < count r → has r scalar k ≡ false) → code_in r scalar ≡ 0
unfolding code_in
in_no_range r scalar f = no_hit r scalar (count r) 0 (λ k a b. f k (omega arith))

-- what stands in a class column afterwards: the class of each scalar, and behind the text what stood there
module _ (r : Ranges) (scalars out : List ℕ) where
  pub class_cell : (i : ℕ) → i < length scalars → cell (filled (Ok tt) r scalars out) i ≡ code_in r (cell scalars i)
  unfolding class_at
  class_cell i h = written_cell (class_at r scalars) out (length scalars) i h

  pub kept : (k : ℕ) → cell (filled (Ok tt) r scalars out) (length scalars + k) ≡ cell out (length scalars + k)
  kept k = kept_cell (class_at r scalars) out (length scalars) k

-- The lookup's refusals: 3 of each scalar by rising index, then 9.
pub lookup_by_table : (scalars : List ℕ) (breaks words : ℕ) → ByTable (3 ∷ 9 ∷ []) (lookup_table scalars breaks words) (lookup_verdict scalars breaks words)
unfolding lookup_verdict judge_scalar over
lookup_by_table scalars breaks words =
    by_table _ (lookup_table scalars breaks words) (record { before = refl; parts = λ i. refl; records = λ i. refl; after = refl })
    (lookup_verdict scalars breaks words)
    (ap (λ o. o ⊳ refuse (ltb (min breaks words) (length scalars)) 9 Neither 0) (over_same judge (λ i. judge i ⊳ (Ok tt)) (λ i. sym (alone (judge i))) (length scalars) 0)
    ∙ ap (λ v. over (λ i. judge i ⊳ (Ok tt)) 0 (length scalars) ⊳ v) (sym (alone (refuse (ltb (min breaks words) (length scalars)) 9 Neither 0))))
  where
    judge : ℕ → Verdict
    judge i = judge_scalar (cell scalars i) i

-- no two results fulfil the lookup's contract (SCOPE 10): nor two verdicts, nor two contents of a column
module _ (scalars : List ℕ) (breaks words : ℕ) (a b : Verdict) (p : a ≡ lookup_verdict scalars breaks words) (q : b ≡ lookup_verdict scalars breaks words) where
  pub lookup_unique : a ≡ b
  lookup_unique = unique (lookup_verdict scalars breaks words) a b p q

  pub column_unique : (r : Ranges) (out x y : List ℕ) → x ≡ filled a r scalars out → y ≡ filled b r scalars out → x ≡ y
  column_unique r out x y e f = e ∙ ap (λ v. filled v r scalars out) lookup_unique ∙ sym f
