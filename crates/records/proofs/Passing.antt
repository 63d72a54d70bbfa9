-- The check by columns: what a loop over a column has found of the cells so far, and that a text whose columns pass is refused by nothing
-- but 7.
-- Assumes nothing.
use Prim.Native.Nat.{ℕ, ◌+◌, ◌<◌, ◌≤◌}
use mathlib.Core.Path.{◌≡◌, refl, sym, subst}
use mathlib.Core.Bool.{Bool, true, false}
use mathlib.Core.List.{List}
use mathlib.Core.Logic.{⊎_elim}
use native.Mathlib.Nat.{eq-or-lt_of_le}
use native.Mathlib.Omega.{arith}
use lib.Dec.{eqb, ltb}
use borrow.Author.Tests.{ltb-true, ltb-false}
use lib.Bits.{bit_or, or_add_and, and_le_l, and_le_r}
use lib.ListN.{length, get_or-eq_default}
use Rattle.classes.specs.Scalar.{CGJ}
use Rattle.records.specs.Text.{Text, cell}
use Rattle.records.specs.declared.Parser.{Parser}
use Rattle.records.specs.declared.sweep.Six.{Six}
use Rattle.records.specs.declared.Parser.TheVariants.{Simple, Myanmar, Complex, Khmer}
use Rattle.records.specs.Verdict.{Verdict}
use Rattle.records.specs.Refusals.{bad_scalar, barred, judge_signs}
use Rattle.records.specs.Sweep.{CleanScalar, CleanScalars, Spared, EndsBy, Inside, six_at, Below, Passes, PassesFor, each_verdict}
use Rattle.records.proofs.Accepted.{parts_pass, rows_pass}

pub not_so : {A : Type 0} → false ≡ true → A
not_so e = absurd (let z : ◌≡◌ {A = ℕ} 0 1 = cc in omega arith)

-- a loop over the indices below n: one more, and all
pub each_more : (P : ℕ → Type 0) (i : ℕ) → ((k : ℕ) → k < i → P k) → P i → (k : ℕ) → k < i + 1 → P k
each_more P i f p k h =
    let l : k ≤ i = omega arith in
    ⊎_elim (λ e. subst P (sym e) p) (λ m. f k m) (eq-or-lt_of_le l)

pub each_all : (P : ℕ → Type 0) (n : ℕ) → ((k : ℕ) → k < n → P k) → ((k : ℕ) → n ≤ k → P k) → (k : ℕ) → P k
each_all P n f g k = go (ltb k n) refl
  where
    go : (b : Bool) → ltb k n ≡ b → P k
    go true e = f k (ltb-true k n e)
    go false e = g k (ltb-false k n e)

-- a loop that joins numbers, 0 where all is well
pub joined_more : (P : ℕ → Type 0) (i p o q : ℕ) → (p ≡ 0 → (k : ℕ) → k < i → P k) → (o ≡ 0 → P i) → q ≡ bit_or p o → q ≡ 0 → (k : ℕ) → k < i + 1 → P k
joined_more P i p o q f g j e =
    let a = or_add_and p o in
    each_more P i (f (omega (arith, and_le_r p o, j))) (g (omega (arith, and_le_l p o, j)))

pub past : (xs : List ℕ) (k : ℕ) → length xs ≤ k → cell xs k ≡ 0
past xs k h = get_or-eq_default xs 0 h

clean_zero : CleanScalar 0
unfolding bad_scalar
clean_zero = (refl, refl)

module _ (xs : List ℕ) (i : ℕ) where
  pub clean_all : (p : ℕ) → (p ≡ 0 → (k : ℕ) → k < i → CleanScalar (cell xs k)) → length xs ≤ i → p ≡ 0 → CleanScalars xs
  clean_all p f l e = each_all (λ k. CleanScalar (cell xs k)) i (f e) (λ k d. let z : cell xs k ≡ 0 = past xs k (omega arith) in subst CleanScalar (sym z) clean_zero)

module _ (xs ys : List ℕ) (i : ℕ) where
  pub end_more : (m n e : ℕ) → ((k : ℕ) → k < i → cell xs k + cell ys k ≤ m) → m ≤ n → e ≤ n → e ≡ cell xs i + cell ys i → (k : ℕ) → k < i + 1 → cell xs k + cell ys k ≤ n
  end_more m n e f l h q = each_more (λ k. cell xs k + cell ys k ≤ n) i (λ k d. let z : cell xs k + cell ys k ≤ m = f k d in omega arith) (omega arith)

-- numbers joined: 0 where both are
pub none_joined : (p o q : ℕ) → q ≡ bit_or p o → q ≡ 0 → (p ≡ 0) × (o ≡ 0)
none_joined p o q j e = let a = or_add_and p o in (omega (arith, and_le_r p o, j), omega (arith, and_le_l p o, j))

-- six columns of one length: one record more, and all
module _ (limits : Six) (a b c d e f : List ℕ) (i : ℕ) where
  abbrev pub SixSo : ℕ → Type 0
  SixSo odd = odd ≡ 0 → (k : ℕ) → k < i → Inside (six_at a b c d e f k) limits

-- no parser bars another scalar than U+034F
spared : (parser : Parser) (x class : ℕ) → eqb x CGJ ≡ false → barred parser x class ≡ false
unfolding barred
spared Simple x class e = refl
spared Myanmar x class e = refl
spared Complex x class e = rw e
spared Khmer x class e = rw e

-- a scalar that is clean is spared by every parser, and so is what stands past the end
module _ (parser : Parser) (xs classes : List ℕ) where
  abbrev pub SparedAt : ℕ → Type 0
  SparedAt k = (bad_scalar (cell xs k) ≡ false) × (barred parser (cell xs k) (cell classes k) ≡ false)

  abbrev pub SparedSo : ℕ → Type 0
  SparedSo i = (k : ℕ) → k < i → SparedAt k

  clean_spared : (k : ℕ) → CleanScalar (cell xs k) → SparedAt k
  clean_spared k c = (c.0, spared parser _ _ c.1)

  pub spared_all : (i : ℕ) → SparedSo i → length xs ≤ i → Spared parser xs classes
  spared_all i f l = each_all SparedAt i f (λ k d. let z : cell xs k ≡ 0 = past xs k (omega arith) in clean_spared k (subst CleanScalar (sym z) clean_zero))

pub columns_pass_for : (parser : Parser) (t : Text) → Below t → Spared parser t.records.scalars t.records.uses → Spared parser t.parts.pscalars t.parts.puses → EndsBy t.records.firsts t.records.counts (length t.parts.pscalars) → PassesFor parser t
columns_pass_for parser t below s p e =
    record {
      parts = parts_pass parser _ (λ i h. record {
        scalar = (p i).0;
        breaks = (below.parts i).0;
        uses = (below.parts i).1;
        category = (below.parts i).2;
        free = (p i).1;
      });
      rows = rows_pass parser _ _ (λ i h. record {
        scalar = (s i).0;
        breaks = (below.classes i).0;
        uses = (below.classes i).1;
        myanmar = (below.classes i).2;
        category = (below.classes i).3;
        word = (below.classes i).4;
        semoji = (below.marks i).0;
        memoji = (below.marks i).1;
        cemoji = (below.marks i).2;
        pictograph = (below.marks i).3;
        selector = (below.marks i).4;
        decompose = (below.marks i).5;
        count = let z : cell t.records.counts i < 4 = (below.classes i).5 in omega arith;
        run = e i;
        free = (s i).1;
      });
    }

-- clean scalars are spared by every parser
pub columns_pass : (t : Text) → Below t → CleanScalars t.records.scalars → CleanScalars t.parts.pscalars → EndsBy t.records.firsts t.records.counts (length t.parts.pscalars) → Passes t
columns_pass t below s p e =
    record {
      parts = λ parser. (each parser).parts;
      rows = λ parser. (each parser).rows;
    }
  where
    each : (parser : Parser) → PassesFor parser t
    each parser = columns_pass_for parser t below (λ k. clean_spared parser _ _ k (s k)) (λ k. clean_spared parser _ _ k (p k)) e

-- where both pass, what is left of the verdict are the signs
pub both_pass : (parser : Parser) (t : Text) (r : Verdict) → Passes t → r ≡ judge_signs parser t → r ≡ each_verdict parser t
both_pass parser t r p e = rw (p.parts parser, p.rows parser) e

pub both_pass_for : (parser : Parser) (t : Text) (r : Verdict) → PassesFor parser t → r ≡ judge_signs parser t → r ≡ each_verdict parser t
both_pass_for parser t r p e = rw (p.parts, p.rows) e
