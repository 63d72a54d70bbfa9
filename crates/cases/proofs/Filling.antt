-- A column of any type, as the loop fills it, and what that says of numbers. Assumes nothing.
use Prim.Native.Nat.{ℕ, ◌+◌, ◌-◌, ◌<◌, ◌≤◌}
use mathlib.Core.Path.{◌≡◌, refl, sym, ◌∙◌, ap}
use mathlib.Core.List.{List, ◌++◌}
use native.Mathlib.Omega.{arith}
use lib.Dec.{eqb, ltb}
use lib.ListN.{length, get_or, drop, set, length-set, length-append, length-drop}
use lib.Seq.{length-take-le, drop-drop}
use borrow.Author.Tests.{eqb-true, eqb-false, ltb-true, ltb-false}
use Rattle.std.proofs.lemmas.List.{get_or-set_same, get_or-set_other, drop-set-lt, get_or-drop, ext_get_or}
use Rattle.basics.specs.Columns.{cells}
use Rattle.basics.proofs.Columns.{cells_length, written_cell, kept_cell}
use Rattle.basics.proofs.Tests.{by_test}
use Rattle.io.specs.Counts.{IsPrefixLen}
use Rattle.cases.specs.Columns.{Filled}
use Rattle.cases.specs.Spans.{span}

pub filled_none : {T : Type 0} (R : List ℕ → T → Type 0) (xs : List ℕ) (out : List T) → Filled R xs out 0 out
filled_none R xs out = record { long = refl; made = λ i d h. absurd (omega arith); later = refl }

-- one item more
pub filled_more : {T : Type 0} (R : List ℕ → T → Type 0) (xs : List ℕ) (out₀ out : List T) (i : ℕ) (v : T) → i < length out₀ → Filled R xs out₀ i out → R (span 32 i xs) v → Filled R xs out₀ (i + 1) (set out i v)
filled_more {T} R xs out₀ out i v h f r =
    record {
      long = length-set out i v ∙ f.long;
      made = made;
      later = drop-set-lt (i + 1) out i v (omega arith) ∙ one out ∙ ap (drop 1) f.later ∙ sym (one out₀);
    }
  where
    made : (k : ℕ) (d : T) → k < i + 1 → R (span 32 k xs) (get_or (set out i v) k d)
    made k d l =
        by_test (eqb k i)
        (λ t. let e : k ≡ i = eqb-true k i t in
        let n : i < length out = omega (arith, f.long) in
        rw (e, get_or-set_same out i v d n) r)
        (λ t. let n : k ≡ i → ⊥ = eqb-false k i t in
        let m : k < i = omega arith in
        rw (get_or-set_other out i k v d n) (f.made k d m))

    one : (ys : List T) → drop (i + 1) ys ≡ drop 1 (drop i ys)
    one ys = let e : i + 1 ≡ i + 1 = refl in sym (drop-drop 1 i ys)

-- where the cells are numbers that f says
pub filled_cells : (f : List ℕ → ℕ) (R : List ℕ → ℕ → Type 0) (xs out₀ : List ℕ) (n : ℕ) (out : List ℕ) → n ≤ length out₀ → ((x : List ℕ) (r : ℕ) → R x r → r ≡ f x) → Filled R xs out₀ n out
    → IsPrefixLen n out × (out ≡ cells (λ i. f (span 32 i xs)) n ++ drop n out₀)
filled_cells f R xs out₀ n out h says filled =
    let m : n ≤ length out = omega (arith, filled.long) in
    ((m, sym (length-take-le n out m)), ext_get_or 0 out (cells g n ++ drop n out₀) long each)
  where
    g : ℕ → ℕ
    g i = f (span 32 i xs)

    long : length out ≡ length (cells g n ++ drop n out₀)
    long =
        let a : length (cells g n ++ drop n out₀) ≡ length (cells g n) + length (drop n out₀) = length-append (cells g n) (drop n out₀) in
        let b : length (cells g n) ≡ n = cells_length g n in
        let d : length (drop n out₀) ≡ length out₀ - n = length-drop n out₀ in
        omega (arith, filled.long)

    each : (i : ℕ) → i < length out → get_or out i 0 ≡ get_or (cells g n ++ drop n out₀) i 0
    each i l =
        by_test (ltb i n)
        (λ t. let k : i < n = ltb-true i n t in says (span 32 i xs) (get_or out i 0) (filled.made i 0 k) ∙ sym (written_cell g out₀ n i k))
        (λ t. let k : n ≤ i = ltb-false i n t in
        let e : i ≡ n + (i - n) = omega arith in
        rw e (sym (get_or-drop n out (i - n) 0) ∙ ap (λ ys. get_or ys (i - n) 0) filled.later ∙ get_or-drop n out₀ (i - n) 0 ∙ sym (kept_cell g out₀ n (i - n))))
