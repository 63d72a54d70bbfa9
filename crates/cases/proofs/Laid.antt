-- A table laid cell by cell, item after item. Assumes nothing.
use Prim.Native.Nat.{ℕ, zero, suc, ◌+◌, ◌-◌, ◌<◌, ◌≤◌, min, ◌%◌}
use mathlib.Core.Path.{◌≡◌, refl, sym, ◌∙◌, ap}
use mathlib.Core.Bool.{Bool, true, false}
use mathlib.Core.List.{List, [], ◌∷◌, ◌++◌}
use native.Mathlib.Nat.{zero-min, min-zero, suc-min-suc}
use native.Mathlib.Numerals.{add-one}
use native.Mathlib.Omega.{arith}
use lib.Dec.{ltb}
use lib.ListN.{length, take, drop, set, replicate, length-append, length-replicate, replicate-append-replicate}
use lib.Seq.{sets, take_all, take-append-le, take-append-add}
use borrow.Author.Tests.{eq-eqb, ne_eqb, lt-ltb, le-ltb, ltb-true, ltb-false}
use Rattle.cases.specs.Spans.{count, up_to, rest}
use Rattle.cases.specs.Table.{times_of, value_of, table_to, table_of, reached, kept_of}
use Rattle.cases.proofs.Splits.{span_read}

kept_low : (n : ℕ) → n < reached → kept_of n ≡ n
unfolding kept_of
kept_low n h = rw (lt-ltb _ _ h)

kept_high : (n : ℕ) → reached ≤ n → kept_of n ≡ reached + n % 44
unfolding kept_of
kept_high n h = rw (le-ltb _ _ h)

-- below 256 rows, or not
module _ (n : ℕ) {P : Type 0} (low : n < reached → P) (high : reached ≤ n → P) where
  by_rows : P
  by_rows = go (ltb n reached) refl
    where
      go : (b : Bool) → ltb n reached ≡ b → P
      go true h = low (ltb-true _ _ h)
      go false h = high (ltb-false _ _ h)

-- c cells more
kept_more : (n c : ℕ) → kept_of (kept_of n + c) ≡ kept_of (n + c)
kept_more n c = by_rows n
    (λ h. rw (kept_low n h))
    (λ h. let k : reached ≤ n + c = omega arith in
    let l : reached ≤ reached + n % 44 + c = omega arith in
    let m : reached + (reached + n % 44 + c) % 44 ≡ reached + (n + c) % 44 = omega arith in
    rw (kept_high n h, kept_high _ l, kept_high _ k) m)

sets_append : (l : List ℕ) (i : ℕ) (xs ys : List ℕ) → sets l i (xs ++ ys) ≡ sets (sets l i xs) (i + length xs) ys
sets_append l i [] ys = let e : i ≡ i + 0 = omega arith in ap (λ k. sets l k ys) e
sets_append l i (x ∷ xs) ys =
    let e : suc i + length xs ≡ i + suc (length xs) = omega arith in
    sets_append (set l i x) (suc i) xs ys ∙ ap (λ k. sets (sets (set l i x) (suc i) xs) k ys) e

pub lay_none : (l : List ℕ) (from v : ℕ) → l ≡ sets l from (replicate (from - from) v)
lay_none l from v = let e : 0 ≡ from - from = omega arith in ap (λ k. sets l from (replicate k v)) e

-- one cell more of an item
pub lay_more : (l out : List ℕ) (from i v : ℕ) → from ≤ i → out ≡ sets l from (replicate (i - from) v)
    → set out i v ≡ sets l from (replicate (i + 1 - from) v)
lay_more l out from i v h e =
    let f : i + 1 - from ≡ i - from + 1 = omega arith in
    let g : from + length (replicate (i - from) v) ≡ i = rw (length-replicate (i - from) v) (omega arith) in
    rw (f, ← replicate-append-replicate (i - from) 1 v, sets_append l from (replicate (i - from) v) (replicate 1 v), g, e)

take_replicate : (k c v : ℕ) → take k (replicate c v) ≡ replicate (min k c) v
take_replicate zero c v = ap (λ n. replicate n v) (sym (zero-min c))
take_replicate (suc k) zero v = ap (λ n. replicate n v) (sym (min-zero (suc k)))
take_replicate (suc k) (suc c) v = ap (λ (r : List ℕ). v ∷ r) (take_replicate k c v) ∙ ap (λ n. replicate n v) (sym (suc-min-suc k c))

-- an item more, as far as the rows that are laid go
lay_item : (l table : List ℕ) (n c v end : ℕ) → n ≡ kept_of (length table) → end ≡ min (n + c) reached
    → sets (sets l 0 (take reached table)) n (replicate (end - n) v) ≡ sets l 0 (take reached (table ++ replicate c v))
lay_item l table n c v end en ee = by_rows (length table)
    (λ h. let m : n ≡ length table = en ∙ kept_low _ h in
    let f : reached ≡ length table + (reached - length table) = omega arith in
    let g : end - n ≡ min (reached - length table) c = omega arith in
    let t : take reached (table ++ replicate c v) ≡ table ++ replicate (end - n) v =
    ap (λ k. take k (table ++ replicate c v)) f ∙ take-append-add table (replicate c v) (reached - length table)
    ∙ ap (λ r. table ++ r) (take_replicate (reached - length table) c v ∙ ap (λ k. replicate k v) (sym g)) in
    let a : take reached table ≡ table = take_all reached table (omega arith) in
    let z : n ≡ 0 + length table = omega arith in
    rw (t, a, sets_append l 0 table (replicate (end - n) v), ← z))
    (λ h. let m : n ≡ reached + length table % 44 = en ∙ kept_high _ h in
    let z : end - n ≡ 0 = omega arith in
    rw (z, take-append-le reached table (replicate c v) h))

-- the loop over the items, at item i, which the code has read as p, with t cells of v
module _ (xs : List ℕ) (i at : ℕ) (left : drop at xs ≡ rest 32 i xs) (p : List ℕ) (ep : p ≡ up_to 32 (drop at xs))
    (t v n : ℕ) (et : t ≡ times_of p) (ev : v ≡ value_of p) (en : n ≡ kept_of (length (table_to xs i))) where
  here : table_to xs (i + 1) ≡ table_to xs i ++ replicate t v
  unfolding table_to
  here = rw (add-one i, ← span_read 32 xs i at left p ep, et, ev)

  pub kept_next : (m : ℕ) → m ≡ kept_of (n + t) → m ≡ kept_of (length (table_to xs (i + 1)))
  kept_next m h =
      let l : length (table_to xs (i + 1)) ≡ length (table_to xs i) + t = ap length here ∙ length-append (table_to xs i) (replicate t v) ∙ ap (λ k. length (table_to xs i) + k) (length-replicate t v) in
      h ∙ ap (λ k. kept_of (k + t)) en ∙ kept_more (length (table_to xs i)) t ∙ ap kept_of (sym l)

  pub laid_next : (l out : List ℕ) (end : ℕ) (out' : List ℕ) → out ≡ sets l 0 (take reached (table_to xs i)) → end ≡ min (n + t) reached
      → out' ≡ sets out n (replicate (end - n) v) → out' ≡ sets l 0 (take reached (table_to xs (i + 1)))
  laid_next l out end out' e f g = g ∙ ap (λ o. sets o n (replicate (end - n) v)) e ∙ lay_item l (table_to xs i) n t v end en f ∙ ap (λ r. sets l 0 (take reached r)) (sym here)

-- a table of no items
module _ (xs : List ℕ) (h : length xs ≡ 0) where
  pub none_kept : 0 ≡ kept_of (length (table_of xs))
  unfolding table_of kept_of
  none_kept = rw (eq-eqb _ _ h)

  pub none_laid : (l : List ℕ) → l ≡ sets l 0 (take reached (table_of xs))
  unfolding table_of
  none_laid l = rw (eq-eqb _ _ h)

-- all items
module _ (xs : List ℕ) (last i : ℕ) (h : length xs ≡ 0 → ⊥) (e : last ≡ count 32 xs) (k : i ≡ last + 1) where
  all : table_to xs i ≡ table_of xs
  unfolding table_of
  all = rw (ne_eqb _ _ h, ← e, ← k)

  pub all_kept : (n : ℕ) → n ≡ kept_of (length (table_to xs i)) → n ≡ kept_of (length (table_of xs))
  all_kept n l = l ∙ ap (λ r. kept_of (length r)) all

  pub all_laid : (l out : List ℕ) → out ≡ sets l 0 (take reached (table_to xs i)) → out ≡ sets l 0 (take reached (table_of xs))
  all_laid l out f = f ∙ ap (λ r. sets l 0 (take reached r)) all
