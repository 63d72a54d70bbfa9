-- A walk over a text by positions is the definitions' walk over what is left of it. Assumes nothing.
use Prim.Native.Nat.{ℕ, zero, suc, ◌+◌, ◌-◌, ◌<◌, ◌≤◌}
use mathlib.Core.Path.{◌≡◌, refl, sym, ◌∙◌, ap, subst}
use mathlib.Core.Bool.{Bool, true, false, cond}
use mathlib.Core.List.{List, [], ◌∷◌}
use native.Mathlib.Numerals.{add-one}
use native.Mathlib.Omega.{arith}
use Rattle.std.specs.Prelude.{nat_eq}
use Rattle.std.specs.List.{filter}
use Rattle.std.specs.Cmp.Lexicographic.{pointwise, same_text, other_text}
use Rattle.std.proofs.lemmas.List.{ext_get_or}
use Rattle.basics.proofs.Tests.{both, by_test}
use lib.Dec.{eqb, ltb}
use lib.ListN.{length, get_or, take, drop, drop_of_length-le, length-drop}
use lib.Seq.{drop-cons, drop-drop}
use borrow.Author.Tests.{eq-eqb, ne_eqb, ltb-false, eqb-true}
use Rattle.basics.proofs.Sets.{every_at}
use Rattle.basics.specs.Sets.{every}
use Rattle.records.proofs.Unique.{unique}
use Rattle.cases.specs.Spans.{before, up_to, after, next_from, rest, span, count, agree, equal}

-- at byte i, of the loops that look for a separator and that count them: k is what they answer
module _ (s : ℕ) (xs : List ℕ) (i k : ℕ) where
  module _ (e : i + before s (drop i xs) ≡ k) where
    pub end_here : i < length xs → get_or xs i 0 ≡ s → i ≡ k
    unfolding before
    end_here h m = let z : before s (drop i xs) ≡ 0 = rw (drop-cons xs i 0 h, eq-eqb _ _ m) in omega arith

    pub end_pass : i < length xs → (get_or xs i 0 ≡ s → ⊥) → i + 1 + before s (drop (i + 1) xs) ≡ k
    unfolding before
    end_pass h n =
        let z : before s (drop i xs) ≡ suc (before s (drop (i + 1) xs)) = rw (add-one i, drop-cons xs i 0 h, ne_eqb _ _ n) in
        omega arith

    pub end_over : length xs ≤ i → i ≡ k
    unfolding before
    end_over h = let z : before s (drop i xs) ≡ 0 = rw (drop_of_length-le xs h) in omega arith

-- the separators are those that the library's count finds
pub count_is : (s : ℕ) (xs : List ℕ) (n : ℕ) → n ≡ length (filter (λ x. eqb x s) xs) → n ≡ count s xs
unfolding count
count_is s xs n e = e ∙ go xs
  where
    one : (b : Bool) (x : ℕ) (ys : List ℕ) → length (cond b (x ∷ filter (λ y. eqb y s) ys) (filter (λ y. eqb y s) ys)) ≡ cond b (suc (length (filter (λ y. eqb y s) ys))) (length (filter (λ y. eqb y s) ys))
    one true x ys = refl
    one false x ys = refl

    go : (ys : List ℕ) → length (filter (λ y. eqb y s) ys) ≡ count s ys
    go [] = refl
    go (y ∷ ys) = rw (← go ys) (one (eqb y s) y ys)

within : (b : Bool) (m n : ℕ) → m ≤ n → cond b 0 (suc m) ≤ suc n
within true m n h = omega arith
within false m n h = omega arith

counted : (b : Bool) (m n : ℕ) → m ≤ n → cond b (suc m) m ≤ suc n
counted true m n h = omega arith
counted false m n h = omega arith

pub before_within : (s : ℕ) (xs : List ℕ) → before s xs ≤ length xs
unfolding before
before_within s [] = omega arith
before_within s (x ∷ xs) = let h : before s xs ≤ length xs = before_within s xs in within (eqb x s) (before s xs) (length xs) h

count_within : (s : ℕ) (xs : List ℕ) → count s xs ≤ length xs
unfolding count
count_within s [] = omega arith
count_within s (x ∷ xs) = let h : count s xs ≤ length xs = count_within s xs in counted (eqb x s) (count s xs) (length xs) h

pub count_bound : (s : ℕ) (xs : List ℕ) (n : ℕ) → n ≡ count s xs → n ≤ length xs
count_bound s xs n e = rw e (count_within s xs)

-- where a span ends
module _ (s : ℕ) (xs : List ℕ) (at end : ℕ) (e : end ≡ at + before s (drop at xs)) where
  pub span_within : at ≤ length xs → end ≤ length xs
  span_within h = omega (arith, before_within s (drop at xs), length-drop at xs)

  pub span_here : take (end - at) (drop at xs) ≡ up_to s (drop at xs)
  unfolding up_to
  span_here = let f : end - at ≡ before s (drop at xs) = omega arith in rw f

pub span_none : (s : ℕ) (xs : List ℕ) (at : ℕ) → length xs < at → [] ≡ up_to s (drop at xs)
unfolding up_to before
span_none s xs at h = let k : length xs ≤ at = omega arith in rw (drop_of_length-le xs k)

-- the bytes that are left where the next span begins
pub next_after_lem : (s at : ℕ) (xs : List ℕ) → drop (next_from s at xs) xs ≡ after s (drop at xs)
unfolding after next_from
next_after_lem s at xs = go (ltb end (length xs)) refl ∙ sym (drop-drop (suc (before s (drop at xs))) at xs)
  where
    end : ℕ
    end = at + before s (drop at xs)

    -- where the text has ended, one byte further there is nothing either
    go : (b : Bool) → ltb end (length xs) ≡ b → drop (cond b (end + 1) end) xs ≡ drop (at + suc (before s (drop at xs))) xs
    go true h = let f : end + 1 ≡ at + suc (before s (drop at xs)) = omega arith in rw f
    go false h =
        let l : length xs ≤ end = ltb-false end (length xs) h in
        let m : length xs ≤ at + suc (before s (drop at xs)) = omega arith in
        drop_of_length-le xs l ∙ sym (drop_of_length-le xs m)

-- no two answers of `next_of` fulfil its contract (SCOPE 10)
pub next_of_unique : (s at : ℕ) (xs : List ℕ) (a b : ℕ) → a ≡ next_from s at xs → b ≡ next_from s at xs → a ≡ b
next_of_unique s at xs = unique (next_from s at xs)

-- after i parts
module _ (s : ℕ) (xs : List ℕ) (i at : ℕ) (e : drop at xs ≡ rest s i xs) where
  pub rest_more : (next : ℕ) → next ≡ next_from s at xs → drop next xs ≡ rest s (i + 1) xs
  unfolding rest
  rest_more next h = rw (add-one i, h) (next_after_lem s at xs ∙ ap (after s) e)

  pub span_read : (p : List ℕ) → p ≡ up_to s (drop at xs) → p ≡ span s i xs
  unfolding span
  span_read p h = h ∙ ap (up_to s) e

-- two texts compared byte by byte
agree_all : (xs : List ℕ) (n : ℕ) → every (agree xs xs) n ≡ true
unfolding every agree
agree_all xs zero = refl
agree_all xs (suc n) = rw (eq-eqb (get_or xs n 0) (get_or xs n 0) refl) (agree_all xs n)

equal_self : (xs : List ℕ) → equal xs xs ≡ true
unfolding equal
equal_self xs = rw (eq-eqb (length xs) (length xs) refl) (agree_all xs (length xs))

equal_same : (xs ys : List ℕ) → equal xs ys ≡ true → xs ≡ ys
unfolding equal agree
equal_same xs ys h =
    let p : _ = both (eqb (length xs) (length ys)) (every (agree xs ys) (length xs)) h in
    ext_get_or 0 xs ys (eqb-true _ _ p.0) (λ i k. eqb-true _ _ (every_at (agree xs ys) (length xs) i p.1 k))

-- what `==` says of two texts
pub equal_told : (xs ys : List ℕ) (r : Bool) → r ≡ pointwise nat_eq xs ys → r ≡ equal xs ys
equal_told xs ys true e = subst (λ (zs : List ℕ). true ≡ equal xs zs) (same_text xs ys e) (sym (equal_self xs))
equal_told xs ys false e = by_test (equal xs ys) (λ h. absurd (other_text xs ys e (equal_same xs ys h))) (λ h. sym h)
