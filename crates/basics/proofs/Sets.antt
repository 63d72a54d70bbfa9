-- Laws of the sets: each takes what the code or a definition has shown of one number. Assumes nothing.
use Prim.Native.Nat.{ℕ, zero, suc, ◌+◌, ◌<◌, ◌≤◌}
use mathlib.Core.Path.{◌≡◌, refl, sym, ◌∙◌, ap, subst}
use mathlib.Core.Bool.{Bool, true, false, ◌||◌, and-false, false≢true}
use mathlib.Core.List.{List, [], ◌∷◌}
use mathlib.Core.Logic.{⊎_elim}
use native.Mathlib.Nat.{eq-or-lt_of_le}
use native.Mathlib.Numerals.{add-one}
use native.Mathlib.Omega.{arith}
use lib.Dec.{eqb}
use borrow.Author.Tests.{eqb-true, eqb-false, eq-eqb, ne_eqb}
use Rattle.std.specs.Prelude.{nat_eq}
use Rattle.std.specs.List.{list_any}
use Rattle.basics.specs.Sets.{member, every}
use Rattle.basics.proofs.Tests.{by_test, both}

pub member_here : (x k : ℕ) (xs : List ℕ) → k ≡ x → true ≡ member (x ∷ xs) k
member_here x k xs e = rw (eq-eqb k x e)

pub member_next : (x k : ℕ) (xs : List ℕ) (t : Bool) → (k ≡ x → ⊥) → t ≡ member xs k → t ≡ member (x ∷ xs) k
member_next x k xs t n e = rw (ne_eqb k x n) e

pub member_last : (x k : ℕ) → eqb k x ≡ member (x ∷ []) k
member_last x k = go (eqb k x)
  where
    go : (b : Bool) → b ≡ (b || false)
    go true = refl
    go false = refl

-- what `contains` of a list says
pub member_listed : (xs : List ℕ) (k : ℕ) → list_any (λ y. nat_eq y k) xs ≡ member xs k
member_listed [] k = refl
member_listed (x ∷ xs) k = by_test (eqb k x)
    (λ e. rw (e, eqb-true k x e, eq-eqb x x refl) refl)
    (λ e. rw (e, ne_eqb x k (λ d. eqb-false k x e (sym d)), member_listed xs k) refl)

-- a number against a list, one `if` after the other
pub ruleset members = (member_here, member_next, member_last)

pub eq_case : (P : ℕ → Type 0) (x k : ℕ) → eqb x k ≡ true → P k → P x
eq_case P x k h p = subst P (sym (eqb-true x k h)) p

-- a number that is k, or one of the others
pub or_case : (P : ℕ → Type 0) (x k : ℕ) {others : Bool} → (eqb x k || others) ≡ true → P k → (others ≡ true → P x) → P x
or_case P x k {others} h p f = go (eqb x k) refl h
  where
    go : (t : Bool) → eqb x k ≡ t → (t || others) ≡ true → P x
    go true e q = eq_case P x k e p
    go false e q = f q

-- a property of all numbers of a list
abbrev pub Each : (ℕ → Type 0) → List ℕ → Type 0
Each P [] = Unit {0}
Each P (k ∷ ks) = P k × Each P ks

-- what holds of each number of a list holds of the one that is in it
pub in_case : (P : ℕ → Type 0) (ks : List ℕ) (x : ℕ) → member ks x ≡ true → Each P ks → P x
in_case P [] x h each = absurd (false≢true h)
in_case P (k ∷ ks) x h each = or_case P x k h each.0 (λ q. in_case P ks x q each.1)

module _ (p : ℕ → Bool) where
  pub every_at : (n i : ℕ) → every p n ≡ true → i < n → p i ≡ true
  unfolding every
  every_at zero i e h = absurd (omega arith)
  every_at (suc n) i e h = ⊎_elim
      (λ (q : i ≡ n). ap p q ∙ (both (p n) (every p n) e).0)
      (λ (q : i < n). every_at n i (both (p n) (every p n) e).1 q)
      (eq-or-lt_of_le (let l : i ≤ n = omega arith in l))

  -- a loop that looks for a number of which p is false
  pub every_more : (i : ℕ) → every p i ≡ true → p i ≡ true → every p (i + 1) ≡ true
  unfolding every
  every_more i h k = rw (add-one i, h, k)

  pub every_fails : (n i : ℕ) → i < n → p i ≡ false → every p n ≡ false
  unfolding every
  every_fails zero i l h = absurd (omega arith)
  every_fails (suc n) i l h =
      let at_most : i ≤ n = omega arith in
      ⊎_elim
      (λ e. rw (← e, h))
      (λ k. rw (every_fails n i k h, and-false (p n)))
      (eq-or-lt_of_le at_most)
