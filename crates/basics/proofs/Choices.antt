-- A test in the code, with a return in each arm, is the `cond`, the `||` or the `&&` of the definition. Assumes nothing.
use Prim.Native.Nat.{ℕ, ◌<◌, ◌≤◌}
use mathlib.Core.Path.{◌≡◌, refl}
use mathlib.Core.Bool.{Bool, true, false, cond, not, ◌&&◌, ◌||◌}
use lib.Dec.{ltb, eqb}
use borrow.Author.Tests.{lt-ltb, le-ltb, eq-eqb, ne_eqb}

-- r is what the code answers, m and n are the numbers that it compares
module _ {A : Type 0} (m n : ℕ) (x y r : A) where
  pub lt_then : m < n → r ≡ x → r ≡ cond (ltb m n) x y
  lt_then h e = rw (lt-ltb m n h) e

  pub lt_else : n ≤ m → r ≡ y → r ≡ cond (ltb m n) x y
  lt_else h e = rw (le-ltb m n h) e

  pub eq_then : m ≡ n → r ≡ x → r ≡ cond (eqb m n) x y
  eq_then h e = rw (eq-eqb m n h) e

  pub eq_else : (m ≡ n → ⊥) → r ≡ y → r ≡ cond (eqb m n) x y
  eq_else h e = rw (ne_eqb m n h) e

-- t is what a call said of the test
module _ {A : Type 0} (b t : Bool) (x y r : A) (e : t ≡ b) where
  pub call_then : t ≡ true → r ≡ x → r ≡ cond b x y
  call_then h k = rw (← e, h) k

  pub call_else : t ≡ false → r ≡ y → r ≡ cond b x y
  call_else h k = rw (← e, h) k

pub ruleset choices = (lt_then, lt_else, eq_then, eq_else, call_then, call_else)

-- t is what a call said of the first test, r what the rest of the code says of the others
module _ (a b t : Bool) (e : t ≡ a) where
  pub or_first : t ≡ true → true ≡ (a || b)
  or_first h = rw (← e, h)

  pub or_later : (r : Bool) → t ≡ false → r ≡ b → r ≡ (a || b)
  or_later r h k = rw (← e, h) k

  pub and_first : t ≡ false → false ≡ (a && b)
  and_first h = rw (← e, h)

  pub and_later : (r : Bool) → t ≡ true → r ≡ b → r ≡ (a && b)
  and_later r h k = rw (← e, h) k

pub or_last : (a t : Bool) → t ≡ a → t ≡ (a || false)
or_last true t e = e
or_last false t e = e

-- the same where the code compares two numbers itself
pub and_eq : (x y : ℕ) (b r : Bool) → x ≡ y → r ≡ b → r ≡ (eqb x y && b)
and_eq x y b r e k = rw (eq-eqb x y e) k

pub and_ne : (x y : ℕ) (b : Bool) → (x ≡ y → ⊥) → false ≡ (eqb x y && b)
and_ne x y b n = rw (ne_eqb x y n)

pub or_eq : (x y : ℕ) (b : Bool) → x ≡ y → true ≡ (eqb x y || b)
or_eq x y b e = rw (eq-eqb x y e)

pub or_ne : (x y : ℕ) (b r : Bool) → (x ≡ y → ⊥) → r ≡ b → r ≡ (eqb x y || b)
or_ne x y b r n k = rw (ne_eqb x y n) k

pub or_only : (a : Bool) → a ≡ (a || false)
or_only a = or_last a a refl

pub not_call : (b t : Bool) → t ≡ b → not t ≡ not b
not_call b t e = rw e

pub ruleset chains = (or_first, or_later, or_last, or_only, or_eq, or_ne, and_first, and_later, and_eq, and_ne, not_call)
