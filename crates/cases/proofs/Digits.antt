-- The number that a loop over the digits reads, digit by digit. Assumes nothing.
use Rattle.std.specs.Prelude.{Some, None, Option}
use Prim.Native.Nat.{ℕ, ◌+◌, ◌*◌, ◌<◌, ◌≤◌}
use mathlib.Core.Path.{◌≡◌, refl}
use mathlib.Core.Bool.{Bool, true, false, cond}
use mathlib.Core.List.{List, [], ◌∷◌}
use native.Mathlib.Nat.{mul-le-mul_left}
use native.Mathlib.Numerals.{add-one}
use native.Mathlib.Omega.{arith}
use lib.Dec.{leb, ltb}
use lib.ListN.{length, get_or, drop, drop_of_length-le}
use lib.Seq.{drop-cons}
use borrow.Author.Tests.{lt-ltb, le-ltb, le-leb, lt-leb, ltb-false}
use Rattle.cases.specs.Numbers.{digit_of, longer, onward, number_from, number_of, Number}

-- v is the value of the digits before i
abbrev pub Left : ℕ → ℕ → List ℕ → ℕ → ℕ → Type 0
Left by most xs v i = number_from by most v (drop i xs) ≡ number_of by most xs

pub left_all : (by most : ℕ) (xs : List ℕ) → (length xs ≡ 0 → ⊥) → Left by most xs 0 0
unfolding number_of
left_all by most [] h = absurd (h refl)
left_all by most (x ∷ xs) h = refl

pub none_read : (by most : ℕ) (xs : List ℕ) → length xs ≡ 0 → None ≡ number_of by most xs
unfolding number_of
none_read by most [] h = refl
none_read by most (x ∷ xs) h = absurd (omega arith)

module _ (radix by most : ℕ) (xs : List ℕ) (v i : ℕ) (r : by ≡ radix) (left : Left by most xs v i) where
  pub all_read : length xs ≤ i → Some v ≡ number_of radix most xs
  unfolding number_from
  all_read h = rw (drop_of_length-le xs h, r) at left

  module _ (e : i < length xs) where
    here : onward (longer by most v (digit_of (get_or xs i 0))) (λ w. number_from by most w (drop (i + 1) xs)) ≡ number_of by most xs
    unfolding number_from
    here = rw (add-one i) (rw (drop-cons xs i 0 e) at left)

    module _ (o : Option ℕ) (f : o ≡ digit_of (get_or xs i 0)) where
      pub no_digit : o ≡ None → None ≡ number_of radix most xs
      no_digit k = rw (← r) (rw (← f, k) at here)

      module _ (d : ℕ) (g : o ≡ Some d) where
        pub no_radix : by ≤ d → None ≡ number_of radix most xs
        no_radix k = rw (← r) (rw (← f, g, le-leb by d k) at here)

        pub too_large : d < by → most < v * by + d → None ≡ number_of radix most xs
        too_large k l = rw (← r) (rw (← f, g, lt-leb by d k, lt-ltb most (v * by + d) l) at here)

        pub left_more : d < by → v * by + d ≤ most → Left by most xs (v * by + d) (i + 1)
        left_more k l = rw (← f, g, lt-leb by d k, le-ltb most (v * by + d) l) at here

-- a value with one digit more is at most 16 times as large
pub grows : (v by : ℕ) → by ≤ 16 → v * by ≤ v * 16
grows v by h = mul-le-mul_left v h

never : (n : ℕ) → None ≡ Some n → ⊥
never n e = let z : ◌≡◌ {A = ℕ} 0 1 = cc in omega arith

-- a number that was read is not above the largest; m is the value with one digit more, and b and c are the two tests
read_more : (most n m : ℕ) (b c : Bool) (more : ℕ → Number) → ltb most m ≡ c → (m ≤ most → more m ≡ Some n → n ≤ most)
    → onward (cond b None (cond c None (Some m))) more ≡ Some n → n ≤ most
read_more most n m true c more t f e = absurd (never n e)
read_more most n m false true more t f e = absurd (never n e)
read_more most n m false false more t f e = f (ltb-false most m t) e

read_digit : (by most v n : ℕ) (o : Option ℕ) (more : ℕ → Number) → ((w : ℕ) → w ≤ most → more w ≡ Some n → n ≤ most) → onward (longer by most v o) more ≡ Some n → n ≤ most
read_digit by most v n None more f e = absurd (never n e)
read_digit by most v n (Some d) more f e = read_more most n (v * by + d) (leb by d) (ltb most (v * by + d)) more refl (f (v * by + d)) e

read_from : (by most v : ℕ) (xs : List ℕ) (n : ℕ) → v ≤ most → number_from by most v xs ≡ Some n → n ≤ most
unfolding number_from
read_from by most v [] n h e = let k : v ≡ n = cc in omega arith
read_from by most v (x ∷ xs) n h e = read_digit by most v n (digit_of x) (λ w. number_from by most w xs) (λ w l. read_from by most w xs n l) e

pub read_within : (by most : ℕ) (xs : List ℕ) (n : ℕ) → number_of by most xs ≡ Some n → n ≤ most
unfolding number_of
read_within by most [] n e = absurd (never n e)
read_within by most (x ∷ xs) n e = read_from by most 0 (x ∷ xs) n (omega arith) e
