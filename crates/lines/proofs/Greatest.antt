-- A loop that keeps the greatest value decides whether any value is at or above a limit. Assumes nothing.
use Prim.Native.Nat.{ℕ, ◌-◌, ◌/◌, ◌%◌}
use mathlib.Core.Path.{◌≡◌, refl, sym, ◌∙◌, ap}
use mathlib.Core.Bool.{Bool, ◌||◌, or_assoc}
use mathlib.Core.List.{List, [], ◌∷◌, ◌++◌}
use native.Mathlib.Omega.{arith}
use lib.Dec.{leb}
use lib.ListN.{length, take, drop, take-append-drop, length-drop}
use lib.Seq.{take_all}
use Rattle.basics.specs.Sets.{any}

-- most is the greatest of the values so far: it and what is left decide
abbrev pub Swept : (ℕ → ℕ) → ℕ → List ℕ → ℕ → ℕ → Type 0
Swept f limit xs i most = (leb limit most || any (λ v. leb limit (f v)) (drop i xs)) ≡ any (λ v. leb limit (f v)) xs

-- any of a column, by its halves
any_join : (p : ℕ → Bool) (xs ys : List ℕ) → any p (xs ++ ys) ≡ (any p xs || any p ys)
any_join p [] ys = refl
any_join p (x ∷ xs) ys = ap (λ b. p x || b) (any_join p xs ys) ∙ sym (or_assoc (p x) (any p xs) (any p ys))

-- the two halves of a column with an even number of cells, as they are cut out
module _ (xs : List ℕ) (even : length xs % 2 ≡ 0) where
  abbrev half : ℕ
  half = length xs / 2

  rest : take (length xs - half) (drop half xs) ≡ drop half xs
  rest = take_all (length xs - half) (drop half xs) (let z : length (drop half xs) ≡ length xs - half = length-drop half xs in omega (arith, z))

  pub any_halves : (p : ℕ → Bool) (r : Bool) → r ≡ (any p (take half xs) || any p (take (length xs - half) (drop half xs))) → r ≡ any p xs
  any_halves p r e =
      e ∙ ap (λ ys. any p (take half xs) || any p ys) rest ∙ sym (any_join p (take half xs) (drop half xs)) ∙ ap (any p) (take-append-drop half xs)
