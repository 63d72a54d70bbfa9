-- Ranges of columns that meet another, and a line's verdict. Assumes nothing.
use Prim.Native.Nat.{ℕ, zero, suc, ◌+◌, ◌<◌, ◌≤◌}
use mathlib.Core.Path.{◌≡◌, sym, ◌∙◌}
use mathlib.Core.Bool.{Bool, true, false, or-true}
use mathlib.Core.List.{List}
use mathlib.Core.Logic.{⊎_elim}
use native.Mathlib.Nat.{eq-or-lt_of_le}
use native.Mathlib.Numerals.{add-one}
use native.Mathlib.Omega.{arith}
use Rattle.records.specs.Text.{cell}
use Rattle.properties.specs.Reading.{share}
use Rattle.properties.specs.Inner.{some, met_in}

module _ (p : ℕ → Bool) where
  pub some_more : (k : ℕ) → some p k ≡ false → p k ≡ false → some p (k + 1) ≡ false
  unfolding some
  some_more k h e = rw (add-one k, e, h)

  pub some_hit : (n k : ℕ) → k < n → p k ≡ true → some p n ≡ true
  unfolding some
  some_hit zero k h e = absurd (omega arith)
  some_hit (suc n) k h e =
      let most : k ≤ n = omega arith in
      ⊎_elim
      (λ q. rw (← q, e))
      (λ q. rw (some_hit n k q e) (or-true (p n)))
      (eq-or-lt_of_le most)

-- t is what was said of the range at k
module _ (firsts lasts : List ℕ) (n first last k : ℕ) where
  abbrev pub Unmet : Type 0
  Unmet = some (λ j. share first last (cell firsts j) (cell lasts j)) k ≡ false

  module _ (t : Bool) (s : t ≡ share first last (cell firsts k) (cell lasts k)) where
    pub held_hit : k < n → t ≡ true → true ≡ met_in firsts lasts n first last
    unfolding met_in
    held_hit h e = sym (some_hit (λ j. share first last (cell firsts j) (cell lasts j)) n k h (sym s ∙ e))

    pub held_more : Unmet → t ≡ false → some (λ j. share first last (cell firsts j) (cell lasts j)) (k + 1) ≡ false
    held_more u e = some_more (λ j. share first last (cell firsts j) (cell lasts j)) k u (sym s ∙ e)

  pub held_over : Unmet → k ≡ n → false ≡ met_in firsts lasts n first last
  unfolding met_in
  held_over u e = rw (← e) (sym u)
