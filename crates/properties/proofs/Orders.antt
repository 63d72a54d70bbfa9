-- Columns that rise, and the place that halving finds in one. Assumes nothing.
use Prim.Native.Nat.{ℕ, zero, suc, ◌+◌, ◌<◌, ◌≤◌}
use mathlib.Core.Path.{◌≡◌, sym, ◌∙◌, ap}
use mathlib.Core.Bool.{true, false}
use mathlib.Core.List.{List}
use lib.ListN.{length, get_or, take}
use Rattle.std.specs.List.Sorted.{IsNonDecreasingBy}
use Rattle.std.proofs.lemmas.List.{get_or-take, length-take-le}
use Rattle.std.proofs.lemmas.Grind.{get_or_default_zero}
use mathlib.Core.Logic.{⊎_elim}
use native.Mathlib.Nat.{eq-or-lt_of_le, le_of_eq, le_trans}
use native.Mathlib.Numerals.{add-one}
use native.Mathlib.Omega.{arith}
use borrow.Author.Tests.{le-leb, lt-leb, leb-true}
use Rattle.basics.specs.Sets.{every}
use Rattle.basics.proofs.Sets.{every_at, every_more, every_fails}
use Rattle.records.specs.Text.{cell}
use Rattle.properties.specs.Inner.{cell_before, rises_at, rises}

module _ (column : List ℕ) where
  -- b is the cell before the i-th
  module _ (i b : ℕ) (e : b ≡ cell_before column i) where
    pub rise_fails : (n : ℕ) → i < n → cell column i < b → false ≡ rises column n
    unfolding rises rises_at
    rise_fails n h l = sym (every_fails (rises_at column) n i h (rw (← e) (lt-leb b (cell column i) l)))

    pub rise_more : every (rises_at column) i ≡ true → b ≤ cell column i → every (rises_at column) (i + 1) ≡ true
    unfolding rises_at
    rise_more h l = every_more (rises_at column) i h (rw (← e) (le-leb b (cell column i) l))

  pub rise_over : (n i : ℕ) → every (rises_at column) i ≡ true → i ≡ n → true ≡ rises column n
  unfolding rises
  rise_over n i h e = rw (← e) (sym h)

  pub before_next : (i : ℕ) → cell column i ≡ cell_before column (i + 1)
  before_next i = rw (add-one i)

  module _ (n : ℕ) (up : rises column n ≡ true) where
    pub rising : (j i : ℕ) → i ≤ j → j < n → cell column i ≤ cell column j
    unfolding rises rises_at
    rising zero i h l = let f : i ≡ 0 = omega arith in le_of_eq (ap (cell column) f)
    rising (suc j) i h l =
        ⊎_elim
        (λ q. le_of_eq (ap (cell column) q))
        (λ q. le_trans (rising j i (omega arith) (omega arith)) (leb-true _ _ (every_at (rises_at column) n (suc j) up l)))
        (eq-or-lt_of_le h)

    -- the first n cells as a list of their own
    module _ (h : n ≤ length column) where
      pub first_cell : (k d : ℕ) → k < n → get_or (take n column) k d ≡ cell column k
      first_cell k d l = get_or-take n column k d l ∙ get_or_default_zero column k d (omega arith)

      pub first_rise : IsNonDecreasingBy (λ (x : ℕ). x) (take n column)
      first_rise i j d a b =
          let l : j < n = omega (arith, length-take-le n column h) in
          omega (arith, first_cell i d (omega arith), first_cell j d l, rising j i a l)
