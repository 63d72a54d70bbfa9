-- Laws of a column that is written cell by cell. Assumes nothing.
use Prim.Native.Nat.{ℕ, zero, suc, ◌+◌, ◌<◌, ◌≤◌}
use mathlib.Core.Path.{◌≡◌, refl, ◌∙◌}
use mathlib.Core.List.{List, [], ◌++◌, append_assoc}
use mathlib.Core.Logic.{⊎_elim}
use native.Mathlib.Nat.{eq-or-lt_of_le}
use native.Mathlib.Omega.{arith}
use native.Mathlib.Numerals.{add-one}
use lib.ListN.{length, drop, set, get_or, length-append, get_or-append}
use lib.Seq.{drop-cons, set_at, get_or_at, get_or-append-add, get_or-drop}
use Rattle.basics.specs.Columns.{cells}

module _ (f : ℕ → ℕ) where
  pub cells_length : (n : ℕ) → length (cells f n) ≡ n
  unfolding cells
  cells_length zero = refl
  cells_length (suc n) = simp (length-append, cells_length n) (omega arith)

  pub cells_at : (n i : ℕ) → i < n → get_or (cells f n) i 0 ≡ f i
  unfolding cells
  cells_at zero i h = absurd (omega arith)
  cells_at (suc n) i h =
      let at_most : i ≤ n = omega arith in
      ⊎_elim
      (λ e. rw e (get_or_at (cells f n) _ [] 0 n (cells_length n)))
      (λ l. get_or-append (cells f n) _ 0 i (rw (cells_length n) l) ∙ cells_at n i l)
      (eq-or-lt_of_le at_most)

  -- the lent column once its first i cells are written
  abbrev pub Written : List ℕ → ℕ → List ℕ → Type 0
  Written out₀ i out = out ≡ cells f i ++ drop i out₀

  module _ (out₀ out : List ℕ) (i : ℕ) (h : i < length out₀) (e : Written out₀ i out) where
    -- a cell that no turn has come to yet
    pub unwritten : get_or out i 0 ≡ get_or out₀ i 0
    unwritten = rw (e, drop-cons out₀ i 0 h) (get_or_at (cells f i) _ _ 0 i (cells_length i))

    pub written_more : Written out₀ (i + 1) (set out i (f i))
    unfolding cells
    written_more = rw (add-one i, append_assoc, e, drop-cons out₀ i 0 h) (set_at (cells f i) _ _ _ i (cells_length i))

  -- n cells written over a column, and the rest of it behind them
  module _ (out : List ℕ) (n : ℕ) where
    pub written_cell : (i : ℕ) → i < n → get_or (cells f n ++ drop n out) i 0 ≡ f i
    written_cell i h = get_or-append (cells f n) _ 0 i (rw (cells_length n) h) ∙ cells_at n i h

    pub kept_cell : (k : ℕ) → get_or (cells f n ++ drop n out) (n + k) 0 ≡ get_or out (n + k) 0
    kept_cell k = rw (cells_length n) at (get_or-append-add (cells f n) (drop n out) k 0) ∙ get_or-drop n out k 0

-- what is the same at each index is the same column
pub cells_same : (f g : ℕ → ℕ) (n : ℕ) → ((i : ℕ) → i < n → f i ≡ g i) → cells f n ≡ cells g n
unfolding cells
cells_same f g zero e = refl
cells_same f g (suc n) e = rw (cells_same f g n (λ i h. e i (omega arith)), e n (omega arith))
