-- A column that is written cell by cell.
use Rattle.std.specs.Prelude.{ℕ, zero, suc, List, [], ◌∷◌, ◌++◌}

-- a cell for each index below n
unfoldable pub cells : (ℕ → ℕ) → ℕ → List ℕ
cells f zero = []
cells f (suc n) = cells f n ++ (f n ∷ [])
