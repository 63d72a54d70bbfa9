-- A column of any type, filled item by item.
use Rattle.std.specs.Prelude.{ℕ, ◌<◌, ◌≡◌, List, length, get_or, drop}
use Rattle.cases.specs.Spans.{span}

-- R is true of each of the first n items of a section and the cell that is there for it; the other cells are as they were
pub record Filled {T : Type 0} (R : List ℕ → T → Type 0) (section : List ℕ) (out : List T) (n : ℕ) (out' : List T) : Type 0 where
  pub long : length out' ≡ length out
  pub made : (i : ℕ) (d : T) → i < n → R (span 32 i section) (get_or out' i d)
  pub later : drop n out' ≡ drop n out
