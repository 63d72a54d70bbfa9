-- Numbers of a list, and numbers below another.
use Rattle.std.specs.Prelude.{ℕ, zero, suc, Bool, true, ◌&&◌, List, eqb}
use Rattle.std.specs.List.{list_any}

-- p is true of a number of the list
abbrev pub any : (ℕ → Bool) → List ℕ → Bool
any p xs = list_any p xs

-- x is in the list
abbrev pub member : List ℕ → ℕ → Bool
member xs x = any (eqb x) xs

-- p is true of every number below n
unfoldable pub every : (ℕ → Bool) → ℕ → Bool
every p zero = true
every p (suc n) = p n && every p n
