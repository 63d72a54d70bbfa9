-- The parts of a text between separators, counted from 0.
use Rattle.std.specs.Prelude.{ℕ, zero, suc, ◌+◌, Bool, cond, ◌&&◌, List, [], ◌∷◌, eqb, ltb, length, get_or, take, drop}
use Rattle.basics.specs.Sets.{every}

-- how many bytes stand before the first s
unfoldable pub before : ℕ → List ℕ → ℕ
before s [] = 0
before s (x ∷ xs) = cond (eqb x s) 0 (suc (before s xs))

-- the bytes before the first s: all, where there is none
unfoldable pub up_to : ℕ → List ℕ → List ℕ
up_to s xs = take (before s xs) xs

-- the bytes after the first s: none, where there is none
unfoldable pub after : ℕ → List ℕ → List ℕ
after s xs = drop (suc (before s xs)) xs

-- where the next span begins after one that begins at `at`: behind the first s from there on; where there is none, at the end of the
-- text, or at `at` itself, if that is past the end
unfoldable pub next_from : ℕ → ℕ → List ℕ → ℕ
next_from s at xs =
    let end = at + before s (drop at xs) in
    cond (ltb end (length xs)) (end + 1) end

-- what is left after k parts
unfoldable pub rest : ℕ → ℕ → List ℕ → List ℕ
rest s zero xs = xs
rest s (suc k) xs = after s (rest s k xs)

unfoldable pub span : ℕ → ℕ → List ℕ → List ℕ
span s k xs = up_to s (rest s k xs)

-- how many separators there are: one less than the parts
unfoldable pub count : ℕ → List ℕ → ℕ
count s [] = 0
count s (x ∷ xs) = cond (eqb x s) (suc (count s xs)) (count s xs)

unfoldable pub agree : List ℕ → List ℕ → ℕ → Bool
agree xs ys i = eqb (get_or xs i 0) (get_or ys i 0)

unfoldable pub equal : List ℕ → List ℕ → Bool
equal xs ys = eqb (length xs) (length ys) && every (agree xs ys) (length xs)

-- the byte of a text of one byte, else 0
unfoldable pub letter : List ℕ → ℕ
letter xs = cond (eqb (length xs) 1) (get_or xs 0 0) 0
