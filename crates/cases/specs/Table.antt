-- The table of a line, cell by cell.
use Rattle.std.specs.Prelude.{ℕ, zero, suc, ◌+◌, ◌%◌, cond, List, [], ◌++◌, eqb, ltb, length, replicate}
use Rattle.cases.specs.Numbers.{number_of, or_zero, most16}
use Rattle.cases.specs.Spans.{span, count}

-- an item is a cell, or so many of them
unfoldable pub times_of : List ℕ → ℕ
times_of item = cond (eqb (count 42 item) 0) 1 (or_zero (number_of 10 most16 (span 42 0 item)))

-- the cell stands last
unfoldable pub value_of : List ℕ → ℕ
value_of item = or_zero (number_of 10 255 (span 42 (count 42 item) item))

-- the cells of the first i items
unfoldable pub table_to : List ℕ → ℕ → List ℕ
table_to xs zero = []
table_to xs (suc i) = table_to xs i ++ replicate (times_of (span 32 i xs)) (value_of (span 32 i xs))

unfoldable pub table_of : List ℕ → List ℕ
table_of xs = cond (eqb (length xs) 0) [] (table_to xs (count 32 xs + 1))

-- 256 rows of 44: no state names a later row, and with as many rows every cell names one of them
abbrev pub reached : ℕ
reached = 11264

-- how many cells are kept of so many: where they are more than that, the cells past whole rows are all that is left to know
unfoldable pub kept_of : ℕ → ℕ
kept_of n = cond (ltb n reached) n (reached + n % 44)

-- the most that are kept
abbrev pub most_kept : ℕ
most_kept = 11307
