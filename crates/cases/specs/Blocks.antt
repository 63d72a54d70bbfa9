-- The blocks of property files: a file's letter, a colon, and "pairs of hexadecimal digits of either case, none for no bytes".
use Rattle.std.specs.Prelude.{ℕ, ◌+◌, ◌*◌, ◌%◌, Bool, false, cond, ◌&&◌, ◌||◌, List, eqb, length, get_or}
use Rattle.basics.specs.Sets.{every}
use Rattle.cases.specs.Numbers.{digit_of, is_number, or_zero}
use Rattle.cases.specs.Spans.{span, count, letter}

unfoldable pub hex_at : List ℕ → ℕ → Bool
hex_at xs i = is_number (digit_of (get_or xs i 0))

unfoldable pub pairs : List ℕ → Bool
pairs xs = eqb (length xs % 2) 0 && every (hex_at xs) (length xs)

-- G, GraphemeBreakProperty, or W, WordBreakProperty
unfoldable pub file_named : List ℕ → Bool
file_named xs = eqb (letter xs) 71 || eqb (letter xs) 87

unfoldable pub block_field : List ℕ → Bool
block_field xs = cond (eqb (count 58 xs) 1) (cond (file_named (span 58 0 xs)) (pairs (span 58 1 xs)) false) false

-- the byte of pair i; what is no digit counts as 0
unfoldable pub byte_of : List ℕ → ℕ → ℕ
byte_of xs i = or_zero (digit_of (get_or xs (2 * i) 0)) * 16 + or_zero (digit_of (get_or xs (2 * i + 1) 0))
