-- Items with one blank between, each of fields with one comma between.
use Rattle.std.specs.Prelude.{ℕ, ◌+◌, Bool, false, cond, ◌&&◌, ◌||◌, List, eqb, ltb, length, Some, None}
use Rattle.records.specs.Refusals.{most}
use Rattle.basics.specs.Sets.{every}
use Rattle.cases.specs.declared.items.Kind.{Kind}
use Rattle.cases.specs.declared.items.Kind.TheVariants.{Record, Part, Word, State, Joint, Row, Ahead, Cell, Sets, Block, Scalar}
use Rattle.cases.specs.Blocks.{block_field}
use Rattle.cases.specs.Numbers.{number_of, is_number, or_zero, most16, Number}
use Rattle.cases.specs.Spans.{span, count, letter}

-- "record = 14 fields with commas between", a part and a word state have 4, a word has 2, a record of `next` 3, a line state and
-- the cells of two sets 2
abbrev pub commas_of : Kind → ℕ
commas_of Record = 13
commas_of Part = 3
commas_of Word = 1
commas_of State = 3
commas_of Joint = 2
commas_of Row = 1
commas_of Ahead = 0
commas_of Cell = 0
commas_of Sets = 1
commas_of Block = 0
commas_of Scalar = 0

-- digits of a radix, and nothing else, with a value up to the largest
unfoldable pub fits : ℕ → ℕ → List ℕ → Bool
fits radix most xs = is_number (number_of radix most xs)

-- "hex up to FFFFFFFF, 11 decimals up to 255, a decimal up to 65,535 (first part), a decimal up to 255 (count)"
unfoldable pub record_field : ℕ → List ℕ → Bool
record_field k xs = cond (eqb k 0) (fits 16 4294967295 xs) (cond (eqb k 12) (fits 10 most16 xs) (fits 10 255 xs))

-- "hex up to FFFFFFFF and 3 decimals up to 255"
unfoldable pub part_field : ℕ → List ℕ → Bool
part_field k xs = cond (eqb k 0) (fits 16 4294967295 xs) (fits 10 255 xs)

-- "first and prevent are 0 or 1", the others decimals up to 255
unfoldable pub state_field : ℕ → List ℕ → Bool
state_field k xs = cond (eqb k 0) (fits 10 1 xs) (cond (eqb k 2) (fits 10 1 xs) (fits 10 255 xs))

-- "- or a decimal up to 255"
unfoldable pub dash_or : List ℕ → Bool
dash_or xs = eqb (letter xs) 45 || fits 10 255 xs

-- row, and the class before or -
unfoldable pub row_field : ℕ → List ℕ → Bool
row_field k xs = cond (eqb k 0) (fits 10 255 xs) (dash_or xs)

-- "cell or COUNT*cell, a cell a decimal up to 255, COUNT a decimal up to 65,535"
unfoldable pub cell_field : List ℕ → Bool
cell_field xs =
    cond (eqb (count 42 xs) 0) (fits 10 255 xs)
    (cond (eqb (count 42 xs) 1) (cond (fits 10 most16 (span 42 0 xs)) (fits 10 255 (span 42 1 xs)) false) false)

-- as many cells as a line can give to a set of ranges
abbrev pub most_ranges : ℕ
most_ranges = 4096

-- field k of an item; "word = 2 decimals up to 255", a record of `next` 3; the cells of two sets, "decimals up to 4,096"
unfoldable pub is_field : Kind → ℕ → List ℕ → Bool
is_field Record k xs = record_field k xs
is_field Part k xs = part_field k xs
is_field Word k xs = fits 10 255 xs
is_field State k xs = state_field k xs
is_field Joint k xs = fits 10 255 xs
is_field Row k xs = row_field k xs
is_field Ahead k xs = dash_or xs
is_field Cell k xs = cell_field xs
is_field Sets k xs = fits 10 most_ranges xs
is_field Block k xs = block_field xs
is_field Scalar k xs = fits 16 4294967295 xs

unfoldable pub field_fits : Kind → List ℕ → ℕ → Bool
field_fits kind item k = is_field kind k (span 44 k item)

unfoldable pub is_item : Kind → List ℕ → Bool
is_item kind item = eqb (count 44 item) (commas_of kind) && every (field_fits kind item) (commas_of kind + 1)

unfoldable pub item_fits : Kind → List ℕ → ℕ → Bool
item_fits kind xs i = is_item kind (span 32 i xs)

-- one item more than a text may have: enough to be refused
abbrev pub too_many : ℕ
too_many = 4097

-- more than a line of 1 MiB has blocks
abbrev pub most_blocks : ℕ
most_blocks = 524288

-- more than a line of 1 MiB has scalars of three digits; no lookup has cells for as many
abbrev pub most_scalars : ℕ
most_scalars = 262144

-- how many items of a kind are counted
abbrev pub most_of : Kind → ℕ
most_of Record = most
most_of Part = most
most_of Word = most
most_of State = most
most_of Joint = most
most_of Row = most
most_of Ahead = most
most_of Cell = most
most_of Sets = most
most_of Block = most_blocks
most_of Scalar = most_scalars

-- one more than the blanks; of a text 4,097 stands for any number above 4,096
unfoldable pub item_count : Kind → ℕ → ℕ
item_count kind blanks = cond (ltb blanks (most_of kind)) (blanks + 1) (most_of kind + 1)

-- "empty, or items with exactly one blank between, none before or after": their number
unfoldable pub items_of : Kind → List ℕ → Number
items_of kind xs =
    cond (eqb (length xs) 0) (Some 0)
    (cond (every (item_fits kind xs) (count 32 xs + 1)) (Some (item_count kind (count 32 xs))) None)

-- the value of field k of an item
unfoldable pub field_of : ℕ → ℕ → ℕ → List ℕ → ℕ
field_of radix most k item = or_zero (number_of radix most (span 44 k item))

-- field k of item i
unfoldable pub cell_of : ℕ → ℕ → ℕ → List ℕ → ℕ → ℕ
cell_of radix most k xs i = field_of radix most k (span 32 i xs)
