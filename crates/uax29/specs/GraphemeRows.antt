-- What only private contracts need. The engine that goes forward, on numbers, by the list that tools/graphemes writes: a row stands for the
-- states that no text tells apart, a cell has the answers of a class and a mark, a bit for each row, and above them the rows to come, a
-- byte for each way in which a row ends.
use Rattle.std.specs.Prelude.{ℕ, ◌+◌, ◌*◌, ◌/◌, ◌%◌, ◌^◌, get_or}
use Rattle.uax29.specs.GraphemeTable.{grapheme_table}

unfoldable pub cell_of : ℕ → ℕ → ℕ
cell_of kind mark = get_or grapheme_table (kind * 2 + mark) 0

unfoldable pub answer_in : ℕ → ℕ → ℕ
answer_in cell row = cell / 2 ^ row % 2

unfoldable pub row_in : ℕ → ℕ → ℕ
row_in cell row = cell / 2 ^ (32 + row % 4 * 8) % 32
