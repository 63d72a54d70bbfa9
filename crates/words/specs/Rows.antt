-- What only private contracts need. The word machine on numbers, by the lists that tools/words writes: a row stands for the states that
-- no text tells apart, a symbol for what the rules ask of a record and of the next one.
use Rattle.std.specs.Prelude.{ℕ, ◌+◌, ◌*◌, ◌/◌, ◌%◌, ◌^◌, get_or, Some, None}
use Rattle.words.specs.Next.{Next}
use Rattle.words.specs.Table.{word_groups, word_symbols, word_nexts, word_answers}

-- what the rules ask of the next record
unfoldable pub group_of : Next → ℕ
group_of (Some c) = get_or word_groups c 0
group_of None = 0

unfoldable pub symbol_of : ℕ → ℕ → ℕ → ℕ
symbol_of class mark group = get_or word_symbols (class * 8 + mark * 4 + group) 0

unfoldable pub row_after : ℕ → ℕ → ℕ
row_after symbol row = get_or word_nexts symbol 0 / 2 ^ (row * 4) % 16

unfoldable pub answer_of : ℕ → ℕ → ℕ
answer_of symbol row = get_or word_answers symbol 0 / 2 ^ row % 2
