-- Plain word texts: "no record is Extend, FO or ZWJ, and no RI stands right behind a CR, LF or NL" (SCOPE 8.1).
use Rattle.std.specs.Prelude.{ℕ, ◌+◌, Bool, not, ◌&&◌, List, eqb, length}
use Rattle.basics.specs.Sets.{member, every}
use Rattle.classes.specs.WordBreak.{RI}
use Rattle.records.specs.Text.{cell}
use Rattle.uax29.specs.Words.{newlines, ignored}

-- the record at an index; the cell after the last one is read as 0, which is Other
unfoldable pub plain_word_at : List ℕ → ℕ → Bool
plain_word_at words i = not (member ignored (cell words i)) && not (member newlines (cell words i) && eqb (cell words (i + 1)) RI)

unfoldable pub is_plain_words : List ℕ → Bool
is_plain_words words = every (plain_word_at words) (length words)
