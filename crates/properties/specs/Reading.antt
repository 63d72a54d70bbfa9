-- What the reader says of the lent bytes, and what it leaves in the range columns. "From the lent bytes .. it fills range columns in scalar
-- order". "Refusals: 11 malformed line, 12 unknown value, 13 range that meets one held or earlier, 14 more ranges than cells; the lowest
-- line decides, in it the lowest number, and then no column has changed."
use Rattle.std.specs.Prelude.{ℕ, zero, suc, ◌+◌, min, ◌≡◌, Bool, false, cond, ◌&&◌, ◌||◌, List, [], ◌∷◌, ◌++◌, leb, ltb, length, drop, Ok, Err}
use Rattle.cases.specs.Spans.{span}
use Rattle.records.specs.Text.{cell}
use Rattle.records.specs.Refusals.{refuse, refusal, ◌⊳◌, over}
use Rattle.records.specs.declared.Side.TheVariants.{Neither}
use Rattle.records.specs.Verdict.{Verdict}
use Rattle.properties.specs.declared.File.{File}
use Rattle.properties.specs.declared.Filled.{Filled}
use Rattle.properties.specs.declared.Ruling.{Ruling}
use Rattle.properties.specs.Rulings.{ruling_of}
use Rattle.properties.specs.Ranges.{Ranges, ranges}

-- # Ranges as a list, the last one first

-- one range: of a line, or held
pub record Held : Type 0 where
  pub first : ℕ
  pub last : ℕ
  pub code : ℕ

abbrev pub holding : ℕ → ℕ → ℕ → Held
holding first last code = record { first = first; last = last; code = code }

abbrev pub the_first : Held → ℕ
the_first h = h.first

abbrev pub the_last : Held → ℕ
the_last h = h.last

abbrev pub the_code : Held → ℕ
the_code h = h.code

-- n ranges of three columns, from a cell on
unfoldable pub held_from : List ℕ → List ℕ → List ℕ → ℕ → ℕ → List Held
held_from firsts lasts codes from zero = []
held_from firsts lasts codes from (suc n) = holding (cell firsts (from + n)) (cell lasts (from + n)) (cell codes (from + n)) ∷ held_from firsts lasts codes from n

abbrev pub held_of : Ranges → List Held
held_of r = held_from r.firsts r.lasts r.codes 0 r.held

abbrev pub said_by : Ruling → List Held
said_by Ruling.Nothing = []
said_by (Ruling.Refused refused) = []
said_by (Ruling.Range first last code) = holding first last code ∷ []

-- what the first k lines hold
unfoldable pub said : File → List ℕ → ℕ → List Held
said file bytes zero = []
said file bytes (suc k) = said_by (ruling_of file (span 10 k bytes)) ++ said file bytes k

-- # Refusals

-- two ranges share a scalar
unfoldable pub share : ℕ → ℕ → ℕ → ℕ → Bool
share first last f l = leb f last && leb first l

unfoldable pub met : ℕ → ℕ → List Held → Bool
met first last [] = false
met first last (h ∷ hs) = share first last h.first h.last || met first last hs

abbrev pub refused_at : ℕ → ℕ → Verdict
refused_at refused number = Err (refusal refused Neither number)

-- a line's refusal, which "carries its line number, from 1 in the bytes lent": 11 and 12, then 13 and 14; `before` are the ranges held and
-- of earlier lines
abbrev pub judge_ruling : Ruling → List Held → ℕ → ℕ → Verdict
judge_ruling Ruling.Nothing before cells number = Ok tt
judge_ruling (Ruling.Refused refused) before cells number = refused_at refused number
judge_ruling (Ruling.Range first last code) before cells number =
    refuse (met first last before) 13 Neither number ⊳ refuse (leb cells (length before)) 14 Neither number

-- the cells are those of the shortest column
unfoldable pub cells_of : ℕ → ℕ → ℕ → ℕ
cells_of firsts lasts codes = min firsts (min lasts codes)

abbrev pub room : Ranges → ℕ
room r = cells_of (length r.firsts) (length r.lasts) (length r.codes)

-- of the k-th line, counted from 0
unfoldable pub judge_line : File → Ranges → List ℕ → ℕ → Verdict
judge_line file r bytes k = judge_ruling (ruling_of file (span 10 k bytes)) (said file bytes k ++ held_of r) (room r) (k + 1)

-- a text of n bytes has n + 1 lines at most; those past its last are empty
abbrev pub line_count : List ℕ → ℕ
line_count bytes = length bytes + 1

-- 1, then a held number above the cells, then the lines in turn
unfoldable pub read_verdict : File → Ranges → List ℕ → Verdict
read_verdict file r bytes =
    refuse (ltb 65536 (length bytes)) 1 Neither 0 ⊳ refuse (ltb (room r) r.held) 14 Neither 0 ⊳ over (judge_line file r bytes) 0 (line_count bytes)

-- # The columns afterwards

-- "in scalar order": a range comes right behind the last one that does not begin later
unfoldable pub put_in : Held → List Held → List Held
put_in x [] = x ∷ []
put_in x (h ∷ hs) = cond (ltb x.first h.first) (h ∷ put_in x hs) (x ∷ h ∷ hs)

-- each in its turn
unfoldable pub put_all : List Held → List Held → List Held
put_all hs [] = hs
put_all hs (x ∷ xs) = put_in x (put_all hs xs)

-- one column of the ranges, upward
unfoldable pub upward : (Held → ℕ) → List Held → List ℕ
upward f [] = []
upward f (h ∷ hs) = upward f hs ++ (f h ∷ [])

-- cells past the ranges keep their content
unfoldable pub stored : (Held → ℕ) → List Held → List ℕ → List ℕ
stored f hs column = upward f hs ++ drop (length hs) column

abbrev pub stored_in : Ranges → List Held → Ranges
stored_in r hs = ranges (stored the_first hs r.firsts) (stored the_last hs r.lasts) (stored the_code hs r.codes) (length hs)

-- the ranges put into the columns
abbrev pub put_into : Ranges → List Held → Ranges
put_into r xs = stored_in r (put_all (held_of r) xs)

-- with a refusal "no column has changed"
abbrev pub read_into : Verdict → File → Ranges → List ℕ → Ranges
read_into (Ok _) file r bytes = put_into r (said file bytes (line_count bytes))
read_into (Err refusal) file r bytes = r

unfoldable pub read_ranges : File → Ranges → List ℕ → Ranges
read_ranges file r bytes = read_into (read_verdict file r bytes) file r bytes

-- what a call answers, and what the columns hold then
pub record HasRead (file : File) (r : Ranges) (bytes : List ℕ) (answer : Filled) (firsts lasts codes : List ℕ) : Type 0 where
  pub judged : answer.verdict ≡ read_verdict file r bytes
  pub held : ranges firsts lasts codes answer.held ≡ read_ranges file r bytes
