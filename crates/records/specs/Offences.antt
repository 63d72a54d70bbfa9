-- The table of refusals (SCOPE 5.1) as a table: its lines about the whole, about each part and about each record, which of them are broken,
-- and the order in which they are looked for. `verdict` of Refusals says how the check goes; `ByTable` says what it comes to, of the
-- check and of every other call that refuses.
use Rattle.std.specs.Prelude.{ℕ, zero, suc, ◌+◌, ◌<◌, ◌≡◌, Bool, true, false, cond, ◌&&◌, ◌||◌, List, [], ◌∷◌, ◌++◌, ◌⊎◌, eqb, ltb, length, Ok, Err}
use Rattle.basics.specs.Sets.{member}
use Rattle.records.specs.Text.{Text, cell, row_of, part_of, record_lengths, part_lengths}
use Rattle.records.specs.Refusals.{refusal, is_khmer, too_long, uneven, bad_scalar, outside, part_codes, record_classes, record_marks, bad_run, barred, bad_sign, coded, mark}
use Rattle.records.specs.Numbers.{number_of}
use Rattle.records.specs.declared.Row.{Row}
use Rattle.records.specs.declared.PartRow.{PartRow}
use Rattle.records.specs.declared.Side.{Side}
use Rattle.records.specs.declared.Side.TheVariants.{Record, Part, Neither}
use Rattle.records.specs.declared.Parser.{Parser}
use Rattle.records.specs.declared.Parser.TheVariants.{Complex, Khmer}
use Rattle.records.specs.declared.Refusal.{Refusal}
use Rattle.records.specs.Verdict.{Verdict}
use Rattle.classes.specs.WordBreak as WordBreak

-- # Tables

-- a line of the table: its number, and whether it is broken
pub record Line : Type 0 where
  pub number : ℕ
  pub broken : Bool

abbrev pub line : ℕ → Bool → Line
line number broken = record { number = number; broken = broken }

-- whether the line of a number is broken
abbrev pub breaks : List Line → ℕ → Bool
breaks [] number = false
breaks (l ∷ ls) number = eqb l.number number && l.broken || breaks ls number

-- "First 1 over all columns, then 2. Then the parts by rising index, each for 3, 4 and 6. Then the records by rising index, each for 3,
-- 4, 5 and 6. Then 7, 8, 9." (SCOPE 5.3)
pub record Table : Type 0 where
  pub before : List Line
  pub parts : ℕ
  pub of_part : ℕ → List Line
  pub records : ℕ
  pub of_record : ℕ → List Line
  pub after : List Line

-- # Offences

-- the lines about a record, about a part, or about neither
abbrev pub lines_at : Table → Side → ℕ → List Line
lines_at t Neither index = t.before ++ t.after
lines_at t Part index = t.of_part index
lines_at t Record index = t.of_record index

-- "Refusals 3, 4, 5 and 6 name the offender: its index, and whether it is a record or a part …. The others carry the side neither and
-- the index 0." (SCOPE 5.4)
abbrev pub Within : Table → Side → ℕ → Type 0
Within t Neither index = index ≡ 0
Within t Part index = index < t.parts
Within t Record index = index < t.records

-- the line of its number is broken there
abbrev pub Offends : Table → Refusal → Type 0
Offends t r = Within t r.side r.index × (breaks (lines_at t r.side r.index) r.number ≡ true)

-- # Their order

-- the place of a number in the order of testing: as the numbers rise, but 10, which a lent table is refused by, "after 2" (SCOPE 12.1), and
-- 15, "tested first" (SCOPE 12.6)
abbrev pub rank : ℕ → ℕ
rank number = cond (eqb number 15) 0 (cond (eqb number 10) 4 (cond (ltb number 3) (number + 1) (number + 2)))

-- what is about neither comes first with 15, 1, 2 and 10, and last with 7, 8 and 9
abbrev pub stage_at : Side → ℕ → ℕ
stage_at Neither number = cond (ltb (rank number) 5) 0 3
stage_at Part number = 1
stage_at Record number = 2

abbrev pub stage : Refusal → ℕ
stage r = stage_at r.side r.number

-- by rising index, and "of one record or part the smallest number is told" (SCOPE 5.3)
abbrev pub Earlier : Refusal → Refusal → Type 0
Earlier r q =
    (stage r < stage q)
    ⊎ ((stage r ≡ stage q) × ((r.index < q.index) ⊎ ((r.index ≡ q.index) × (rank r.number < rank q.number))))

-- # What a verdict says

-- no offence, or the first one: this is one, and none comes earlier
abbrev pub Judges : (Refusal → Type 0) → Verdict → Type 0
Judges offends (Ok _) = (r : Refusal) → offends r → ⊥
Judges offends (Err r) = offends r × ((q : Refusal) → Earlier q r → offends q → ⊥)

-- the numbers that go with a side: 5 is about records alone
abbrev pub side_numbers : Side → List ℕ
side_numbers Neither = 1 ∷ 2 ∷ 7 ∷ 8 ∷ 9 ∷ 10 ∷ 15 ∷ []
side_numbers Part = 3 ∷ 4 ∷ 6 ∷ []
side_numbers Record = 3 ∷ 4 ∷ 5 ∷ 6 ∷ []

-- a refusal has one of the call's numbers, which goes with its side, and its index is of that side
abbrev pub Carries : List ℕ → Table → Verdict → Type 0
Carries numbers t (Ok _) = Unit
Carries numbers t (Err r) =
    (member numbers r.number ≡ true) × (member (side_numbers r.side) r.number ≡ true) × Within t r.side r.index

-- all of it, of a call that can give these numbers: where a line holds "and never otherwise" (SCOPE 5.1), so that no other verdict would
-- be right
pub record ByTable (numbers : List ℕ) (t : Table) (v : Verdict) : Type 0 where
  pub first : Judges (Offends t) v
  pub only : (w : Verdict) → Judges (Offends t) w → w ≡ v
  pub lower : (r : Refusal) → v ≡ Err r → (member (10 ∷ 15 ∷ []) r.number ≡ false) → (number : ℕ) → number < r.number → Offends t (refusal number r.side r.index) → ⊥
  pub carries : Carries numbers t v

-- 6 is of complex, Khmer or not, and 7 of Khmer
pub record Asks (parser : Parser) (v : Verdict) : Type 0 where
  pub six : number_of v ≡ 6 → (parser ≡ Complex) ⊎ (parser ≡ Khmer)
  pub seven : number_of v ≡ 7 → parser ≡ Khmer

-- # The check's table

abbrev pub part_lines : Parser → PartRow → List Line
part_lines parser p =
    line 3 (bad_scalar p.scalar) ∷ line 4 (outside (part_codes p)) ∷ line 6 (barred parser p.scalar p.uses) ∷ []

abbrev pub record_lines : Parser → ℕ → Row → List Line
record_lines parser parts r =
    line 3 (bad_scalar r.scalar)
    ∷ line 4 (outside (record_classes r) || outside (record_marks r))
    ∷ line 5 (bad_run r parts)
    ∷ line 6 (barred parser r.scalar r.uses)
    ∷ []

abbrev pub length_lines : List ℕ → List ℕ → List Line
length_lines records parts = line 1 (too_long records || too_long parts) ∷ line 2 (uneven records || uneven parts) ∷ []

abbrev pub bad_sign_at : Text → ℕ → Bool
bad_sign_at t i =
    bad_sign (cell t.records.decomposes i) (cell t.records.scalars i) (cell t.records.counts i)
    (cell t.parts.pscalars (cell t.records.firsts i))

-- whether one of the n indices from i on is such
unfoldable pub some_from : (ℕ → Bool) → ℕ → ℕ → Bool
some_from p i zero = false
some_from p i (suc n) = p i || some_from p (i + 1) n

abbrev pub sign_line : Parser → Text → Line
sign_line parser t = line 7 (is_khmer parser && some_from (bad_sign_at t) 0 (length t.records.scalars))

-- with the lines that a call adds: 8, 9
abbrev pub table_of : Parser → Text → List Line → Table
table_of parser t more =
    record {
      before = length_lines (record_lengths t.records) (part_lengths t.parts);
      parts = length t.parts.pscalars;
      of_part = λ i. part_lines parser (part_of t.parts i);
      records = length t.records.scalars;
      of_record = λ i. record_lines parser (length t.parts.pscalars) (row_of t.records i);
      after = sign_line parser t ∷ more;
    }

-- # The table of a run over two columns, the classes of one list and marks

abbrev pub marked_lines : ℕ → List ℕ → List ℕ → ℕ → List Line
marked_lines len classes marks i = line 4 (outside (coded (cell classes i) len ∷ mark (cell marks i) ∷ [])) ∷ []

-- with the lines that a call adds: 9
abbrev pub marked_table_of : ℕ → List ℕ → List ℕ → List Line → Table
marked_table_of len classes marks more =
    record {
      before = length_lines (length classes ∷ length marks ∷ []) [];
      parts = 0;
      of_part = λ i. [];
      records = length classes;
      of_record = marked_lines len classes marks;
      after = more;
    }

-- 9: "fewer than 1 for each record"
abbrev pub room_line : List ℕ → ℕ → Line
room_line classes room = line 9 (ltb room (length classes))

-- the word run, "over the columns word class and pictograph alone": 1, 2, 4, 9 (SCOPE 5.5); 9 is the run's own
abbrev pub word_table_of : List ℕ → List ℕ → List Line → Table
word_table_of words pictographs more = marked_table_of WordBreak.len words pictographs more
