-- The word rules: `check_word` of src/text/analyze.rs, exit by exit and in its order, each with the rule of UAX #29 that it stands
-- for. a is the class before (`self.prev`), b the record's own.
--
-- `emoji` and `next_emoji` are no part of the state: the one exit that reads what they keep, `prev_emoji && a == ZWJ && emoji`,
-- stands below `a == ZWJ && emoji`, which leaves for every record that it would leave for. So they never change an answer.
use Rattle.std.specs.Prelude.{ℕ, ◌+◌, Bool, true, false, cond, ◌&&◌, ◌||◌, List, [], ◌∷◌, eqb, leb, Ok, Some, None}
use Rattle.basics.specs.Choices.{◌⇒◌▹◌}
use Rattle.basics.specs.Sets.{member}
use Rattle.classes.specs.WordBreak.{CR, LF, NL, Extend, ZWJ, FO, WSegSpace, ALetter, HL, ML, MidNumLet, MN, NU, SQ, DQ, KA, EX, RI}
use Rattle.words.specs.declared.WordState.{WordState}
use Rattle.words.specs.declared.WordStep.{WordStep}
use Rattle.words.specs.Next.{Next}
use Rattle.words.specs.declared.Exit.{Exit}
use Rattle.words.specs.declared.Exit.TheVariants.{Begun, Released, Joined, Parted, Ignored, Held, Opened, Paired}

-- "AHLetter is ALetter and HL, MidNumLetQ is MidNumLet and SQ" (SCOPE 7.2), as in UAX #29; the Rust writes LE for ALetter and MB for
-- MidNumLet
abbrev pub AHLetter : List ℕ
AHLetter = ALetter ∷ HL ∷ []

abbrev pub MidNumLetQ : List ℕ
MidNumLetQ = MidNumLet ∷ SQ ∷ []

-- `WB3_A`
abbrev pub newlines : List ℕ
newlines = NL ∷ CR ∷ LF ∷ []

-- `WB_4`: "Ignore format and extend characters"
abbrev pub ignorable : List ℕ
ignorable = Extend ∷ FO ∷ ZWJ ∷ []

-- "it looks no further ahead" (SCOPE 7.2) than to the next record: `if let Some(c) = iter.clone().next()`
abbrev pub next_in : List ℕ → Next → Bool
next_in classes (Some c) = member classes c
next_in classes None = false

-- WB3: CR × LF
abbrev pub crlf : ℕ → ℕ → Bool
crlf a b = eqb a CR && eqb b LF

-- WB3a: (Newline | CR | LF) ÷, WB3b: ÷ (Newline | CR | LF)
abbrev pub by_newline : ℕ → ℕ → Bool
by_newline a b = member newlines a || member newlines b

-- WB3c: ZWJ × pictograph
abbrev pub zwj_pictograph : ℕ → ℕ → Bool
zwj_pictograph a pictograph = eqb a ZWJ && eqb pictograph 1

-- WB3d: WSegSpace × WSegSpace
abbrev pub space_run : ℕ → ℕ → Bool
space_run a b = eqb a WSegSpace && eqb b WSegSpace

-- WB5: AHLetter × AHLetter, WB9: AHLetter × Numeric
abbrev pub letter_run : ℕ → ℕ → Bool
letter_run a b = member AHLetter a && member (NU ∷ AHLetter) b

-- WB6: AHLetter × (MidLetter | MidNumLetQ) AHLetter, WB7: AHLetter (MidLetter | MidNumLetQ) × AHLetter
abbrev pub mid_letter : ℕ → ℕ → Next → Bool
mid_letter a b next = member AHLetter a && (member (ML ∷ MidNumLetQ) b && next_in AHLetter next)

-- WB7a: Hebrew_Letter × Single_Quote
abbrev pub hebrew_single : ℕ → ℕ → Bool
hebrew_single a b = eqb a HL && eqb b SQ

-- WB7b: Hebrew_Letter × Double_Quote Hebrew_Letter, WB7c: Hebrew_Letter Double_Quote × Hebrew_Letter
abbrev pub hebrew_double : ℕ → ℕ → Next → Bool
hebrew_double a b next = eqb a HL && (eqb b DQ && next_in (HL ∷ []) next)

-- WB8: Numeric × Numeric, WB10: Numeric × AHLetter
abbrev pub number_run : ℕ → ℕ → Bool
number_run a b = eqb a NU && member (NU ∷ AHLetter) b

-- WB11: Numeric (MidNum | MidNumLetQ) × Numeric, WB12: Numeric × (MidNum | MidNumLetQ) Numeric
abbrev pub mid_number : ℕ → ℕ → Next → Bool
mid_number a b next = eqb a NU && (member (MN ∷ MidNumLetQ) b && next_in (NU ∷ []) next)

-- WB13: Katakana × Katakana
abbrev pub katakana_run : ℕ → ℕ → Bool
katakana_run a b = eqb a KA && eqb b KA

-- WB13a: (AHLetter | Numeric | Katakana | ExtendNumLet) × ExtendNumLet
abbrev pub to_extender : ℕ → ℕ → Bool
to_extender a b = eqb b EX && member (EX ∷ KA ∷ NU ∷ AHLetter) a

-- WB13b: ExtendNumLet × (AHLetter | Numeric | Katakana)
abbrev pub from_extender : ℕ → ℕ → Bool
from_extender a b = eqb a EX && member (KA ∷ NU ∷ AHLetter) b

-- from `a == CR && b == LF` on
unfoldable pub pair_rules : ℕ → ℕ → ℕ → Exit → Exit
pair_rules a b pictograph later =
    -- WB3
    crlf a b ⇒ Joined
    -- WB3a, WB3b
    ▹ by_newline a b ⇒ Parted
    -- WB3c
    ▹ zwj_pictograph a pictograph ⇒ Joined
    -- WB4
    ▹ member ignorable b ⇒ Ignored
    -- WB3d
    ▹ space_run a b ⇒ Joined
    ▹ later

-- from `a_mask & AH_LETTER != 0` on
unfoldable pub letter_rules : ℕ → ℕ → Next → Exit → Exit
letter_rules a b next later =
    -- WB5, WB9
    letter_run a b ⇒ Joined
    -- WB6, WB7
    ▹ mid_letter a b next ⇒ Held
    -- WB7a
    ▹ hebrew_single a b ⇒ Joined
    -- WB7b, WB7c
    ▹ hebrew_double a b next ⇒ Held
    ▹ later

-- from `a_mask & NU.mask() != 0` on
unfoldable pub number_rules : ℕ → ℕ → Next → Exit → Exit
number_rules a b next later =
    -- WB8, WB10
    number_run a b ⇒ Joined
    -- WB11, WB12
    ▹ mid_number a b next ⇒ Held
    -- WB13
    ▹ katakana_run a b ⇒ Joined
    -- WB13a
    ▹ to_extender a b ⇒ Joined
    -- WB13b
    ▹ from_extender a b ⇒ Joined
    ▹ later

-- from `self.ri_count == 2` on: of a count of 0 to 2, and the step refuses every other, 2 or more is 2
unfoldable pub flag_rules : ℕ → ℕ → ℕ → Exit
flag_rules a b count =
    -- WB15, WB16: RI are joined by pairs
    leb 2 count && eqb b RI ⇒ Opened
    ▹ leb 2 count ⇒ Parted
    ▹ eqb b RI && eqb a RI ⇒ Paired (count + 1)
    ▹ eqb b RI ⇒ Opened
    -- WB999
    ▹ Parted

-- the whole of `check_word`
unfoldable pub exit_of : WordState → ℕ → ℕ → Next → Exit
exit_of s b pictograph next =
    let a = s.previous in
    -- WB1
    s.first ⇒ Begun
    -- WB7, WB7c, WB11: the boundary after the middle of a held one
    ▹ s.prevent ⇒ Released
    ▹ pair_rules a b pictograph (letter_rules a b next (number_rules a b next (flag_rules a b s.count)))

-- what an exit leaves behind; the state is no longer first
abbrev pub told : ℕ → Bool → ℕ → ℕ → WordStep
told previous prevent count answer =
    record {
      state = record { first = false; previous = previous; prevent = prevent; count = count };
      answer = answer;
      verdict = Ok tt;
    }

-- each exit's writes: to `prev` (b unless it is put back), to `prevent_next`, to `ri_count` (`reset_state` makes it 0), and the answer
unfoldable pub leaves : WordState → ℕ → Exit → WordStep
-- WB1: the count is 1 for RI; nothing else is written
leaves s b Begun = told b s.prevent (cond (eqb b RI) 1 s.count) 1
-- `prevent_next = false; return false`: the count is not reset here
leaves s b Released = told b false s.count 0
leaves s b Joined = told b false 0 0
leaves s b Parted = told b false 0 1
-- WB4 puts `prev` back
leaves s b Ignored = told s.previous false 0 0
leaves s b Held = told b true 0 0
leaves s b Opened = told b false 1 1
leaves s b (Paired count) = told b false count 0

-- one call of `check_word`
abbrev pub ruled : WordState → ℕ → ℕ → Next → WordStep
ruled s b pictograph next = leaves s b (exit_of s b pictograph next)
