-- What only private contracts need. For the executable form of the word rules: what they see of the characters before a place, kept from
-- record to record, and the rules over it. Other, a class that no rule names, stands for no character.
use Rattle.std.specs.Prelude.{ℕ, zero, suc, ◌+◌, Bool, true, false, cond, not, ◌&&◌, List, eqb, Option, None, Some}
use Rattle.basics.specs.Choices.{◌⇒◌▹◌}
use Rattle.basics.specs.Sets.{member}
use Rattle.classes.specs.WordBreak.{Other, CR, LF, ZWJ, WSegSpace, HL, NU, SQ, DQ, KA, EX, RI}
use Rattle.records.specs.Text.{cell}
use Rattle.uax29.specs.declared.words.Seen.{Seen}
use Rattle.uax29.specs.declared.words.Around.{Around}
use Rattle.uax29.specs.declared.words.Set.{Set}
use Rattle.uax29.specs.declared.words.Set.TheVariants.{Only, Newlines, Ignored, Letters, MidLetters, MidNumbers, Extendable, Extended}
use Rattle.uax29.specs.Words.{AHLetter, newlines, ignored, mid_letters, mid_numbers, extendable, extended}

-- the sets by their names
abbrev pub holds : Set → ℕ → Bool
holds (Only class) x = eqb x class
holds Newlines x = member newlines x
holds Ignored x = member ignored x
holds Letters x = member AHLetter x
holds MidLetters x = member mid_letters x
holds MidNumbers x = member mid_numbers x
holds Extendable x = member extendable x
holds Extended x = member extended x

unfoldable pub from_WB15 : ℕ → Bool → Bool
from_WB15 b odd =
    -- WB15, WB16
    eqb b RI ⇒ not odd
    -- WB999
    ▹ true

unfoldable pub from_WB13 : ℕ → ℕ → Bool → Bool
from_WB13 near b later =
    -- WB13
    eqb near KA && eqb b KA ⇒ false
    -- WB13a
    ▹ member extended near && eqb b EX ⇒ false
    -- WB13b
    ▹ eqb near EX && member extendable b ⇒ false
    ▹ later

unfoldable pub from_WB8 : ℕ → ℕ → ℕ → ℕ → Bool → Bool
from_WB8 far near b next later =
    -- WB8
    eqb near NU && eqb b NU ⇒ false
    -- WB9
    ▹ member AHLetter near && eqb b NU ⇒ false
    -- WB10
    ▹ eqb near NU && member AHLetter b ⇒ false
    -- WB11
    ▹ (member mid_numbers near && eqb far NU) && eqb b NU ⇒ false
    -- WB12
    ▹ eqb near NU && (member mid_numbers b && eqb next NU) ⇒ false
    ▹ later

unfoldable pub from_WB7a : ℕ → ℕ → ℕ → ℕ → Bool → Bool
from_WB7a far near b next later =
    -- WB7a
    eqb near HL && eqb b SQ ⇒ false
    -- WB7b
    ▹ eqb near HL && (eqb b DQ && eqb next HL) ⇒ false
    -- WB7c
    ▹ (eqb near DQ && eqb far HL) && eqb b HL ⇒ false
    ▹ later

unfoldable pub from_WB5 : ℕ → ℕ → ℕ → ℕ → Bool → Bool
from_WB5 far near b next later =
    -- WB5
    member AHLetter near && member AHLetter b ⇒ false
    -- WB6
    ▹ member AHLetter near && (member mid_letters b && member AHLetter next) ⇒ false
    -- WB7
    ▹ (member mid_letters near && member AHLetter far) && member AHLetter b ⇒ false
    ▹ later

unfoldable pub from_WB3c : ℕ → ℕ → ℕ → Bool → Bool
from_WB3c last b mark later =
    -- WB3c
    eqb last ZWJ && eqb mark 1 ⇒ false
    -- WB3d
    ▹ eqb last WSegSpace && eqb b WSegSpace ⇒ false
    -- WB4
    ▹ member ignored b ⇒ false
    ▹ later

-- the character before the place is of class last
unfoldable pub from_WB3 : ℕ → ℕ → Bool → Bool
from_WB3 last b later =
    -- WB3
    eqb last CR && eqb b LF ⇒ false
    -- WB3a
    ▹ member newlines last ⇒ true
    -- WB3b
    ▹ member newlines b ⇒ true
    ▹ later

unfoldable pub from_WB1 : Option ℕ → ℕ → ℕ → Bool → Bool
-- WB1
from_WB1 None b mark later = true
from_WB1 (Some last) b mark later = from_WB3 last b (from_WB3c last b mark later)

-- the rules that see what WB4 leaves
abbrev pub after_WB7c : Around → Bool
after_WB7c a = from_WB8 a.far a.near a.b a.next (from_WB13 a.near a.b (from_WB15 a.b a.odd))

abbrev pub after_WB4 : Around → Bool
after_WB4 a =
    from_WB5 a.far a.near a.b a.next (from_WB7a a.far a.near a.b a.next (after_WB7c a))

abbrev pub around : Seen → ℕ → ℕ → Around
around s b next = record { far = s.far; near = s.near; b = b; next = next; odd = s.odd }

-- a boundary before a character of class b, the next that WB4 leaves being of class next
unfoldable pub decided : Seen → ℕ → ℕ → ℕ → Bool
decided s b mark next = from_WB1 s.last b mark (after_WB4 (around s b next))

abbrev pub nothing : Seen
nothing = record { last = None; near = Other; far = Other; odd = false }

-- an X stands nearest (WB4)
abbrev pub is_x : Option ℕ → Bool
is_x None = false
is_x (Some last) = not (member newlines last)

unfoldable pub has_x : Seen → Bool
has_x s = is_x s.last

-- what is seen one character later
unfoldable pub after : Seen → ℕ → Seen
after s b =
    cond (member ignored b && has_x s)
    (record { last = Some b; near = s.near; far = s.far; odd = s.odd })
    (record { last = Some b; near = b; far = s.near; odd = eqb b RI && not s.odd })

unfoldable pub seen_at : List ℕ → ℕ → Seen
seen_at words zero = nothing
seen_at words (suc i) = after (seen_at words i) (cell words i)

-- the class of the first of n records from an index on that WB4 leaves
unfoldable pub ahead : List ℕ → ℕ → ℕ → ℕ
ahead words i zero = Other
ahead words i (suc n) = cond (member ignored (cell words i)) (ahead words (i + 1) n) (cell words i)
