-- The masks of `check_word` beside the lists of class names that stand for them (SCOPE 12.8): each test `mask & … != 0` of analyze.rs by
-- its line, with the number that the Rust's constants come to, and the rule that asks it here. oracle/masks.py reads line and number
-- from the Rust.
use Rattle.std.specs.Prelude.{ℕ, ◌/◌, ◌%◌, ◌^◌, Bool, true, ◌&&◌, not, cond, List, [], ◌∷◌, eqb, Some}
use Rattle.basics.specs.Sets.{member, every}
use Rattle.classes.specs.WordBreak.{Other, ALetter, ML, NU, EX, len}
use Rattle.words.specs.Rules.{ignorable, by_newline, letter_run, mid_letter, number_run, mid_number, to_extender, from_extender}

-- a test by a mask: its line, the mask, and the same test of a class here, the other classes of its rule being such as let it decide
pub record Mask : Type 0 where
  line : ℕ
  bits : ℕ
  ours : ℕ → Bool

abbrev pub asks : ℕ → ℕ → (ℕ → Bool) → Mask
asks line bits ours = record { line = line; bits = bits; ours = ours }

-- `1 << class`, joined by `&` with the mask, is not 0
abbrev pub has : ℕ → ℕ → Bool
has bits class = eqb (bits / 2 ^ class % 2) 1

-- every test of analyze.rs that has a mask
unfoldable pub masks : List Mask
masks =
    -- `WB3_A`, WB3a and WB3b
    asks 133 0x0000E (λ a. by_newline a Other)
    ∷ asks 133 0x0000E (λ b. by_newline Other b)
    -- `WB_4`
    ∷ asks 144 0x00070 (λ b. member ignorable b)
    -- `AH_LETTER`, WB5 to WB9
    ∷ asks 155 0x00300 (λ a. letter_run a ALetter)
    ∷ asks 158 0x02300 (λ b. letter_run ALetter b)
    ∷ asks 162 0x04C00 (λ b. mid_letter ALetter b (Some ALetter))
    ∷ asks 170 0x00300 (λ c. mid_letter ALetter ML (Some c))
    -- `NU`, WB8 to WB12
    ∷ asks 199 0x02000 (λ a. number_run a NU)
    ∷ asks 202 0x02300 (λ b. number_run NU b)
    ∷ asks 206 0x05800 (λ b. mid_number NU b (Some NU))
    -- `WB13_A` and `WB13_B`
    ∷ asks 228 0x32300 (λ a. to_extender a EX)
    ∷ asks 234 0x12300 (λ b. from_extender EX b)
    ∷ []

-- the two tests say the same of a class
abbrev pub same : Mask → ℕ → Bool
same m class = cond (m.ours class) (has m.bits class) (not (has m.bits class))

-- and so of every class
unfoldable pub alike : List Mask → Bool
alike [] = true
alike (m ∷ ms) = every (same m) len && alike ms
