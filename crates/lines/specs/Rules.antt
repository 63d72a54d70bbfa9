-- `check_line` of src/text/analyze.rs over a lent table (SCOPE 12.1).
use Rattle.std.specs.Prelude.{ℕ, ◌+◌, ◌*◌, ◌/◌, ◌%◌, Bool, false, not, ◌&&◌, List, [], ◌∷◌, eqb, Some, None}
use Rattle.basics.specs.Sets.{member}
use Rattle.basics.specs.Choices.{◌⇒◌▹◌}
use Rattle.records.specs.Text.{cell}
use Rattle.lines.specs.LineBreak.{AI, AL, CJ, H2, H3, HY, ID, JL, JT, JV, NU, SA, ZWJ}
use Rattle.lines.specs.declared.Strength.{Strength}
use Rattle.lines.specs.declared.Strength.TheVariants.{Normal, BreakAll, KeepAll}
use Rattle.lines.specs.Previous.{Previous}
use Rattle.lines.specs.declared.Boundary.{Boundary}
use Rattle.lines.specs.declared.LineState.{LineState}

-- the numbers of the Rust's `Boundary`
abbrev pub boundary_code : Boundary → ℕ
boundary_code Boundary.None = 0
boundary_code Boundary.Word = 1
boundary_code Boundary.Line = 2
boundary_code Boundary.Mandatory = 3

-- the numbers of the strengths, in the order in which the Rust has them
abbrev pub strength_code : Strength → ℕ
strength_code Normal = 0
strength_code BreakAll = 1
strength_code KeepAll = 2

-- a row has a cell for each line class, and one for the end of the text, which `check_line` never asks
abbrev pub width : ℕ
width = 44

-- `sot`: "A text starts in row 44 with no class before."
abbrev pub start_state : LineState
start_state = record { row = 44; previous = None }

-- a cell: the row that comes next, whether a break is mandatory (0x40), whether one is allowed (0x80)
abbrev pub row_in : ℕ → ℕ
row_in v = v % 64

abbrev pub is_mandatory : ℕ → Bool
is_mandatory v = eqb (v / 64 % 2) 1

abbrev pub is_allowed : ℕ → Bool
is_allowed v = eqb (v / 128 % 2) 1

-- `PAIR_TABLE[row][class]`
abbrev pub pair : List ℕ → ℕ → ℕ → ℕ
pair table row class = cell table (row * width + class)

-- BreakAll: "Treat the NU, AL, and SA line breaking classes as ID."
abbrev pub as_ideographs : List ℕ
as_ideographs = AL ∷ NU ∷ SA ∷ []

-- KeepAll: "Prohibit breaking between typographic letter units or the NU, AL, or AI, or ID classes."
abbrev pub kept_together : List ℕ
kept_together = AI ∷ AL ∷ ID ∷ NU ∷ HY ∷ H2 ∷ H3 ∷ JL ∷ JV ∷ JT ∷ CJ ∷ []

abbrev pub previous_in : List ℕ → Previous → Bool
previous_in classes (Some c) = member classes c
previous_in classes None = false

-- `left` and `right`
abbrev pub left_of : LineState → ℕ
left_of s = previous_in as_ideographs s.previous ⇒ ID ▹ s.row

abbrev pub right_of : ℕ → ℕ
right_of class = member as_ideographs class ⇒ ID ▹ class

-- `mode_val`: the cell that is asked
abbrev pub asked : Strength → List ℕ → LineState → ℕ → ℕ
asked Normal table s class = pair table s.row class
asked BreakAll table s class = pair table (left_of s) (right_of class)
asked KeepAll table s class = pair table s.row class

-- `mode`, from the cell that is asked
abbrev pub told : ℕ → Previous → Boundary
told v previous =
    is_mandatory v ⇒ Boundary.Mandatory
    ▹ (is_allowed v && not (previous_in (ZWJ ∷ []) previous)) ⇒ Boundary.Line
    ▹ Boundary.None

-- where KeepAll makes none of it
abbrev pub keeps : Strength → LineState → ℕ → Bool
keeps Normal s class = false
keeps BreakAll s class = false
keeps KeepAll s class = previous_in kept_together s.previous && member kept_together class

unfoldable pub line_answer : Strength → List ℕ → LineState → ℕ → Boundary
line_answer strength table s class =
    keeps strength s class ⇒ Boundary.None
    ▹ told (asked strength table s class) s.previous

-- "Store the original value, not the modified one.": no strength is looked at
unfoldable pub line_after : List ℕ → LineState → ℕ → LineState
line_after table s class = record { row = row_in (pair table s.row class); previous = Some class }

-- `next`: "the answer is the line answer, and word where that is none and the word machine answers 1" (SCOPE 12.1)
abbrev pub or_word : Boundary → ℕ → Boundary
or_word Boundary.None word = eqb word 1 ⇒ Boundary.Word ▹ Boundary.None
or_word Boundary.Word word = Boundary.Word
or_word Boundary.Line word = Boundary.Line
or_word Boundary.Mandatory word = Boundary.Mandatory
