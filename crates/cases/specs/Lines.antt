-- The lines of the layout that oracle/README.md fixes.
use Rattle.std.specs.Prelude.{ℕ, Option, Bool, true, false, cond, ◌||◌, List, [], ◌∷◌, eqb, length, get_or, Some, None}
use Rattle.std.specs.Option.{unwrap_or}
use Rattle.classes.specs.declared.Mode.{Mode}
use Rattle.classes.specs.declared.Mode.TheVariants.{Crate, Whole}
use Rattle.records.specs.declared.Parser.{Parser}
use Rattle.records.specs.declared.Parser.TheVariants.{Simple, Myanmar, Complex, Khmer}
use Rattle.words.specs.declared.WordState.{WordState}
use Rattle.words.specs.Next.{Next}
use Rattle.lines.specs.declared.Strength.{Strength}
use Rattle.lines.specs.declared.Strength.TheVariants.{Normal, BreakAll, KeepAll}
use Rattle.lines.specs.declared.LineState.{LineState}
use Rattle.lines.specs.Previous.{Previous}
use Rattle.cases.specs.declared.layout.Line.{Line}
use Rattle.cases.specs.declared.layout.Line.TheVariants.{Skipped, NotOfLayout, Text, Marked, Step, Lent, Files}
use Rattle.cases.specs.declared.layout.Machine.{Machine}
use Rattle.cases.specs.declared.layout.Machine.TheVariants.{Words, Back, Forward}
use Rattle.cases.specs.declared.layout.Task.{Task}
use Rattle.cases.specs.declared.layout.Task.TheVariants.{LineStep, BoundaryStep, Boundaries}
use Rattle.cases.specs.declared.layout.Asked.{Asked}
use Rattle.cases.specs.declared.items.Kind.TheVariants.{Record, Part, Word, State, Joint, Row, Ahead, Cell, Sets, Block, Scalar}
use Rattle.cases.specs.Items.{items_of, is_item, fits, field_of}
use Rattle.cases.specs.Numbers.{number_of, most16, Number}
use Rattle.cases.specs.Spans.{span, count, equal, letter}

-- "A line without bytes, one of blanks (U+0020) only, and one whose first byte is # are skipped"
unfoldable pub skipped : List ℕ → Bool
skipped xs = eqb (count 32 xs) (length xs) || eqb (get_or xs 0 0) 35

abbrev pub asked : Parser → Bool → Option Asked
asked parser full = Some (record { parser = parser; full = full })

-- s, m, c are full runs
unfoldable pub full_asked : ℕ → Option Asked
full_asked kind =
    cond (eqb kind 115) (asked Simple true)
    (cond (eqb kind 109) (asked Myanmar true)
    (cond (eqb kind 99) (asked Complex true) None))

-- S, M, C are stepping calls; the script is -
unfoldable pub plain_asked : ℕ → Option Asked
plain_asked kind =
    cond (eqb kind 83) (asked Simple false)
    (cond (eqb kind 77) (asked Myanmar false)
    (cond (eqb kind 67) (asked Complex false) (full_asked kind)))

-- the script K, "for C and c only"
unfoldable pub khmer_asked : ℕ → Option Asked
khmer_asked kind = cond (eqb kind 67) (asked Khmer false) (cond (eqb kind 99) (asked Khmer true) None)

unfoldable pub asked_of : ℕ → ℕ → Option Asked
asked_of kind script = cond (eqb script 45) (plain_asked kind) (cond (eqb script 75) (khmer_asked kind) None)

-- crate, letter by letter
abbrev pub named : List ℕ
named = 99 ∷ 114 ∷ 97 ∷ 116 ∷ 101 ∷ []

-- crate or whole
unfoldable pub mode_of : List ℕ → Option Mode
mode_of xs = cond (equal xs named) (Some Crate) (cond (equal xs (119 ∷ 104 ∷ 111 ∷ 108 ∷ 101 ∷ [])) (Some Whole) None)

-- what is made of the parts of a line, where all are there
abbrev pub text_with : Option Asked → Option Mode → Number → Number → Number → Option Line
text_with (Some a) (Some mode) (Some number) (Some records) (Some parts) = Some (Text a.parser mode a.full number records parts)
text_with (Some a) (Some mode) (Some number) (Some records) None = None
text_with (Some a) (Some mode) (Some number) None parts = None
text_with (Some a) (Some mode) None records parts = None
text_with (Some a) None number records parts = None
text_with None mode number records parts = None

unfoldable pub text_line : ℕ → List ℕ → Option Line
text_line kind xs =
    text_with (asked_of kind (letter (span 59 2 xs))) (mode_of (span 59 1 xs))
    (number_of 10 most16 (span 59 3 xs)) (items_of Record (span 59 4 xs)) (items_of Part (span 59 5 xs))

abbrev pub marked_with : Option Machine → Number → Number → Option Line
marked_with (Some machine) (Some size) (Some records) = Some (Marked machine size records)
marked_with (Some machine) (Some size) None = None
marked_with (Some machine) None records = None
marked_with None size records = None

-- "W;CELLS;class,pict …", "G;CELLS;break,emoji …  the engine that looks back; g the one that goes forward"
unfoldable pub machine_of : ℕ → Option Machine
machine_of kind = cond (eqb kind 87) (Some Words) (cond (eqb kind 71) (Some Back) (cond (eqb kind 103) (Some Forward) None))

unfoldable pub run_line : ℕ → List ℕ → Option Line
run_line kind xs = marked_with (machine_of kind) (number_of 10 most16 (span 59 1 xs)) (items_of Word (span 59 2 xs))

unfoldable pub state_of : List ℕ → WordState
state_of xs =
    record { first = eqb (field_of 10 255 0 xs) 1; previous = field_of 10 255 1 xs; prevent = eqb (field_of 10 255 2 xs) 1; count = field_of 10 255 3 xs }

-- "next is - or a decimal up to 255"
unfoldable pub ahead_of : List ℕ → Next
ahead_of xs = cond (eqb (letter xs) 45) None (Some (field_of 10 255 0 xs))

abbrev pub step_of : List ℕ → Line
step_of xs =
    Step (state_of (span 59 1 xs)) (field_of 10 255 0 (span 59 2 xs)) (field_of 10 255 1 (span 59 2 xs)) (ahead_of (span 59 3 xs))

unfoldable pub step_line : List ℕ → Option Line
step_line xs =
    cond (is_item State (span 59 1 xs))
    (cond (is_item Word (span 59 2 xs)) (cond (is_item Ahead (span 59 3 xs)) (Some (step_of xs)) None) None)
    None

-- "prev is a line class or -"
unfoldable pub previous_of : List ℕ → Previous
previous_of xs = cond (eqb (letter (span 44 1 xs)) 45) None (Some (field_of 10 255 1 xs))

unfoldable pub line_state_of : List ℕ → LineState
line_state_of xs = record { row = field_of 10 255 0 xs; previous = previous_of xs }

-- "l;STRENGTH;TABLE;row,prev;class"
unfoldable pub line_step : List ℕ → Option Task
line_step xs =
    cond (is_item Row (span 59 3 xs))
    (cond (fits 10 255 (span 59 4 xs)) (Some (LineStep (line_state_of (span 59 3 xs)) (field_of 10 255 0 (span 59 4 xs)))) None)
    None

-- "n;STRENGTH;TABLE;row,prev;first,prev,prevent,count;line,word,pict;next or -"
abbrev pub boundary_of : List ℕ → Task
boundary_of xs =
    BoundaryStep (line_state_of (span 59 3 xs)) (state_of (span 59 4 xs))
    (field_of 10 255 0 (span 59 5 xs)) (field_of 10 255 1 (span 59 5 xs)) (field_of 10 255 2 (span 59 5 xs)) (ahead_of (span 59 6 xs))

unfoldable pub boundary_step : List ℕ → Option Task
boundary_step xs =
    cond (is_item Row (span 59 3 xs))
    (cond (is_item State (span 59 4 xs))
    (cond (is_item Joint (span 59 5 xs)) (cond (is_item Ahead (span 59 6 xs)) (Some (boundary_of xs)) None) None)
    None)
    None

abbrev pub boundaries_with : Number → Number → Option Task
boundaries_with (Some size) (Some records) = Some (Boundaries size records)
boundaries_with (Some size) None = None
boundaries_with None records = None

-- "L;STRENGTH;TABLE;CELLS;line,word,pict line,word,pict …"
unfoldable pub boundaries : List ℕ → Option Task
boundaries xs = boundaries_with (number_of 10 most16 (span 59 3 xs)) (items_of Joint (span 59 4 xs))

-- the kinds over a table, by the number of semicolons
unfoldable pub task_of : ℕ → List ℕ → Option Task
task_of kind xs =
    cond (eqb (count 59 xs) 4)
    (cond (eqb kind 108) (line_step xs) (cond (eqb kind 76) (boundaries xs) None))
    (cond (eqb (count 59 xs) 6) (cond (eqb kind 110) (boundary_step xs) None) None)

-- Normal, BreakAll or KeepAll, letter by letter
unfoldable pub strength_of : List ℕ → Option Strength
strength_of xs =
    cond (equal xs (78 ∷ 111 ∷ 114 ∷ 109 ∷ 97 ∷ 108 ∷ [])) (Some Normal)
    (cond (equal xs (66 ∷ 114 ∷ 101 ∷ 97 ∷ 107 ∷ 65 ∷ 108 ∷ 108 ∷ [])) (Some BreakAll)
    (cond (equal xs (75 ∷ 101 ∷ 101 ∷ 112 ∷ 65 ∷ 108 ∷ 108 ∷ [])) (Some KeepAll) None))

abbrev pub lent_if : Number → Option Bool
lent_if (Some items) = Some false
lent_if None = None

-- "crate, the crate's own 53 rows of 44 cells, or items with one blank between, and may be empty"
unfoldable pub own_of : List ℕ → Option Bool
own_of xs = cond (equal xs named) (Some true) (lent_if (items_of Cell xs))

abbrev pub lent_with : Option Strength → Option Bool → Option Task → Option Line
lent_with (Some strength) (Some own) (Some task) = Some (Lent strength own task)
lent_with (Some strength) (Some own) None = None
lent_with (Some strength) None task = None
lent_with None own task = None

unfoldable pub lent_line : ℕ → List ℕ → Option Line
lent_line kind xs = lent_with (strength_of (span 59 1 xs)) (own_of (span 59 2 xs)) (task_of kind xs)

abbrev pub files_with : ℕ → ℕ → Number → Number → Number → Option Line
files_with clusters words (Some blocks) (Some size) (Some scalars) = Some (Files clusters words blocks size scalars)
files_with clusters words (Some blocks) (Some size) None = None
files_with clusters words (Some blocks) None scalars = None
files_with clusters words None size scalars = None

unfoldable pub files_in : List ℕ → Option Line
files_in xs =
    files_with (field_of 10 most16 0 (span 59 1 xs)) (field_of 10 most16 1 (span 59 1 xs))
    (items_of Block (span 59 2 xs)) (number_of 10 most16 (span 59 3 xs)) (items_of Scalar (span 59 4 xs))

-- "F;G,W;BLOCKS;OUT;SCALARS"
unfoldable pub files_line : List ℕ → Option Line
files_line xs = cond (eqb (count 59 xs) 4) (cond (is_item Sets (span 59 1 xs)) (files_in xs) None) None

-- the kinds, by the number of semicolons
unfoldable pub kind_line : ℕ → List ℕ → Option Line
kind_line kind xs =
    cond (eqb (count 59 xs) 5) (text_line kind xs)
    (cond (eqb (count 59 xs) 2) (run_line kind xs)
    (cond (eqb (count 59 xs) 3) (cond (eqb kind 119) (step_line xs) None)
    (cond (eqb kind 70) (files_line xs) (lent_line kind xs))))

-- a line that is none of these is not of the layout
unfoldable pub line_of : List ℕ → Line
line_of xs = cond (skipped xs) Skipped (unwrap_or (kind_line (letter (span 59 0 xs)) xs) NotOfLayout)
