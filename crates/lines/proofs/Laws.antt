-- What is true of every line step. Assumes nothing.
use Rattle.std.specs.Prelude.{Ok, Err, Some}
use Prim.Native.Nat.{ℕ, zero, suc, ◌+◌, ◌*◌, ◌%◌, ◌<◌, ◌≤◌}
use mathlib.Core.Path.{◌≡◌, refl, ap}
use mathlib.Core.Bool.{Bool, true, false, cond, not, ◌&&◌, ◌||◌}
use mathlib.Core.List.{List, [], ◌∷◌}
use native.Mathlib.Nat.{div-mul-le_self}
use native.Mathlib.Omega.{arith}
use lib.Dec.{eqb, leb, ltb}
use lib.ListN.{length, get_or}
use borrow.Author.Tests.{leb-true, leb-false, ltb-false}
use Rattle.basics.specs.Choices.{◌⇒◌▹◌}
use Rattle.basics.specs.Sets.{any, member}
use Rattle.basics.proofs.Tests.{by_test, if_intro, neither}
use Rattle.records.specs.Text.{cell}
use Rattle.records.specs.Verdict.{Verdict}
use Rattle.records.proofs.Unique.{unique}
use Rattle.lines.specs.LineBreak.{ID, ZWJ, len}
use Rattle.lines.specs.Rules.{boundary_code, width, row_in, is_mandatory, is_allowed, pair, as_ideographs, kept_together, previous_in, left_of, right_of, asked, told, keeps, line_answer, line_after}
use Rattle.lines.specs.Refusals.{rows_of, bad_table, step_verdict, step_under, step_of}
use Rattle.lines.specs.declared.Strength.{Strength}
use Rattle.lines.specs.declared.Strength.TheVariants.{Normal, BreakAll, KeepAll}
use Rattle.lines.specs.declared.Boundary.{Boundary}
use Rattle.lines.specs.declared.LineState.{LineState}
use Rattle.lines.specs.declared.LineStep.{LineStep}

-- "Whatever the strength, the row that is stored is of the cell that Normal asks" (SCOPE 12.1).
pub stored_is : (table : List ℕ) (s : LineState) (class : ℕ) → line_after table s class ≡ record { row = row_in (asked Normal table s class); previous = Some class }
unfolding line_after
stored_is table s class = refl

-- So the state after a step is the same at every strength, refused or not.
pub state_alike : (a b : Strength) (table : List ℕ) (s : LineState) (class : ℕ) → (step_of a table s class).state ≡ (step_of b table s class).state
state_alike a b table s class = go (step_verdict table s class)
  where
    go : (v : Verdict) → (step_under v a table s class).state ≡ (step_under v b table s class).state
    go (Ok _) = refl
    go (Err r) = refl

-- no cell of a list of which no number passes a test passes it; past the end a cell is 0
pub none_at : (p : ℕ → Bool) (xs : List ℕ) (i : ℕ) → any p xs ≡ false → p 0 ≡ false → p (get_or xs i 0) ≡ false
none_at p [] i h z = z
none_at p (x ∷ xs) zero h z = (neither (p x) (any p xs) h).0
none_at p (x ∷ xs) (suc i) h z = none_at p xs i (neither (p x) (any p xs) h).1 z

-- an accepted table has 45 rows at least, and every cell names one of them
module _ (table : List ℕ) (good : bad_table table ≡ false) where
  abbrev uneven : Bool
  uneven = not (eqb (length table % width) 0)

  abbrev few : Bool
  few = ltb (rows_of table) 45

  abbrev astray : Bool
  astray = any (λ v. leb (rows_of table) (row_in v)) table

  -- neither too few rows nor a cell that names none
  rest : (few ≡ false) × (astray ≡ false)
  unfolding bad_table
  rest = neither few astray (neither uneven (few || astray) good).1

  pub enough_rows : 45 ≤ rows_of table
  enough_rows = ltb-false (rows_of table) 45 rest.0

  pub named_row : (i : ℕ) → row_in (cell table i) < rows_of table
  named_row i =
      let zero_named : leb (rows_of table) 0 ≡ false = by_test (leb (rows_of table) 0) (λ h. absurd (omega (arith, enough_rows, leb-true (rows_of table) 0 h))) (λ h. h) in
      leb-false (rows_of table) (row_in (cell table i)) (none_at (λ v. leb (rows_of table) (row_in v)) table i rest.1 zero_named)

-- no step leaves the rows: the row after one is one of the table's, whatever the row and the class before were
pub row_stays : (table : List ℕ) (s : LineState) (class : ℕ) → bad_table table ≡ false → (line_after table s class).row < rows_of table
unfolding line_after
row_stays table s class good = named_row table good (s.row * width + class)

-- the cell of a row of the table and a class is one of its cells
pair_inside : (table : List ℕ) (row class : ℕ) → row < rows_of table → class < width → row * width + class < length table
pair_inside table row class h l = omega (arith, div-mul-le_self (length table) width)

-- a value that is one of the table's cells
pub record Inside (table : List ℕ) (v : ℕ) : Type 0 where
  pub at : ℕ
  pub within : at < length table
  pub is : v ≡ cell table at

-- The cell that is asked, at every strength, is one of the table's.
module _ (table : List ℕ) (good : bad_table table ≡ false) (s : LineState) (class : ℕ) (r : s.row < rows_of table) (l : class < len) where
  left_inside : left_of s < rows_of table
  left_inside = if_intro (λ row. row < rows_of table) (previous_in as_ideographs s.previous) ID s.row (λ h. omega (arith, enough_rows table good)) (λ h. r)

  right_inside : right_of class < width
  right_inside = if_intro (λ c. c < width) (member as_ideographs class) ID class (λ h. omega arith) (λ h. omega (arith, l))

  class_inside : class < width
  class_inside = omega (arith, l)

  pub asked_inside : (strength : Strength) → Inside table (asked strength table s class)
  asked_inside Normal = record { at = s.row * width + class; within = pair_inside table s.row class r class_inside; is = refl }
  asked_inside BreakAll = record { at = left_of s * width + right_of class; within = pair_inside table (left_of s) (right_of class) left_inside right_inside; is = refl }
  asked_inside KeepAll = record { at = s.row * width + class; within = pair_inside table s.row class r class_inside; is = refl }

-- # What each strength changes

-- Normal asks the cell of the row and the class, KeepAll answers as Normal but none between two classes of its list, and BreakAll as
-- Normal would from row ID, or at class ID.
module _ (table : List ℕ) (s : LineState) (class : ℕ) where
  pub normal_is : line_answer Normal table s class ≡ told (pair table s.row class) s.previous
  unfolding line_answer
  normal_is = refl

  pub keep_all_is : line_answer KeepAll table s class ≡ cond (previous_in kept_together s.previous && member kept_together class) Boundary.None (line_answer Normal table s class)
  unfolding line_answer
  keep_all_is = refl

  pub break_all_is : line_answer BreakAll table s class ≡ line_answer Normal table (record { row = left_of s; previous = s.previous }) (right_of class)
  unfolding line_answer
  break_all_is = refl

-- what an answer comes from: whether KeepAll holds, whether the asked cell makes a break mandatory or allows one, whether ZWJ stands before
abbrev chosen : Bool → Bool → Bool → Bool → Boundary
chosen kept mandatory allowed zwj =
    kept ⇒ Boundary.None
    ▹ mandatory ⇒ Boundary.Mandatory
    ▹ (allowed && not zwj) ⇒ Boundary.Line
    ▹ Boundary.None

not_word : (k m a z : Bool) → chosen k m a z ≡ Boundary.Word → ⊥
not_word true m a z e = omega (arith, ap boundary_code e)
not_word false true a z e = omega (arith, ap boundary_code e)
not_word false false false z e = omega (arith, ap boundary_code e)
not_word false false true true e = omega (arith, ap boundary_code e)
not_word false false true false e = omega (arith, ap boundary_code e)

only_line : (k m a z : Bool) → chosen k m a z ≡ Boundary.Line → (k ≡ false) × ((m ≡ false) × ((a ≡ true) × (z ≡ false)))
only_line true m a z e = absurd (omega (arith, ap boundary_code e))
only_line false true a z e = absurd (omega (arith, ap boundary_code e))
only_line false false false z e = absurd (omega (arith, ap boundary_code e))
only_line false false true true e = absurd (omega (arith, ap boundary_code e))
only_line false false true false e = (refl, (refl, (refl, refl)))

only_mandatory : (k m a z : Bool) → chosen k m a z ≡ Boundary.Mandatory → (k ≡ false) × (m ≡ true)
only_mandatory true m a z e = absurd (omega (arith, ap boundary_code e))
only_mandatory false true a z e = (refl, refl)
only_mandatory false false false z e = absurd (omega (arith, ap boundary_code e))
only_mandatory false false true true e = absurd (omega (arith, ap boundary_code e))
only_mandatory false false true false e = absurd (omega (arith, ap boundary_code e))

-- Each answer is traced to its rule, at every strength: it is never word; it is line only where KeepAll does not hold, the cell that is
-- asked makes no break mandatory and allows one, and no ZWJ stands before; mandatory only where KeepAll does not hold and the cell says so.
module _ (strength : Strength) (table : List ℕ) (s : LineState) (class : ℕ) where
  abbrev cell_asked : ℕ
  cell_asked = asked strength table s class

  pub never_word : line_answer strength table s class ≡ Boundary.Word → ⊥
  unfolding line_answer
  never_word = not_word (keeps strength s class) (is_mandatory cell_asked) (is_allowed cell_asked) (previous_in (ZWJ ∷ []) s.previous)

  pub line_traced : line_answer strength table s class ≡ Boundary.Line → (keeps strength s class ≡ false) × ((is_mandatory cell_asked ≡ false) × ((is_allowed cell_asked ≡ true) × (previous_in (ZWJ ∷ []) s.previous ≡ false)))
  unfolding line_answer
  line_traced = only_line (keeps strength s class) (is_mandatory cell_asked) (is_allowed cell_asked) (previous_in (ZWJ ∷ []) s.previous)

  pub mandatory_traced : line_answer strength table s class ≡ Boundary.Mandatory → (keeps strength s class ≡ false) × (is_mandatory cell_asked ≡ true)
  unfolding line_answer
  mandatory_traced = only_mandatory (keeps strength s class) (is_mandatory cell_asked) (is_allowed cell_asked) (previous_in (ZWJ ∷ []) s.previous)

-- no two results fulfil the contracts (SCOPE 10)
pub line_step_unique : (strength : Strength) (table : List ℕ) (s : LineState) (class : ℕ) (a b : LineStep) → a ≡ step_of strength table s class → b ≡ step_of strength table s class → a ≡ b
line_step_unique strength table s class = unique (step_of strength table s class)
