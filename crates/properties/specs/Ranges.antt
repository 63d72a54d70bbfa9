-- Range columns and the lookup of a text's classes.
use Rattle.std.specs.Prelude.{ℕ, zero, suc, ◌+◌, ◌<◌, ◌≤◌, min, Bool, cond, ◌&&◌, List, [], ◌∷◌, ◌++◌, leb, ltb, length, drop, Ok, Err}
use Rattle.basics.specs.Columns.{cells}
use Rattle.records.specs.Text.{cell}
use Rattle.records.specs.Refusals.{refuse, ◌⊳◌, over, bad_scalar}
use Rattle.records.specs.Offences.{Table, line}
use Rattle.records.specs.declared.Side.TheVariants.{Record, Neither}
use Rattle.records.specs.Verdict.{Verdict}

-- the ranges of one file: the first scalar, the last scalar and the code of each, and how many are held
pub record Ranges : Type 0 where
  pub firsts : List ℕ
  pub lasts : List ℕ
  pub codes : List ℕ
  pub held : ℕ

abbrev pub ranges : List ℕ → List ℕ → List ℕ → ℕ → Ranges
ranges firsts lasts codes held = record { firsts = firsts; lasts = lasts; codes = codes; held = held }

-- as many as there are cells for; "the cells are those of the shortest"
unfoldable pub count_of : ℕ → ℕ → ℕ → ℕ → ℕ
count_of firsts lasts codes held = min held (min firsts (min lasts codes))

abbrev pub count : Ranges → ℕ
count r = count_of (length r.firsts) (length r.lasts) (length r.codes) r.held

-- the last scalar of a range is in it
unfoldable pub is_in : ℕ → ℕ → ℕ → Bool
is_in first last scalar = leb first scalar && leb scalar last

abbrev pub has : Ranges → ℕ → ℕ → Bool
has r scalar k = is_in (cell r.firsts k) (cell r.lasts k) scalar

-- the code of the first range that has the scalar, among n from the i-th on; else 0: "A scalar in no range is XX or Other."
unfoldable pub code_from : Ranges → ℕ → ℕ → ℕ → ℕ
code_from r scalar i zero = 0
code_from r scalar i (suc n) = cond (has r scalar i) (cell r.codes i) (code_from r scalar (i + 1) n)

-- among all; no order of the ranges is asked for
unfoldable pub code_in : Ranges → ℕ → ℕ
code_in r scalar = code_from r scalar 0 (count r)

-- "range columns in scalar order" whose ranges do not meet
pub record InOrder (r : Ranges) : Type 0 where
  pub upward : (k : ℕ) → k < count r → cell r.firsts k ≤ cell r.lasts k
  pub apart : (k : ℕ) → k + 1 < count r → cell r.lasts k < cell r.firsts (k + 1)

-- "The lookup refuses 3, then 9.": 3 by rising index; 9 where the shorter output is shorter than the text
unfoldable pub judge_scalar : ℕ → ℕ → Verdict
judge_scalar scalar i = refuse (bad_scalar scalar) 3 Record i

unfoldable pub lookup_verdict : List ℕ → ℕ → ℕ → Verdict
lookup_verdict scalars breaks words =
    over (λ i. judge_scalar (cell scalars i) i) 0 (length scalars) ⊳ refuse (ltb (min breaks words) (length scalars)) 9 Neither 0

-- the class of the scalar at an index
unfoldable pub class_at : Ranges → List ℕ → ℕ → ℕ
class_at r scalars i = code_in r (cell scalars i)

-- "a lookup fills the two class columns of a text"; cells past the text keep their content, and with a refusal all do
abbrev pub filled : Verdict → Ranges → List ℕ → List ℕ → List ℕ
filled (Ok _) r scalars out = cells (class_at r scalars) (length scalars) ++ drop (length scalars) out
filled (Err refusal) r scalars out = out

-- the lines of the table of refusals (SCOPE 5.1) that are the lookup's: 3 of each scalar, then 9
abbrev pub lookup_table : List ℕ → ℕ → ℕ → Table
lookup_table scalars breaks words =
    record {
      before = [];
      parts = 0;
      of_part = λ i. [];
      records = length scalars;
      of_record = λ i. line 3 (bad_scalar (cell scalars i)) ∷ [];
      after = line 9 (ltb (min breaks words) (length scalars)) ∷ [];
    }
