-- What only private contracts need. What the check by columns looks for: enough for no refusal but 7, and not less than the table asks.
use Rattle.std.specs.Prelude.{ℕ, ◌+◌, ◌<◌, ◌≤◌, ◌≡◌, false, List, eqb, length, Ok}
use Rattle.classes.specs.Scalar.{CGJ}
use Rattle.classes.specs.ClusterBreak as ClusterBreak
use Rattle.classes.specs.UseClass as UseClass
use Rattle.classes.specs.MyanmarClass as MyanmarClass
use Rattle.classes.specs.WordBreak as WordBreak
use Rattle.classes.specs.Category as Category
use Rattle.records.specs.Text.{Text, cell}
use Rattle.records.specs.declared.Parser.{Parser}
use Rattle.records.specs.declared.sweep.Six.{Six}
use Rattle.records.specs.Verdict.{Verdict}
use Rattle.records.specs.Refusals.{◌⊳◌, bad_scalar, barred, judge_parts, judge_records, judge_signs}

abbrev pub CleanScalar : ℕ → Type 0
CleanScalar x = (bad_scalar x ≡ false) × (eqb x CGJ ≡ false)

abbrev pub CleanScalars : List ℕ → Type 0
CleanScalars xs = (k : ℕ) → CleanScalar (cell xs k)

-- no scalar is refused, or barred with its class
abbrev pub Spared : Parser → List ℕ → List ℕ → Type 0
Spared parser xs classes = (k : ℕ) → (bad_scalar (cell xs k) ≡ false) × (barred parser (cell xs k) (cell classes k) ≡ false)

abbrev pub EndsBy : List ℕ → List ℕ → ℕ → Type 0
EndsBy firsts counts parts = (k : ℕ) → cell firsts k + cell counts k ≤ parts

-- six codes below six limits
abbrev pub Inside : Six → Six → Type 0
Inside s l = (s.a < l.a) × (s.b < l.b) × (s.c < l.c) × (s.d < l.d) × (s.e < l.e) × (s.f < l.f)

-- what stands past the end of the columns
abbrev pub zeros : Six
zeros = record { a = 0; b = 0; c = 0; d = 0; e = 0; f = 0 }

abbrev pub six_at : List ℕ → List ℕ → List ℕ → List ℕ → List ℕ → List ℕ → ℕ → Six
six_at a b c d e f i = record { a = cell a i; b = cell b i; c = cell c i; d = cell d i; e = cell e i; f = cell f i }

abbrev pub SixBelow : Six → List ℕ → List ℕ → List ℕ → List ℕ → List ℕ → List ℕ → Type 0
SixBelow limits a b c d e f = (i : ℕ) → Inside (six_at a b c d e f i) limits

abbrev pub class_limits : Six
class_limits =
    record { a = ClusterBreak.len; b = UseClass.len; c = MyanmarClass.len; d = Category.len; e = WordBreak.len; f = 4 }

abbrev pub mark_limits : Six
mark_limits = record { a = 2; b = 2; c = 2; d = 2; e = 2; f = 2 }

abbrev pub part_limits : Six
part_limits =
    record { a = ClusterBreak.len; b = UseClass.len; c = Category.len; d = ClusterBreak.len; e = UseClass.len; f = Category.len }

-- the columns of classes, marks and parts
pub record Below (t : Text) : Type 0 where
  pub classes : SixBelow class_limits t.records.breaks t.records.uses t.records.myanmars t.records.categories t.records.words t.records.counts
  pub marks : SixBelow mark_limits t.records.semojis t.records.memojis t.records.cemojis t.records.pictographs t.records.selectors t.records.decomposes
  pub parts : SixBelow part_limits t.parts.pbreaks t.parts.puses t.parts.pcategories t.parts.pbreaks t.parts.puses t.parts.pcategories

pub record Passes (t : Text) : Type 0 where
  pub parts : (parser : Parser) → judge_parts parser t.parts ≡ Ok tt
  pub rows : (parser : Parser) → judge_records parser t.records (length t.parts.pscalars) ≡ Ok tt

-- the same for one parser
pub record PassesFor (parser : Parser) (t : Text) : Type 0 where
  pub parts : judge_parts parser t.parts ≡ Ok tt
  pub rows : judge_records parser t.records (length t.parts.pscalars) ≡ Ok tt

-- the verdict's steps after the lengths
abbrev pub each_verdict : Parser → Text → Verdict
each_verdict parser t =
    judge_parts parser t.parts
    ⊳ judge_records parser t.records (length t.parts.pscalars)
    ⊳ judge_signs parser t
