-- What the check says is what the table of SCOPE 5.1 says, and so is what every call says that begins with it and then looks for lines of
-- its own; the same of a run over two columns, as the word run is. Assumes nothing.
use Rattle.std.specs.Prelude.{Ok, Err}
use Prim.Native.Nat.{ℕ, zero, suc, ◌+◌, ◌<◌}
use mathlib.Core.Path.{◌≡◌, refl, sym, ◌∙◌, ap, subst}
use mathlib.Core.Bool.{Bool, true, false, cond, ◌&&◌, ◌||◌, or-false, false≢true}
use mathlib.Core.List.{List, [], ◌∷◌}
use mathlib.Core.Logic.{◌⊎◌, inl, inr, ⊎_elim}
use native.Mathlib.Omega.{arith}
use lib.Dec.{ltb}
use lib.ListN.{length}
use Rattle.basics.proofs.Tests.{both, either}
use Rattle.records.specs.Text.{Text, cell, row_of, part_of, record_lengths, part_lengths}
use Rattle.records.specs.declared.Row.{Row}
use Rattle.records.specs.declared.PartRow.{PartRow}
use Rattle.records.specs.declared.Side.{Side}
use Rattle.records.specs.declared.Side.TheVariants.{Record, Part, Neither}
use Rattle.records.specs.declared.Parser.{Parser}
use Rattle.records.specs.declared.Parser.TheVariants.{Simple, Myanmar, Complex, Khmer}
use Rattle.records.specs.Verdict.{Verdict}
use Rattle.records.specs.Refusals.{is_complex, is_khmer, refusal, refuse, ◌⊳◌, over, too_long, uneven, bad_scalar, outside, part_codes, record_classes, record_marks, bad_run, barred, judge_part, judge_record, judge_sign, judge_sign_at, judge_parts, judge_records, judge_signs, judge_lengths, verdict, judge_marked, marked_verdict, word_verdict}
use Rattle.records.specs.Written.{roomy}
use Rattle.classes.specs.WordBreak as WordBreak
use Rattle.records.specs.Offences.{Line, breaks, rank, Offends, Judges, ByTable, Asks, part_lines, record_lines, length_lines, bad_sign_at, some_from, sign_line, table_of, marked_lines, marked_table_of, room_line, word_table_of}
use Rattle.records.proofs.Tables.{fits, in_order, broken_fits, first_line, first_of, Ordered, by_table}

-- # Verdicts one after the other

pub alone : (v : Verdict) → v ⊳ (Ok tt) ≡ v
alone (Ok _) = refl
alone (Err r) = refl

then_assoc : (a b c : Verdict) → (a ⊳ b) ⊳ c ≡ a ⊳ b ⊳ c
then_assoc (Ok _) b c = refl
then_assoc (Err r) b c = refl

pub over_same : (f g : ℕ → Verdict) → ((i : ℕ) → f i ≡ g i) → (n i : ℕ) → over f i n ≡ over g i n
unfolding over
over_same f g e zero i = refl
over_same f g e (suc n) i = rw (e i, over_same f g e n (i + 1))

over_some : (p : ℕ → Bool) (n i : ℕ) → over (λ k. refuse (p k) 7 Neither 0) i n ≡ refuse (some_from p i n) 7 Neither 0
unfolding over some_from
over_some p zero i = refl
over_some p (suc n) i = go (p i) (over_some p n (i + 1))
  where
    go : (b : Bool) → over (λ k. refuse (p k) 7 Neither 0) (i + 1) n ≡ refuse (some_from p (i + 1) n) 7 Neither 0 → refuse b 7 Neither 0 ⊳ over (λ k. refuse (p k) 7 Neither 0) (i + 1) n ≡ refuse (b || some_from p (i + 1) n) 7 Neither 0
    go true e = refl
    go false e = e

-- # The check

-- the lines about a part, and about a record, are the definition's
part_lines_lem : (parser : Parser) (p : PartRow) (i : ℕ) → first_line (part_lines parser p) Part i ≡ judge_part parser p i
unfolding judge_part
part_lines_lem parser p i =
    ap (λ v. refuse (bad_scalar p.scalar) 3 Part i ⊳ refuse (outside (part_codes p)) 4 Part i ⊳ v) (alone (refuse (barred parser p.scalar p.uses) 6 Part i))

record_lines_lem : (parser : Parser) (parts : ℕ) (r : Row) (i : ℕ) → first_line (record_lines parser parts r) Record i ≡ judge_record parser r parts i
unfolding judge_record
record_lines_lem parser parts r i =
    ap (λ v. refuse (bad_scalar r.scalar) 3 Record i ⊳ refuse (outside (record_classes r) || outside (record_marks r)) 4 Record i ⊳ refuse (bad_run r parts) 5 Record i ⊳ v)
    (alone (refuse (barred parser r.scalar r.uses) 6 Record i))

length_lines_lem : (records parts : List ℕ) → first_line (length_lines records parts) Neither 0 ≡ judge_lengths records parts
unfolding judge_lengths
length_lines_lem records parts =
    ap (λ v. refuse (too_long records || too_long parts) 1 Neither 0 ⊳ v) (alone (refuse (uneven records || uneven parts) 2 Neither 0))

sign_line_lem : (parser : Parser) (t : Text) → refuse (sign_line parser t).broken 7 Neither 0 ≡ judge_signs parser t
unfolding judge_signs judge_sign
sign_line_lem parser t = go (is_khmer parser)
  where
    go : (b : Bool) → refuse (b && some_from (bad_sign_at t) 0 (length t.records.scalars)) 7 Neither 0 ≡ cond b (over (judge_sign_at t) 0 (length t.records.scalars)) (Ok tt)
    go true = sym (over_some (bad_sign_at t) (length t.records.scalars) 0)
    go false = refl

-- four verdicts, and what a call adds
four_then : (a b c d e : Verdict) → a ⊳ b ⊳ c ⊳ d ⊳ e ≡ (a ⊳ b ⊳ c ⊳ d) ⊳ e
four_then a b c d e = sym (then_assoc a (b ⊳ c ⊳ d) e ∙ ap (λ v. a ⊳ v) (then_assoc b (c ⊳ d) e ∙ ap (λ v. b ⊳ v) (then_assoc c d e)))

-- the check's lines, and those that a call adds
table_first : (parser : Parser) (t : Text) (more : List Line) → first_of (table_of parser t more) ≡ verdict parser t ⊳ first_line more Neither 0
unfolding verdict judge_parts judge_records
table_first parser t more =
    rw (
      length_lines_lem (record_lengths t.records) (part_lengths t.parts),
      over_same (λ i. first_line (part_lines parser (part_of t.parts i)) Part i) (λ i. judge_part parser (part_of t.parts i) i) (λ i. part_lines_lem parser (part_of t.parts i) i) (length t.parts.pscalars) 0,
      over_same (λ i. first_line (record_lines parser (length t.parts.pscalars) (row_of t.records i)) Record i) (λ i. judge_record parser (row_of t.records i) (length t.parts.pscalars) i) (λ i. record_lines_lem parser (length t.parts.pscalars) (row_of t.records i) i) (length t.records.scalars) 0,
      sign_line_lem parser t,
    )
    (four_then (judge_lengths (record_lengths t.records) (part_lengths t.parts)) (judge_parts parser t.parts) (judge_records parser t.records (length t.parts.pscalars)) (judge_signs parser t) (first_line more Neither 0))

-- 6 is of complex and 7 of Khmer alone: of the check, and of every call that begins with it
is_complex_lem : (parser : Parser) → is_complex parser ≡ true → (parser ≡ Complex) ⊎ (parser ≡ Khmer)
is_complex_lem Simple e = absurd (false≢true e)
is_complex_lem Myanmar e = absurd (false≢true e)
is_complex_lem Complex e = inl refl
is_complex_lem Khmer e = inr refl

is_khmer_lem : (parser : Parser) → is_khmer parser ≡ true → parser ≡ Khmer
is_khmer_lem Simple e = absurd (false≢true e)
is_khmer_lem Myanmar e = absurd (false≢true e)
is_khmer_lem Complex e = absurd (false≢true e)
is_khmer_lem Khmer e = refl

barred_complex : (parser : Parser) (scalar class : ℕ) → (barred parser scalar class || false) ≡ true → is_complex parser ≡ true
unfolding barred
barred_complex parser scalar class e = (both (is_complex parser) _ (sym (or-false (barred parser scalar class)) ∙ e)).0

module _ (numbers : List ℕ) (parser : Parser) (t : Text) (more : List Line) (ordered : Ordered numbers (table_of parser t more)) where
  -- what a call adds are 8 and 9
  added : (number : ℕ) → rank number < 10 → breaks more number ≡ true → ⊥
  added number h b =
      omega (arith, (broken_fits numbers Neither 10 12 more number (both (fits numbers Neither 9 12 7) (in_order numbers Neither 10 12 more) ordered.after).1 b).from)

  offence_six : (side : Side) (index : ℕ) → Offends (table_of parser t more) (refusal 6 side index) → is_complex parser ≡ true
  offence_six Neither index (i, b) = absurd (added 6 (omega arith) b)
  offence_six Part index (i, b) = barred_complex parser _ _ b
  offence_six Record index (i, b) = barred_complex parser _ _ b

  offence_seven : (side : Side) (index : ℕ) → Offends (table_of parser t more) (refusal 7 side index) → is_khmer parser ≡ true
  offence_seven Neither index (i, b) =
      ⊎_elim (λ h. (both (is_khmer parser) (some_from (bad_sign_at t) 0 (length t.records.scalars)) h).0) (λ h. absurd (added 7 (omega arith) h))
      (either (sign_line parser t).broken (breaks more 7) b)
  offence_seven Part index (i, b) = absurd (false≢true b)
  offence_seven Record index (i, b) = absurd (false≢true b)

  judges_asks : (v : Verdict) → Judges (Offends (table_of parser t more)) v → Asks parser v
  judges_asks (Ok _) j = record { six = λ e. absurd (omega arith); seven = λ e. absurd (omega arith) }
  judges_asks (Err r) j =
      let offends : ℕ → Type 0 = λ n. Offends (table_of parser t more) (refusal n r.side r.index) in
      record {
        six = λ e. is_complex_lem parser (offence_six r.side r.index (subst offends e j.0));
        seven = λ e. is_khmer_lem parser (offence_seven r.side r.index (subst offends e j.0));
      }

-- a call that begins with the check and then looks for lines of its own
pub call_by_table : (numbers : List ℕ) (parser : Parser) (t : Text) (more : List Line) → Ordered numbers (table_of parser t more) → (v : Verdict) → v ≡ verdict parser t ⊳ first_line more Neither 0 → ByTable numbers (table_of parser t more) v × Asks parser v
call_by_table numbers parser t more ordered v e =
    let told : ByTable numbers (table_of parser t more) v = by_table numbers (table_of parser t more) ordered v (e ∙ sym (table_first parser t more)) in
    (told, judges_asks numbers parser t more ordered v told.first)

-- The check says what the table says.
pub check_by_table : (parser : Parser) (t : Text) → ByTable (1 ∷ 2 ∷ 3 ∷ 4 ∷ 5 ∷ 6 ∷ 7 ∷ []) (table_of parser t []) (verdict parser t) × Asks parser (verdict parser t)
check_by_table parser t =
    call_by_table _ parser t [] (record { before = refl; parts = λ i. refl; records = λ i. refl; after = refl }) (verdict parser t) (sym (alone (verdict parser t)))

-- # A run over two columns, the classes of one list and marks

module _ (len : ℕ) (classes marks : List ℕ) where
  marked_lines_lem : (i : ℕ) → first_line (marked_lines len classes marks i) Record i ≡ judge_marked len (cell classes i) (cell marks i) i
  unfolding judge_marked
  marked_lines_lem i = alone _

  marked_table_first : (more : List Line) → first_of (marked_table_of len classes marks more) ≡ marked_verdict len classes marks ⊳ first_line more Neither 0
  unfolding marked_verdict over
  marked_table_first more =
      rw (
        length_lines_lem (length classes ∷ length marks ∷ []) [],
        over_same (λ i. first_line (marked_lines len classes marks i) Record i) (λ i. judge_marked len (cell classes i) (cell marks i) i) marked_lines_lem (length classes) 0,
      )
      (sym (then_assoc (judge_lengths (length classes ∷ length marks ∷ []) []) (over (λ i. judge_marked len (cell classes i) (cell marks i) i) 0 (length classes)) (first_line more Neither 0)))

  -- Its check says what the table says: 1, 2 and 4.
  pub marked_by_table : ByTable (1 ∷ 2 ∷ 4 ∷ []) (marked_table_of len classes marks []) (marked_verdict len classes marks)
  marked_by_table =
      by_table _ (marked_table_of len classes marks []) (record { before = refl; parts = λ i. refl; records = λ i. refl; after = refl }) (marked_verdict len classes marks)
      (sym (marked_table_first [] ∙ alone (marked_verdict len classes marks)))

  -- The run too: 1, 2, 4 and 9.
  pub marked_run_by_table : (room : ℕ) → ByTable (1 ∷ 2 ∷ 4 ∷ 9 ∷ []) (marked_table_of len classes marks (room_line classes room ∷ [])) (roomy (marked_verdict len classes marks) (length classes) room)
  marked_run_by_table room =
      by_table _ (marked_table_of len classes marks (room_line classes room ∷ [])) (record { before = refl; parts = λ i. refl; records = λ i. refl; after = refl })
      (roomy (marked_verdict len classes marks) (length classes) room)
      (ap (λ v. marked_verdict len classes marks ⊳ v) (sym (alone (refuse (ltb room (length classes)) 9 Neither 0)))
      ∙ sym (marked_table_first (room_line classes room ∷ [])))

-- The same of the word run's own check.
pub check_words_by_table : (words pictographs : List ℕ) → ByTable (1 ∷ 2 ∷ 4 ∷ []) (word_table_of words pictographs []) (word_verdict words pictographs)
check_words_by_table words pictographs = marked_by_table WordBreak.len words pictographs
