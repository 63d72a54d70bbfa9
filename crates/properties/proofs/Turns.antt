-- The lines in turn: what is noted and judged of them so far. Assumes nothing.
use Rattle.std.specs.Prelude.{Ok, Err}
use Prim.Native.Nat.{ℕ, zero, suc, ◌+◌, ◌-◌, ◌<◌, ◌≤◌}
use mathlib.Core.Path.{◌≡◌, refl, sym, ◌∙◌, ap}
use mathlib.Core.Bool.{Bool, true, false, ◌||◌}
use mathlib.Core.List.{List, []}
use native.Mathlib.Numerals.{add-one}
use native.Mathlib.Omega.{arith}
use lib.Dec.{leb, ltb}
use lib.ListN.{length, drop, drop_of_length-le, length-drop}
use lib.Seq.{length-take-le, drop-nil}
use borrow.Author.Tests.{leb-false, ltb-true, ltb-false}
use Rattle.basics.proofs.Tests.{by_test, if_intro}
use Rattle.cases.specs.Spans.{before, up_to, after, next_from, rest, span}
use Rattle.cases.proofs.Splits.{before_within, rest_more, span_read}
use Rattle.records.specs.Text.{cell}
use Rattle.records.specs.declared.Refusal.{Refusal}
use Rattle.records.specs.Verdict.{Verdict}
use Rattle.records.proofs.Over.{Rest, rest_all, rest_refused, rest_next}
use Rattle.records.proofs.Verdicts.{each_over}
use Rattle.properties.specs.declared.File.{File}
use Rattle.properties.specs.declared.Ruling.{Ruling}
use Rattle.properties.specs.Lines.{leading, ending, untailed, trimmed, without_CR, body_of, line_of}
use Rattle.properties.specs.Rulings.{ruling_of}
use Rattle.properties.specs.Reading.{held_from, said_by, said, share, met, line_count}
use Rattle.properties.specs.Inner.{some, met_in, met_by, met_said, judge_met, judge_free, NotedBy, Collected, Collects}
use Rattle.properties.proofs.Insertions.{held_length}
use Rattle.properties.proofs.Long.{said_bytes, said_one}

met_rows : (firsts lasts codes : List ℕ) (n first last : ℕ) → met_in firsts lasts n first last ≡ met first last (held_from firsts lasts codes 0 n)
unfolding met_in some met held_from
met_rows firsts lasts codes zero first last = refl
met_rows firsts lasts codes (suc n) first last = let z : 0 + n ≡ n = omega arith in rw z (ap (λ t. share first last (cell firsts n) (cell lasts n) || t) (met_rows firsts lasts codes n first last))

-- whether a line's range meets one of those, by columns and by their list
pub met_list : (firsts lasts codes : List ℕ) (n : ℕ) (ruling : Ruling) → met_by firsts lasts n ruling ≡ met_said (held_from firsts lasts codes 0 n) ruling
unfolding met_by met_said
met_list firsts lasts codes n Ruling.Nothing = refl
met_list firsts lasts codes n (Ruling.Refused refused) = refl
met_list firsts lasts codes n (Ruling.Range first last code) = met_rows firsts lasts codes n first last

-- a line that is accepted has found a cell
accepted_fits : (ruling : Ruling) (met : Bool) (free n number : ℕ) → judge_met ruling met (leb free n) number ≡ Ok tt → n ≤ free → length (said_by ruling) + n ≤ free
accepted_fits Ruling.Nothing met free n number e h = omega arith
accepted_fits (Ruling.Refused refused) met free n number e h = omega arith
accepted_fits (Ruling.Range first last code) true free n number e h = absurd (let z : ◌≡◌ {A = ℕ} 0 1 = cc in omega arith)
accepted_fits (Ruling.Range first last code) false free n number e h =
    by_test (leb free n)
    (λ t. absurd (let z : ◌≡◌ {A = ℕ} 0 1 = cc (rw t at e) in omega arith))
    (λ t. omega (arith, leb-false free n t))

-- where the next line begins
module _ (bytes : List ℕ) (at : ℕ) (h : at < length bytes) where
  pub record Next (part : List ℕ) (next : ℕ) : Type 0 where
    pub inside : next ≤ length bytes
    pub far : at + length part ≤ next
    pub farther : next < length bytes → at + length part + 1 ≤ next
    pub onward : at < next

  next_line : Next (up_to 10 (drop at bytes)) (next_from 10 at bytes)
  unfolding up_to next_from
  next_line =
      let few : before 10 (drop at bytes) ≤ length (drop at bytes) = before_within 10 (drop at bytes) in
      let size : _ = length-take-le (before 10 (drop at bytes)) (drop at bytes) few in
      if_intro (Next (up_to 10 (drop at bytes))) (ltb (at + before 10 (drop at bytes)) (length bytes)) (at + before 10 (drop at bytes) + 1) (at + before 10 (drop at bytes))
      (λ t.
      let l : _ = ltb-true (at + before 10 (drop at bytes)) (length bytes) t in
      record { inside = omega arith; far = omega arith; farther = λ m. omega arith; onward = omega arith })
      (λ t.
      let l : _ = ltb-false (at + before 10 (drop at bytes)) (length bytes) t in
      let d : _ = length-drop at bytes in
      record { inside = omega arith; far = omega arith; farther = λ m. absurd (omega arith); onward = omega arith })

  pub next_is_lem : (part : List ℕ) (next : ℕ) → part ≡ up_to 10 (drop at bytes) → next ≡ next_from 10 at bytes → Next part next
  next_is_lem part next p n = rw (p, n) next_line

module _ (file : File) (bytes firsts lasts : List ℕ) (held free : ℕ) where
  -- before the k-th line, which begins at `at`; n ranges are noted, each of a line of four bytes with its LF, which the last may lack
  pub record Turn (newFirsts newLasts newCodes : List ℕ) (at k n : ℕ) : Type 0 where
    pub left : drop at bytes ≡ rest 10 k bytes
    pub counted : k ≤ at
    pub inside : at ≤ length bytes
    pub noted : held_from newFirsts newLasts newCodes 0 n ≡ said file bytes k
    pub judged : Rest (judge_free file bytes firsts lasts held free) (line_count bytes) k
    pub bytes_most : n + n + n + n ≤ at + 1
    pub bytes_before_lem : at < length bytes → n + n + n + n ≤ at
    pub fits : n ≤ free

  pub turns_start : (newFirsts newLasts newCodes : List ℕ) → Turn newFirsts newLasts newCodes 0 0 0
  unfolding rest said held_from
  turns_start newFirsts newLasts newCodes =
      record {
        left = refl;
        counted = omega arith;
        inside = omega arith;
        noted = refl;
        judged = rest_all (judge_free file bytes firsts lasts held free) (line_count bytes);
        bytes_most = omega arith;
        bytes_before_lem = λ h. omega arith;
        fits = omega arith;
      }

  -- the k-th line; v is its verdict
  module _ (newFirsts newLasts newCodes : List ℕ) (at k n : ℕ) (turn : Turn newFirsts newLasts newCodes at k n) (h : at < length bytes) (part : List ℕ) (p : part ≡ up_to 10 (drop at bytes)) (ruling : Ruling) (r : ruling ≡ ruling_of file part) where
    cut : part ≡ span 10 k bytes
    cut = span_read 10 bytes k at turn.left part p

    ruled_line : ruling ≡ ruling_of file (span 10 k bytes)
    ruled_line = r ∙ ap (ruling_of file) cut

    noted_count : n ≡ length (said file bytes k)
    noted_count = sym (held_length newFirsts newLasts newCodes 0 n) ∙ ap length turn.noted

    module _ (before earlier : Bool) (b : before ≡ met_by firsts lasts held ruling) (e : earlier ≡ met_by newFirsts newLasts n ruling) (v : Verdict) (j : v ≡ judge_met ruling (earlier || before) (leb free n) (k + 1)) where
      earlier_said : earlier ≡ met_said (said file bytes k) ruling
      earlier_said = e ∙ met_list newFirsts newLasts newCodes n ruling ∙ ap (λ hs. met_said hs ruling) turn.noted

      line_judged_lem : v ≡ judge_free file bytes firsts lasts held free k
      unfolding judge_free
      line_judged_lem = j ∙ rw (b, earlier_said, ruled_line, noted_count)

      pub turn_refused : (x : Refusal) → v ≡ Err x → length bytes ≤ 65536 → (r' : Collected) → r' ≡ Err x → Collects file bytes firsts lasts held free r' newFirsts newLasts newCodes
      turn_refused x q short r' f =
          rw f (record {
            judged = sym q ∙ rest_refused (judge_free file bytes firsts lasts held free) (line_count bytes) k turn.judged v line_judged_lem x (omega (arith, turn.counted)) q;
            noted = λ m a. absurd (let z : ◌≡◌ {A = ℕ} 0 1 = cc in omega arith);
            few = λ m a. absurd (let z : ◌≡◌ {A = ℕ} 0 1 = cc in omega arith);
            fits = λ m a. absurd (let z : ◌≡◌ {A = ℕ} 0 1 = cc in omega arith);
          })

      pub turn_goes : v ≡ Ok tt → (m next : ℕ) (firsts' lasts' codes' : List ℕ) → NotedBy ruling newFirsts newLasts newCodes n m firsts' lasts' codes' → next ≡ next_from 10 at bytes → Turn firsts' lasts' codes' next (k + 1) m
      unfolding said
      turn_goes q m next firsts' lasts' codes' note x =
          let far : Next bytes at h part next = next_is_lem bytes at h part next p x in
          let size : _ = said_bytes file part in
          let one : _ = said_one (ruling_of file part) in
          let same : length (said_by ruling) ≡ length (said_by (ruling_of file part)) = ap (λ y. length (said_by y)) r in
          record {
            left = rest_more 10 bytes k at turn.left next x;
            counted = omega (arith, turn.counted, far.onward);
            inside = far.inside;
            noted = note.noted ∙ rw (add-one k, turn.noted, ruled_line);
            judged = rest_next (judge_free file bytes firsts lasts held free) (line_count bytes) k turn.judged v line_judged_lem (omega (arith, turn.counted)) q;
            bytes_most = omega (arith, note.counted, turn.bytes_before_lem h, far.far);
            bytes_before_lem = λ l. omega (arith, note.counted, turn.bytes_before_lem h, far.farther l);
            fits = rw note.counted (accepted_fits ruling (earlier || before) free n (k + 1) (sym j ∙ q) turn.fits);
          }

  -- # Past the last line

  nothing_left : (k j : ℕ) → rest 10 k bytes ≡ [] → rest 10 (j + k) bytes ≡ []
  unfolding rest after
  nothing_left k zero e = let z : 0 + k ≡ k = omega arith in rw z e
  nothing_left k (suc j) e = let z : suc j + k ≡ suc (j + k) = omega arith in rw (z, nothing_left k j e) (drop-nil (suc (before 10 [])))

  module _ (k : ℕ) (e : rest 10 k bytes ≡ []) (i : ℕ) (h : k ≤ i) where
    empty_line : span 10 i bytes ≡ []
    unfolding span up_to before
    empty_line = let z : i ≡ i - k + k = omega arith in rw (z, nothing_left k (i - k) e)

    empty_ruling : ruling_of file (span 10 i bytes) ≡ Ruling.Nothing
    unfolding ruling_of line_of body_of without_CR trimmed untailed leading ending up_to before
    empty_ruling = rw empty_line

    empty_judged : judge_free file bytes firsts lasts held free i ≡ Ok tt
    unfolding judge_free
    empty_judged = rw empty_ruling

  empty_said : (k : ℕ) → rest 10 k bytes ≡ [] → (j : ℕ) → said file bytes (j + k) ≡ said file bytes k
  unfolding said
  empty_said k e zero = let z : 0 + k ≡ k = omega arith in rw z
  empty_said k e (suc j) = let z : suc j + k ≡ suc (j + k) = omega arith in rw (z, empty_ruling k e (j + k) (omega arith)) (empty_said k e j)

  pub turns_end : (newFirsts newLasts newCodes : List ℕ) (at k n : ℕ) → Turn newFirsts newLasts newCodes at k n → length bytes ≤ at → length bytes ≤ 65536 → Collects file bytes firsts lasts held free (Ok n) newFirsts newLasts newCodes
  turns_end newFirsts newLasts newCodes at k n turn h short =
      let over_all : rest 10 k bytes ≡ [] = sym turn.left ∙ drop_of_length-le bytes h in
      let lines : line_count bytes - k + k ≡ line_count bytes = omega (arith, turn.counted, turn.inside) in
      record {
        judged = sym (each_over (judge_free file bytes firsts lasts held free) (line_count bytes - k) k (λ i l m. empty_judged k over_all i l)) ∙ turn.judged;
        noted = λ m a. let e : n ≡ m = cc in rw (← e) (turn.noted ∙ sym (empty_said k over_all (line_count bytes - k)) ∙ ap (said file bytes) lines);
        few = λ m a. let e : n ≡ m = cc in omega (arith, turn.bytes_most, turn.inside);
        fits = λ m a. let e : n ≡ m = cc in omega (arith, turn.fits);
      }
