-- How a reading comes out. Assumes nothing.
use Rattle.std.specs.Prelude.{Ok, Err}
use Prim.Native.Nat.{ℕ, ◌+◌, ◌-◌, ◌<◌, ◌≤◌, min}
use mathlib.Core.Path.{◌≡◌, refl, sym, ◌∙◌, ap}
use mathlib.Core.Bool.{◌||◌}
use mathlib.Core.List.{List, ◌++◌}
use native.Mathlib.Nat.{le_trans, min-le_left, min-le_right}
use native.Mathlib.Omega.{arith}
use lib.Dec.{leb}
use lib.ListN.{length, length-append}
use borrow.Author.Tests.{lt-ltb, le-ltb, le-leb, lt-leb, leb-true, leb-false}
use Rattle.basics.proofs.Tests.{by_test}
use Rattle.cases.specs.Spans.{span}
use Rattle.records.specs.Refusals.{over}
use Rattle.records.specs.declared.Refusal.{Refusal}
use Rattle.records.specs.Verdict.{Verdict}
use Rattle.records.proofs.Judged.{over_same}
use Rattle.properties.specs.declared.File.{File}
use Rattle.properties.specs.declared.Ruling.{Ruling}
use Rattle.properties.specs.Rulings.{ruling_of}
use Rattle.properties.specs.Ranges.{Ranges, ranges}
use Rattle.properties.specs.Reading.{Held, held_from, said, refused_at, judge_ruling, cells_of, judge_line, line_count, read_verdict, put_all, stored_in, read_into, read_ranges, HasRead}
use Rattle.properties.specs.Inner.{Reach, met_said, judge_met, judge_free, Readable, Collected, verdict_of, Collects}
use Rattle.properties.proofs.Insertions.{met_append, held_length}
use Rattle.properties.proofs.Turns.{met_list}

-- the cells of the shortest column are in each
pub cells_reach : (n : ℕ) (firsts lasts codes : List ℕ) → n ≤ cells_of (length firsts) (length lasts) (length codes) → Reach n firsts lasts codes
unfolding cells_of
cells_reach n firsts lasts codes h =
    let rest : n ≤ min (length lasts) (length codes) = le_trans h (min-le_right (length firsts) (min (length lasts) (length codes))) in
    record {
      firsts_reach = le_trans h (min-le_left (length firsts) (min (length lasts) (length codes)));
      lasts_reach = le_trans rest (min-le_left (length lasts) (length codes));
      codes_reach = le_trans rest (min-le_right (length lasts) (length codes));
    }

pub readable_reach : (bytes firsts lasts codes : List ℕ) (held free : ℕ) → Readable bytes firsts lasts codes held free → (n : ℕ) → n ≤ free → Reach (held + n) firsts lasts codes
readable_reach bytes firsts lasts codes held free lent n h = cells_reach (held + n) firsts lasts codes (omega (arith, lent.cells))

-- the free cells are those that are not held
free_cells : (held free n : ℕ) → leb (held + free) (n + held) ≡ leb free n
free_cells held free n =
    by_test (leb free n)
    (λ t. let l : held + free ≤ n + held = omega (arith, leb-true free n t) in le-leb (held + free) (n + held) l ∙ sym t)
    (λ t. let l : n + held < held + free = omega (arith, leb-false free n t) in lt-leb (held + free) (n + held) l ∙ sym t)

ruling_free : (ruling : Ruling) (said held : List Held) (cells number : ℕ) → judge_ruling ruling (said ++ held) cells number ≡ judge_met ruling (met_said said ruling || met_said held ruling) (leb cells (length (said ++ held))) number
unfolding met_said
ruling_free Ruling.Nothing said held cells number = refl
ruling_free (Ruling.Refused refused) said held cells number = refl
ruling_free (Ruling.Range first last code) said held cells number = rw (met_append first last said held)

module _ (file : File) (bytes firsts lasts codes : List ℕ) (held free : ℕ) (lent : Readable bytes firsts lasts codes held free) where
  r : Ranges
  r = ranges firsts lasts codes held

  line_free : (k : ℕ) → judge_line file (ranges firsts lasts codes held) bytes k ≡ judge_free file bytes firsts lasts held free k
  unfolding judge_line judge_free
  line_free k =
      ruling_free (ruling_of file (span 10 k bytes)) (said file bytes k) (held_from firsts lasts codes 0 held) (cells_of (length firsts) (length lasts) (length codes)) (k + 1)
      ∙ rw (
        ← lent.cells,
        length-append (said file bytes k) (held_from firsts lasts codes 0 held),
        held_length firsts lasts codes 0 held,
        free_cells held free (length (said file bytes k)),
        ← met_list firsts lasts codes held (ruling_of file (span 10 k bytes)),
      )

  lines_free : over (judge_free file bytes firsts lasts held free) 0 (line_count bytes) ≡ read_verdict file (ranges firsts lasts codes held) bytes
  unfolding read_verdict
  lines_free =
      let l : held ≤ cells_of (length firsts) (length lasts) (length codes) = omega (arith, lent.cells) in
      rw (le-ltb 65536 (length bytes) lent.short, le-ltb (cells_of (length firsts) (length lasts) (length codes)) held l)
      (over_same (judge_free file bytes firsts lasts held free) (judge_line file (ranges firsts lasts codes held) bytes) (λ k. sym (line_free k)) (line_count bytes) 0)

  module _ (c : Collected) (newFirsts newLasts newCodes : List ℕ) (got : Collects file bytes firsts lasts held free c newFirsts newLasts newCodes) where
    verdict_is : verdict_of c ≡ read_verdict file (ranges firsts lasts codes held) bytes
    verdict_is = got.judged ∙ lines_free

    pub lines_refused : (x : Refusal) → c ≡ Err x → HasRead file (ranges firsts lasts codes held) bytes (record { verdict = Err x; held = held }) firsts lasts codes
    unfolding read_ranges
    lines_refused x e = let q : Err x ≡ read_verdict file (ranges firsts lasts codes held) bytes = ap verdict_of (sym e) ∙ verdict_is in record { judged = q; held = rw (sym q) }

    pub lines_stored : (n : ℕ) → c ≡ Ok n → (firsts' lasts' codes' : List ℕ) → ranges firsts' lasts' codes' (held + n) ≡ stored_in (ranges firsts lasts codes held) (put_all (held_from firsts lasts codes 0 held) (held_from newFirsts newLasts newCodes 0 n)) → HasRead file (ranges firsts lasts codes held) bytes (record { verdict = Ok tt; held = held + n }) firsts' lasts' codes'
    unfolding read_ranges
    lines_stored n e firsts' lasts' codes' s =
        record {
          judged = ap verdict_of (sym e) ∙ verdict_is;
          held =
              s
              ∙ ap (λ hs. stored_in (ranges firsts lasts codes held) (put_all (held_from firsts lasts codes 0 held) hs)) (got.noted n e)
              ∙ ap (λ v. read_into v file (ranges firsts lasts codes held) bytes) (ap verdict_of (sym e) ∙ verdict_is);
        }

-- refused before any line
module _ (file : File) (firsts lasts codes : List ℕ) (held : ℕ) (bytes : List ℕ) where
  pub read_long : 65536 < length bytes → (v : Verdict) → v ≡ refused_at 1 0 → HasRead file (ranges firsts lasts codes held) bytes (record { verdict = v; held = held }) firsts lasts codes
  unfolding read_verdict read_ranges
  read_long h v e = rw (e) (record { judged = rw (lt-ltb 65536 (length bytes) h); held = rw (lt-ltb 65536 (length bytes) h) })

  module _ (h : length bytes ≤ 65536) (n : ℕ) (e : n ≡ cells_of (length firsts) (length lasts) (length codes)) where
    pub read_over : n < held → (v : Verdict) → v ≡ refused_at 14 0 → HasRead file (ranges firsts lasts codes held) bytes (record { verdict = v; held = held }) firsts lasts codes
    unfolding read_verdict read_ranges
    read_over l v q =
        rw q
        (record {
          judged = rw (le-ltb 65536 (length bytes) h, ← e, lt-ltb n held l);
          held = rw (le-ltb 65536 (length bytes) h, ← e, lt-ltb n held l);
        })

    pub read_lines : held ≤ n → Readable bytes firsts lasts codes held (n - held)
    read_lines l = record { short = h; cells = omega (arith, e) }
