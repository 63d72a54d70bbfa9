-- What an accepted reading leaves in the range columns. Assumes nothing.
use Rattle.cases.specs.Numbers.{Number}
use Rattle.std.specs.Prelude.{Ok, Some, None}
use Prim.Native.Nat.{ℕ, zero, suc, ◌+◌, ◌<◌, ◌≤◌}
use mathlib.Core.Path.{◌≡◌, refl, sym, ◌∙◌, ap, subst}
use mathlib.Core.Bool.{false, cond}
use mathlib.Core.List.Memᴰ
use mathlib.Core.List.{List, ◌++◌, Memᴰ}
use mathlib.Core.Logic.{◌↔◌, ◌⊎◌, inl, inr, ⊎_elim}
use native.Mathlib.Nat.{eq-or-lt_of_le, zero-add}
use native.Mathlib.Omega.{arith}
use lib.Dec.{eqb, leb, ltb}
use lib.ListN.{length, length-append}
use borrow.Author.Tests.{leb-true, leb-false, ltb-false, le-ltb}
use Rattle.basics.proofs.Tests.{if_intro}
use Rattle.cases.specs.Spans.{span}
use Rattle.records.specs.Text.{cell}
use Rattle.records.specs.Refusals.{refuse, ◌⊳◌, over}
use Rattle.records.specs.declared.Side.TheVariants.{Neither}
use Rattle.records.proofs.Unique.{unique}
use Rattle.records.proofs.Verdicts.{unrefused, passes, over_each, each_over}
use Rattle.properties.specs.declared.File.{File}
use Rattle.properties.specs.declared.Filled.{Filled}
use Rattle.properties.specs.Names.{Value}
use Rattle.properties.specs.declared.Line.{Line}
use Rattle.properties.specs.declared.Ruling.{Ruling}
use Rattle.properties.specs.Names.{code_of}
use Rattle.properties.specs.Lines.{body_of, scalars_of, value_of, no_value, first_of, last_of, range_of, line_of, value_in}
use Rattle.properties.specs.Rulings.{ruled, ruling_of}
use Rattle.properties.specs.Ranges.{Ranges, ranges, count_of, count, is_in, code_in, InOrder}
use Rattle.properties.specs.Reading.{Held, holding, the_first, the_last, the_code, held_from, held_of, said_by, said, met, judge_ruling, cells_of, room, judge_line, line_count, read_verdict, put_all, stored_in, read_into, read_ranges, HasRead}
use Rattle.properties.proofs.Answers.{apart_all, one_range, in_no_range}
use Rattle.properties.proofs.Hits.{in_both}
use Rattle.properties.proofs.Insertions.{put_all_length, put_either, put_kept, put_new, Falls, Fits, put_falls, falls_upward, Among, falls_same, stored_length, stored_back, range_at, held_length, row_in, row_of}

-- # What the lines say

-- a line says this range
abbrev pub Says : File → List ℕ → ℕ → Held → Type 0
Says file bytes j h = ruling_of file (span 10 j bytes) ≡ Ruling.Range h.first h.last h.code

says_it : (x : Ruling) (h : Held) → Memᴰ h (said_by x) → x ≡ Ruling.Range h.first h.last h.code
says_it Ruling.Nothing h m = absurd (Memᴰ.not-nil m)
says_it (Ruling.Refused refused) h m = absurd (Memᴰ.not-nil m)
says_it (Ruling.Range first last code) h m =
    let e : h ≡ holding first last code = Memᴰ.eq_of_singleton m in
    ap (λ (k : Held). Ruling.Range k.first k.last k.code) (sym e)

it_says : (x : Ruling) (h : Held) → x ≡ Ruling.Range h.first h.last h.code → Memᴰ h (said_by x)
it_says x h e = subst (λ (y : Ruling). Memᴰ h (said_by y)) (sym e) (Memᴰ.head refl)

module _ (file : File) (bytes : List ℕ) where
  -- what the first k lines hold is what one of them says
  pub said_line : (k : ℕ) (h : Held) → Memᴰ h (said file bytes k) → (j : ℕ) × (j < k) × Says file bytes j h
  unfolding said
  said_line zero h m = absurd (Memᴰ.not-nil m)
  said_line (suc k) h m =
      ⊎_elim (λ q. (k, omega arith, says_it (ruling_of file (span 10 k bytes)) h q))
      (λ q. let t : _ = said_line k h q in (t.0, omega (arith, t.1), t.2)) (Memᴰ.append_cases (said_by (ruling_of file (span 10 k bytes))) m)

  -- and whatever one of them says they hold
  pub line_said : (k : ℕ) (h : Held) (j : ℕ) → j < k → Says file bytes j h → Memᴰ h (said file bytes k)
  unfolding said
  line_said zero h j l e = absurd (omega arith)
  line_said (suc k) h j l e =
      let most : j ≤ k = omega arith in
      ⊎_elim
      (λ q. Memᴰ.append_left (said file bytes k) (it_says (ruling_of file (span 10 k bytes)) h (subst (λ (n : ℕ). Says file bytes n h) q e)))
      (λ q. Memᴰ.append_right (said_by (ruling_of file (span 10 k bytes))) (line_said k h j q e)) (eq-or-lt_of_le most)

-- "a range that runs downward is malformed": what a line says runs upward
range_upward : (a b : Number) (first last : ℕ) → range_of a b ≡ Line.Range first last → first ≤ last
range_upward None b first last e = absurd (let z : ◌≡◌ {A = ℕ} 0 1 = cc in omega arith)
range_upward (Some f) None first last e = absurd (let z : ◌≡◌ {A = ℕ} 0 1 = cc in omega arith)
range_upward (Some f) (Some l) first last e =
    if_intro (λ x. x ≡ Line.Range first last → first ≤ last) (leb f l) (Line.Range f l) Line.Malformed
    (λ t q. let a : f ≡ first = cc in let b : l ≡ last = cc in omega (arith, leb-true f l t))
    (λ t q. absurd (let z : ◌≡◌ {A = ℕ} 0 1 = cc in omega arith))
    e

line_upward : (line : List ℕ) (first last : ℕ) → line_of line ≡ Line.Range first last → first ≤ last
unfolding line_of
line_upward line first last e =
    if_intro (λ x. x ≡ Line.Range first last → first ≤ last) (eqb (length (body_of line)) 0) Line.Skipped
    (cond (no_value (value_of (body_of line))) Line.Malformed (range_of (first_of (scalars_of (body_of line))) (last_of (scalars_of (body_of line)))))
    (λ t q. absurd (let z : ◌≡◌ {A = ℕ} 0 1 = cc in omega arith))
    (λ t. if_intro (λ x. x ≡ Line.Range first last → first ≤ last) (no_value (value_of (body_of line))) Line.Malformed (range_of (first_of (scalars_of (body_of line))) (last_of (scalars_of (body_of line))))
    (λ u q. absurd (let z : ◌≡◌ {A = ℕ} 0 1 = cc in omega arith))
    (λ u q. range_upward (first_of (scalars_of (body_of line))) (last_of (scalars_of (body_of line))) first last q))
    e

ruled_line : (x : Line) (v : Value) (first last code : ℕ) → ruled x v ≡ Ruling.Range first last code → x ≡ Line.Range first last
ruled_line Line.Skipped v first last code e = absurd (let z : ◌≡◌ {A = ℕ} 0 1 = cc in omega arith)
ruled_line Line.Malformed v first last code e = absurd (let z : ◌≡◌ {A = ℕ} 0 1 = cc in omega arith)
ruled_line (Line.Range f l) None first last code e = absurd (let z : ◌≡◌ {A = ℕ} 0 1 = cc in omega arith)
ruled_line (Line.Range f l) (Some c) first last code e = cc

pub ruling_upward : (file : File) (line : List ℕ) (first last code : ℕ) → ruling_of file line ≡ Ruling.Range first last code → first ≤ last
unfolding ruling_of
ruling_upward file line first last code e = line_upward line first last (ruled_line (line_of line) (code_of file (value_in line)) first last code e)

-- # Acceptance

-- what an accepted reading asks for: 1, then a held number above the cells, then each line
pub record Passed (file : File) (r : Ranges) (bytes : List ℕ) : Type 0 where
  pub short : length bytes ≤ 65536
  pub cells : r.held ≤ room r
  pub lines : (k : ℕ) → k < line_count bytes → judge_line file r bytes k ≡ Ok tt

-- what the verdict on one line says of a range
pub range_passes : (x : Ruling) (first last code : ℕ) (before : List Held) (cells number : ℕ) → x ≡ Ruling.Range first last code → judge_ruling x before cells number ≡ Ok tt → (met first last before ≡ false) × (length before < cells)
range_passes x first last code before cells number e h =
    let p : judge_ruling (Ruling.Range first last code) before cells number ≡ (Ok tt) = rw e at h in
    let b : _ = passes (refuse (met first last before) 13 Neither number) (refuse (leb cells (length before)) 14 Neither number) p in
    (unrefused (met first last before) 13 Neither number b.0, leb-false cells (length before) (unrefused (leb cells (length before)) 14 Neither number b.1))

fits_more : (x : Ruling) (hs xs : List Held) (cells number : ℕ) → ((first last code : ℕ) → x ≡ Ruling.Range first last code → first ≤ last) → judge_ruling x (xs ++ hs) cells number ≡ Ok tt → Fits hs xs → Fits hs (said_by x ++ xs)
fits_more Ruling.Nothing hs xs cells number up e f = f
fits_more (Ruling.Refused refused) hs xs cells number up e f = f
fits_more (Ruling.Range first last code) hs xs cells number up e f =
    (up first last code refl, (range_passes (Ruling.Range first last code) first last code (xs ++ hs) cells number refl e).0, f)

room_more : (x : Ruling) (hs xs : List Held) (cells number : ℕ) → judge_ruling x (xs ++ hs) cells number ≡ Ok tt → length (xs ++ hs) ≤ cells → length ((said_by x ++ xs) ++ hs) ≤ cells
room_more Ruling.Nothing hs xs cells number e f = f
room_more (Ruling.Refused refused) hs xs cells number e f = f
room_more (Ruling.Range first last code) hs xs cells number e f =
    omega (arith, (range_passes (Ruling.Range first last code) first last code (xs ++ hs) cells number refl e).1)

module _ (file : File) (r : Ranges) (bytes : List ℕ) where
  -- accepted exactly where none of them refuses
  pub accepted_passed : read_verdict file r bytes ≡ Ok tt → Passed file r bytes
  unfolding read_verdict
  accepted_passed e =
      let a : _ = passes (refuse (ltb 65536 (length bytes)) 1 Neither 0) (refuse (ltb (room r) r.held) 14 Neither 0 ⊳ over (judge_line file r bytes) 0 (line_count bytes)) e in
      let b : _ = passes (refuse (ltb (room r) r.held) 14 Neither 0) (over (judge_line file r bytes) 0 (line_count bytes)) a.1 in
      record {
        short = ltb-false 65536 (length bytes) (unrefused (ltb 65536 (length bytes)) 1 Neither 0 a.0);
        cells = ltb-false (room r) r.held (unrefused (ltb (room r) r.held) 14 Neither 0 b.0);
        lines = λ k h. over_each (judge_line file r bytes) (line_count bytes) 0 b.1 k (omega arith) (omega arith);
      }

  pub passed_accepted : Passed file r bytes → read_verdict file r bytes ≡ Ok tt
  unfolding read_verdict
  passed_accepted p =
      rw (le-ltb 65536 (length bytes) p.short, le-ltb (room r) r.held p.cells)
      (each_over (judge_line file r bytes) (line_count bytes) 0 (λ k l h. p.lines k (omega arith)))

  -- each range of a line runs upward and meets none held or of an earlier line
  pub lines_fit : (k : ℕ) → ((j : ℕ) → j < k → judge_line file r bytes j ≡ Ok tt) → Fits (held_of r) (said file bytes k)
  unfolding said judge_line
  lines_fit zero p = tt
  lines_fit (suc k) p =
      fits_more (ruling_of file (span 10 k bytes)) (held_of r) (said file bytes k) (room r) (k + 1)
      (λ first last code e. ruling_upward file (span 10 k bytes) first last code e) (p k (omega arith)) (lines_fit k (λ j h. p j (omega arith)))

  -- the same of one line
  pub line_fits : (j : ℕ) (h : Held) → judge_line file r bytes j ≡ Ok tt → Says file bytes j h → (h.first ≤ h.last) × (met h.first h.last (said file bytes j ++ held_of r) ≡ false)
  unfolding judge_line
  line_fits j h p e = (
    ruling_upward file (span 10 j bytes) h.first h.last h.code e,
    (range_passes (ruling_of file (span 10 j bytes)) h.first h.last h.code (said file bytes j ++ held_of r) (room r) (j + 1) e p).0,
  )

  -- and there is a cell for each
  lines_room : (k : ℕ) → r.held ≤ room r → ((j : ℕ) → j < k → judge_line file r bytes j ≡ Ok tt) → length (said file bytes k ++ held_of r) ≤ room r
  unfolding said judge_line
  lines_room zero c p = rw (held_length r.firsts r.lasts r.codes 0 r.held) c
  lines_room (suc k) c p =
      room_more (ruling_of file (span 10 k bytes)) (held_of r) (said file bytes k) (room r) (k + 1) (p k (omega arith)) (lines_room k c (λ j h. p j (omega arith)))

  -- # The columns afterwards

  -- what is held after an accepted reading, the last range first
  abbrev pub held_now : List Held
  held_now = put_all (held_of r) (said file bytes (line_count bytes))

  held_now_length : length held_now ≡ length (said file bytes (line_count bytes) ++ held_of r)
  held_now_length =
      omega (arith, put_all_length (held_of r) (said file bytes (line_count bytes)), length-append (said file bytes (line_count bytes)) (held_of r))

  pub read_stored : read_verdict file r bytes ≡ Ok tt → read_ranges file r bytes ≡ stored_in r held_now
  unfolding read_ranges
  read_stored e = ap (λ v. read_into v file r bytes) e

  module _ (accepted : read_verdict file r bytes ≡ Ok tt) where
    passed : Passed file r bytes
    passed = accepted_passed accepted

    -- 14, "more ranges than cells": there is a cell for each that is held and each that is new
    pub all_fit : r.held + length (said file bytes (line_count bytes)) ≤ room r
    all_fit =
        omega (arith, lines_room (line_count bytes) passed.cells passed.lines, length-append (said file bytes (line_count bytes)) (held_of r), held_length r.firsts r.lasts r.codes 0 r.held)

    -- "From the lent bytes .. it fills range columns in scalar order"
    pub held_after : held_of (read_ranges file r bytes) ≡ held_now
    held_after = ap held_of (read_stored accepted) ∙ stored_back held_now r.firsts r.lasts r.codes

    -- what is held afterwards is exactly the old ranges and the new ones
    pub held_exactly : (h : Held) → Memᴰ h (held_of (read_ranges file r bytes)) ↔ (Memᴰ h (held_of r) ⊎ Memᴰ h (said file bytes (line_count bytes)))
    held_exactly h = (
      λ m. put_either (held_of r) (said file bytes (line_count bytes)) (subst (Memᴰ h) held_after m),
      λ m. subst (Memᴰ h) (sym held_after) (⊎_elim (λ q. put_kept (held_of r) (said file bytes (line_count bytes)) q) (λ q. put_new (held_of r) (said file bytes (line_count bytes)) q) m),
    )

    -- as many as were held, and those of the lines
    pub held_number : (read_ranges file r bytes).held ≡ r.held + length (said file bytes (line_count bytes))
    held_number =
        ap (λ (q : Ranges). q.held) (read_stored accepted) ∙ put_all_length (held_of r) (said file bytes (line_count bytes))
        ∙ ap (λ n. n + length (said file bytes (line_count bytes))) (held_length r.firsts r.lasts r.codes 0 r.held)

    stored_fits : length held_now ≤ room r
    stored_fits = omega (arith, held_now_length, lines_room (line_count bytes) passed.cells passed.lines)

    -- the columns keep their cells, and there is one for each range
    pub room_after : room (read_ranges file r bytes) ≡ room r
    unfolding cells_of
    room_after =
        ap room (read_stored accepted)
        ∙ rw (
          stored_length the_first held_now r.firsts (omega (arith, stored_fits)),
          stored_length the_last held_now r.lasts (omega (arith, stored_fits)),
          stored_length the_code held_now r.codes (omega (arith, stored_fits)),
        )

    pub held_fits : (read_ranges file r bytes).held ≤ room (read_ranges file r bytes)
    held_fits = rw (room_after, held_number) all_fit

-- # Scalar order

module _ (firsts lasts codes : List ℕ) where
  rows_fall : (n : ℕ) → ((k : ℕ) → k < n → cell firsts k ≤ cell lasts k) → ((k j : ℕ) → j < k → k < n → cell lasts j < cell firsts k) → Falls (held_from firsts lasts codes 0 n)
  unfolding held_from
  rows_fall zero up apart = tt
  rows_fall (suc n) up apart = (
    rw (zero-add n) (up n (omega arith)),
    λ h m.
        let t : _ = row_of firsts lasts codes n h m in
        rw (zero-add n) (subst (λ (y : Held). y.last < cell firsts n) (sym t.2) (apart n t.0 t.1 (omega arith))),
    rows_fall n (λ k h. up k (omega arith)) (λ k j l h. apart k j l (omega arith)),
  )

  fall_apart : (n : ℕ) → Falls (held_from firsts lasts codes 0 n) → (k j : ℕ) → j < k → k < n → cell lasts j < cell firsts k
  unfolding held_from
  fall_apart zero order k j l h = absurd (omega arith)
  fall_apart (suc n) order k j l h =
      let most : k ≤ n = omega arith in
      ⊎_elim
      (λ q. let e : 0 + n ≡ k = omega arith in rw e at (order.1 (range_at firsts lasts codes j) (row_in firsts lasts codes n j (omega arith))))
      (λ q. fall_apart n order.2 k j l q) (eq-or-lt_of_le most)

module _ (r : Ranges) (fits : r.held ≤ room r) where
  pub count_held : count r ≡ r.held
  unfolding count_of cells_of
  count_held = omega arith

  -- the list of the held ranges falls exactly where the columns are in order
  pub order_falls : InOrder r → Falls (held_of r)
  order_falls order =
      rows_fall r.firsts r.lasts r.codes r.held (λ k h. order.upward k (omega (arith, count_held)))
      (λ k j l h. apart_all r order k j l (omega (arith, count_held)))

  pub falls_order : Falls (held_of r) → InOrder r
  falls_order order =
      record {
        upward = λ k h. falls_upward (range_at r.firsts r.lasts r.codes k) (held_of r) order (row_in r.firsts r.lasts r.codes r.held k (omega (arith, count_held)));
        apart = λ k h. fall_apart r.firsts r.lasts r.codes r.held order (k + 1) k (omega arith) (omega (arith, count_held));
      }

  -- the answer to a scalar of a range that is held
  held_answers : InOrder r → (h : Held) (scalar : ℕ) → Memᴰ h (held_of r) → h.first ≤ scalar → scalar ≤ h.last → code_in r scalar ≡ h.code
  held_answers order h scalar m a b =
      let t : _ = row_of r.firsts r.lasts r.codes r.held h m in
      let k : ℕ = t.0 in
      let c : cell r.firsts k ≤ scalar = subst (λ (y : Held). y.first ≤ scalar) t.2 a in
      let d : scalar ≤ cell r.lasts k = subst (λ (y : Held). scalar ≤ y.last) t.2 b in
      one_range r order scalar k (omega (arith, count_held, t.1)) (in_both (cell r.firsts k) (cell r.lasts k) scalar c d) ∙ ap the_code (sym t.2)

module _ (file : File) (r : Ranges) (order : InOrder r) where
  now_falls : (bytes : List ℕ) → read_verdict file r bytes ≡ Ok tt → Falls (held_now file r bytes)
  now_falls bytes e =
      let p : _ = accepted_passed file r bytes e in
      put_falls (held_of r) (said file bytes (line_count bytes)) (order_falls r p.cells order) (lines_fit file r bytes (line_count bytes) p.lines)

  -- "it fills range columns in scalar order", and 13, "range that meets one held or earlier": ordered, none meeting another
  pub in_order : (bytes : List ℕ) → read_verdict file r bytes ≡ Ok tt → InOrder (read_ranges file r bytes)
  in_order bytes e =
      falls_order (read_ranges file r bytes) (held_fits file r bytes e) (subst Falls (sym (held_after file r bytes e)) (now_falls bytes e))

  now_among : (a b : List ℕ) → Among (said file a (line_count a)) (said file b (line_count b)) → Among (held_now file r a) (held_now file r b)
  now_among a b f h m =
      ⊎_elim (λ q. put_kept (held_of r) (said file b (line_count b)) q) (λ q. put_new (held_of r) (said file b (line_count b)) (f h q))
      (put_either (held_of r) (said file a (line_count a)) m)

  -- the order of lines does not matter to an accepted reading: nor does anything else than which ranges they hold
  pub order_free : (a b : List ℕ) → read_verdict file r a ≡ Ok tt → read_verdict file r b ≡ Ok tt → Among (said file a (line_count a)) (said file b (line_count b)) → Among (said file b (line_count b)) (said file a (line_count a)) → read_ranges file r a ≡ read_ranges file r b
  order_free a b ea eb f g =
      read_stored file r a ea
      ∙ ap (stored_in r) (falls_same (held_now file r a) (held_now file r b) (now_falls a ea) (now_falls b eb) (now_among a b f) (now_among b a g))
      ∙ sym (read_stored file r b eb)

  module _ (bytes : List ℕ) (e : read_verdict file r bytes ≡ Ok tt) (scalar : ℕ) where
    -- "a lookup's answer is the value of the one range that has the scalar": of a range of a line
    pub line_looked_up : (j : ℕ) (h : Held) → j < line_count bytes → Says file bytes j h → h.first ≤ scalar → scalar ≤ h.last → code_in (read_ranges file r bytes) scalar ≡ h.code
    line_looked_up j h l s a b =
        held_answers (read_ranges file r bytes) (held_fits file r bytes e) (in_order bytes e) h scalar
        ((held_exactly file r bytes e h).1 (inr (line_said file bytes (line_count bytes) h j l s))) a b

    -- of a range that was held before
    pub held_looked_up : (h : Held) → Memᴰ h (held_of r) → h.first ≤ scalar → scalar ≤ h.last → code_in (read_ranges file r bytes) scalar ≡ h.code
    held_looked_up h m a b =
        held_answers (read_ranges file r bytes) (held_fits file r bytes e) (in_order bytes e) h scalar ((held_exactly file r bytes e h).1 (inl m)) a b

-- "A scalar in no range is XX or Other.": in none that was held, and in none of a line
pub none_looked_up : (file : File) (r : Ranges) (bytes : List ℕ) → read_verdict file r bytes ≡ Ok tt → (scalar : ℕ) → ((h : Held) → Memᴰ h (held_of r) → is_in h.first h.last scalar ≡ false) → ((j : ℕ) (h : Held) → j < line_count bytes → Says file bytes j h → is_in h.first h.last scalar ≡ false) → code_in (read_ranges file r bytes) scalar ≡ 0
none_looked_up file r bytes e scalar f g =
    let s : Ranges = read_ranges file r bytes in
    in_no_range s scalar
    (λ k l.
    let h : Held = range_at s.firsts s.lasts s.codes k in
    ⊎_elim (λ q. f h q) (λ q. let t : _ = said_line file bytes (line_count bytes) h q in g t.0 h t.1 t.2)
    ((held_exactly file r bytes e h).0 (row_in s.firsts s.lasts s.codes s.held k (omega (arith, count_held s (held_fits file r bytes e))))))

-- no two answers and contents of the columns fulfil the reader's contract (SCOPE 10)
pub read_unique : (file : File) (r : Ranges) (bytes : List ℕ) (a b : Filled) (fa la ca fb lb cb : List ℕ) → HasRead file r bytes a fa la ca → HasRead file r bytes b fb lb cb → (a ≡ b) × (fa ≡ fb) × (la ≡ lb) × (ca ≡ cb)
read_unique file r bytes a b fa la ca fb lb cb p q =
    let v : a.verdict ≡ b.verdict = unique (read_verdict file r bytes) a.verdict b.verdict p.judged q.judged in
    let e : ranges fa la ca a.held ≡ ranges fb lb cb b.held = unique (read_ranges file r bytes) (ranges fa la ca a.held) (ranges fb lb cb b.held) p.held q.held in
    (λ i. record { verdict = v i; held = (e i).held }, ap (λ (x : Ranges). x.firsts) e, ap (λ (x : Ranges). x.lasts) e, ap (λ (x : Ranges). x.codes) e)
