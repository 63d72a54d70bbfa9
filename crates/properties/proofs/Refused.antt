-- When a reading is refused, and with what. Assumes nothing.
use Rattle.std.specs.Prelude.{Ok, Err, Some, None}
use Prim.Native.Nat.{ℕ, zero, suc, ◌+◌, ◌<◌, ◌≤◌, max}
use mathlib.Core.Path.{◌≡◌, refl, sym, ◌∙◌, ap, subst}
use mathlib.Core.Bool.{Bool, true, false, or-true, false≢true}
use mathlib.Core.List.Memᴰ
use mathlib.Core.List.{List, [], ◌∷◌, ◌++◌, Memᴰ}
use mathlib.Core.Logic.{◌↔◌, ◌⊎◌, inl, inr, ⊎_elim}
use native.Mathlib.Nat.{eq-or-lt_of_le}
use native.Mathlib.Omega.{arith}
use lib.Dec.{leb, ltb}
use lib.ListN.{length}
use borrow.Author.Tests.{le-leb, leb-true, lt-ltb, le-ltb, ltb-true, ltb-false}
use Rattle.basics.proofs.Tests.{both, either}
use Rattle.cases.specs.Spans.{span}
use Rattle.records.specs.Refusals.{refusal, refuse, ◌⊳◌, over}
use Rattle.records.specs.declared.Side.TheVariants.{Neither}
use Rattle.records.specs.declared.Refusal.{Refusal}
use Rattle.records.specs.Verdict.{Verdict}
use Rattle.records.proofs.Verdicts.{never}
use Rattle.properties.specs.declared.File.{File}
use Rattle.properties.specs.Names.{Value}
use Rattle.properties.specs.declared.Line.{Line}
use Rattle.properties.specs.Names.{code_of}
use Rattle.properties.specs.Lines.{line_of, value_in}
use Rattle.properties.specs.Rulings.{ruled, ruling_of}
use Rattle.properties.specs.Ranges.{Ranges, InOrder}
use Rattle.properties.specs.Reading.{Held, holding, held_of, said, share, met, refused_at, judge_ruling, room, judge_line, line_count, read_verdict, read_into, read_ranges}
use Rattle.properties.proofs.Insertions.{falls_upward}
use Rattle.properties.proofs.Readings.{said_line, ruling_upward, order_falls}

-- # The first refusal

-- among the indices from i on
abbrev First : (ℕ → Verdict) → ℕ → ℕ → Refusal → Type 0
First judge i n x = (k : ℕ) × (i ≤ k) × (k < i + n) × (judge k ≡ Err x) × ((j : ℕ) → i ≤ j → j < k → judge j ≡ Ok tt)

over_first : (judge : ℕ → Verdict) (x : Refusal) (n i : ℕ) → over judge i n ≡ Err x → First judge i n x
unfolding over
over_first judge x zero i e = never (sym e)
over_first judge x (suc n) i e = go (judge i) refl e (λ q. over_first judge x n (i + 1) q)
  where
    go : (v : Verdict) → judge i ≡ v → v ⊳ over judge (i + 1) n ≡ Err x → (over judge (i + 1) n ≡ Err x → First judge (i + 1) n x) → First judge i (suc n) x
    go (Err y) h q f = (i, omega arith, omega arith, h ∙ q, λ j a b. absurd (omega arith))
    go (Ok _) h q f =
        let t : First judge (i + 1) n x = f q in (
          t.0,
          omega (arith, t.1),
          omega (arith, t.2),
          t.3,
          λ j a b. ⊎_elim (λ p. ap judge (sym p) ∙ h) (λ p. t.4 j (omega arith) b) (eq-or-lt_of_le a),
        )

over_only : (judge : ℕ → Verdict) (x : Refusal) (n i : ℕ) → First judge i n x → over judge i n ≡ Err x
unfolding over
over_only judge x zero i t = absurd (omega (arith, t.1, t.2))
over_only judge x (suc n) i t =
    ⊎_elim
    (λ q. ap (λ v. v ⊳ over judge (i + 1) n) (ap judge q ∙ t.3))
    (λ q. ap (λ v. v ⊳ over judge (i + 1) n) (t.4 i (omega arith) q) ∙ over_only judge x n (i + 1) (t.0, omega arith, omega (arith, t.2), t.3, λ j a b. t.4 j (omega arith) b))
    (eq-or-lt_of_le t.1)

-- the k-th line is refused and none before it is
pub record RefusedAt (file : File) (r : Ranges) (bytes : List ℕ) (x : Refusal) (k : ℕ) : Type 0 where
  pub within : k < line_count bytes
  pub refused : judge_line file r bytes k ≡ Err x
  pub before : (j : ℕ) → j < k → judge_line file r bytes j ≡ Ok tt

-- too many bytes; or else more ranges held than there are cells; or else a line
abbrev pub Cause : File → Ranges → List ℕ → Refusal → Type 0
Cause file r bytes x =
    ((65536 < length bytes) × (x ≡ refusal 1 Neither 0))
    ⊎ ((length bytes ≤ 65536) × (room r < r.held) × (x ≡ refusal 14 Neither 0))
    ⊎ ((length bytes ≤ 65536) × (r.held ≤ room r) × (k : ℕ) × RefusedAt file r bytes x k)

same_refusal : {x y : Refusal} → ◌≡◌ {A = Verdict} (Err x) (Err y) → y ≡ x
same_refusal e = cc

module _ (file : File) (r : Ranges) (bytes : List ℕ) (x : Refusal) where
  -- "the lowest line decides, in it the lowest number": refused exactly when
  pub read_refused_first : read_verdict file r bytes ≡ Err x → Cause file r bytes x
  unfolding read_verdict
  read_refused_first e = long (ltb 65536 (length bytes)) refl e
    where
      lines : Verdict
      lines = over (judge_line file r bytes) 0 (line_count bytes)

      many : length bytes ≤ 65536 → (b : Bool) → ltb (room r) r.held ≡ b → refuse b 14 Neither 0 ⊳ lines ≡ Err x → Cause file r bytes x
      many s true h q = inr (inl (s, ltb-true (room r) r.held h, same_refusal q))
      many s false h q =
          let t : _ = over_first (judge_line file r bytes) x (line_count bytes) 0 q in
          inr (inr (s, ltb-false (room r) r.held h, t.0, record { within = omega (arith, t.2); refused = t.3; before = λ j l. t.4 j (omega arith) l }))

      long : (b : Bool) → ltb 65536 (length bytes) ≡ b → refuse b 1 Neither 0 ⊳ refuse (ltb (room r) r.held) 14 Neither 0 ⊳ lines ≡ Err x → Cause file r bytes x
      long true h q = inl (ltb-true 65536 (length bytes) h, same_refusal q)
      long false h q = many (ltb-false 65536 (length bytes) h) (ltb (room r) r.held) refl q

  -- and each of these refuses so
  pub read_refused_only : Cause file r bytes x → read_verdict file r bytes ≡ Err x
  unfolding read_verdict
  read_refused_only (inl (h, e)) = rw (lt-ltb 65536 (length bytes) h, e)
  read_refused_only (inr (inl (s, h, e))) = rw (le-ltb 65536 (length bytes) s, lt-ltb (room r) r.held h, e)
  read_refused_only (inr (inr (s, h, k, f))) =
      rw (le-ltb 65536 (length bytes) s, le-ltb (room r) r.held h)
      (over_only (judge_line file r bytes) x (line_count bytes) 0 (k, omega arith, omega (arith, f.within), f.refused, λ j a b. f.before j b))

  -- "and then no column has changed"
  pub refused_keeps : read_verdict file r bytes ≡ Err x → read_ranges file r bytes ≡ r
  unfolding read_ranges
  refused_keeps e = ap (λ v. read_into v file r bytes) e

-- # The refusals of one line

-- the line holds this range, and its value is known
abbrev pub Ranged : Line → Value → Held → Type 0
Ranged line value h = (line ≡ Line.Range h.first h.last) × (value ≡ Some h.code)

-- it holds a range, and its value is not
abbrev pub OfUnknown : Line → Value → Type 0
OfUnknown line value = (first : ℕ) × (last : ℕ) × (line ≡ Line.Range first last) × (value ≡ None)

-- its range meets one of those before it
abbrev pub Meets : Line → Value → List Held → Type 0
Meets line value before = (h : Held) × Ranged line value h × (met h.first h.last before ≡ true)

-- its range meets none of them, and they have all cells
abbrev pub NoCell : Line → Value → List Held → ℕ → Type 0
NoCell line value before cells = (h : Held) × Ranged line value h × (met h.first h.last before ≡ false) × (cells ≤ length before)

-- the four refusals of a line, each with its condition
abbrev pub Why : Line → Value → List Held → ℕ → ℕ → Refusal → Type 0
Why line value before cells number x =
    ((x ≡ refusal 11 Neither number) × (line ≡ Line.Malformed))
    ⊎ ((x ≡ refusal 12 Neither number) × OfUnknown line value)
    ⊎ ((x ≡ refusal 13 Neither number) × Meets line value before)
    ⊎ ((x ≡ refusal 14 Neither number) × NoCell line value before cells)

why : (line : Line) (value : Value) (before : List Held) (cells number : ℕ) (x : Refusal) → judge_ruling (ruled line value) before cells number ≡ Err x → Why line value before cells number x
why Line.Skipped value before cells number x e = never (sym e)
why Line.Malformed value before cells number x e = inl (same_refusal e, refl)
why (Line.Range f l) None before cells number x e = inr (inl (same_refusal e, (f, l, refl, refl)))
why (Line.Range f l) (Some c) before cells number x e = go (met f l before) refl e
  where
    full : met f l before ≡ false → (b : Bool) → leb cells (length before) ≡ b → refuse b 14 Neither number ≡ Err x → Why (Line.Range f l) (Some c) before cells number x
    full m true h q = inr (inr (inr (same_refusal q, (holding f l c, (refl, refl), m, leb-true cells (length before) h))))
    full m false h q = never (sym q)

    go : (b : Bool) → met f l before ≡ b → refuse b 13 Neither number ⊳ refuse (leb cells (length before)) 14 Neither number ≡ Err x → Why (Line.Range f l) (Some c) before cells number x
    go true h q = inr (inr (inl (same_refusal q, (holding f l c, (refl, refl), h))))
    go false h q = full h (leb cells (length before)) refl q

other : {A : Type 0} (m n number : ℕ) → (m ≡ n → ⊥) → refusal m Neither number ≡ refusal n Neither number → A
other m n number d e = absurd (d (ap (λ (x : Refusal). x.number) e))

module _ (line : Line) (value : Value) (before : List Held) (cells number : ℕ) where
  why_malformed : Why line value before cells number (refusal 11 Neither number) → line ≡ Line.Malformed
  why_malformed (inl (e, w)) = w
  why_malformed (inr (inl (e, w))) = other 11 12 number (omega arith) e
  why_malformed (inr (inr (inl (e, w)))) = other 11 13 number (omega arith) e
  why_malformed (inr (inr (inr (e, w)))) = other 11 14 number (omega arith) e

  why_unknown : Why line value before cells number (refusal 12 Neither number) → OfUnknown line value
  why_unknown (inl (e, w)) = other 12 11 number (omega arith) e
  why_unknown (inr (inl (e, w))) = w
  why_unknown (inr (inr (inl (e, w)))) = other 12 13 number (omega arith) e
  why_unknown (inr (inr (inr (e, w)))) = other 12 14 number (omega arith) e

  why_meets : Why line value before cells number (refusal 13 Neither number) → Meets line value before
  why_meets (inl (e, w)) = other 13 11 number (omega arith) e
  why_meets (inr (inl (e, w))) = other 13 12 number (omega arith) e
  why_meets (inr (inr (inl (e, w)))) = w
  why_meets (inr (inr (inr (e, w)))) = other 13 14 number (omega arith) e

  why_no_cell : Why line value before cells number (refusal 14 Neither number) → NoCell line value before cells
  why_no_cell (inl (e, w)) = other 14 11 number (omega arith) e
  why_no_cell (inr (inl (e, w))) = other 14 12 number (omega arith) e
  why_no_cell (inr (inr (inl (e, w)))) = other 14 13 number (omega arith) e
  why_no_cell (inr (inr (inr (e, w)))) = w

-- the k-th line without its LF
abbrev pub line_at : List ℕ → ℕ → Line
line_at bytes k = line_of (span 10 k bytes)

-- what its value stands for in the file
abbrev pub value_at : File → List ℕ → ℕ → Value
value_at file bytes k = code_of file (value_in (span 10 k bytes))

-- the ranges held and of earlier lines
abbrev pub before_it : File → Ranges → List ℕ → ℕ → List Held
before_it file r bytes k = said file bytes k ++ held_of r

module _ (file : File) (r : Ranges) (bytes : List ℕ) (k : ℕ) where
  -- a line is refused 11 to 14 and no other, and each refusal "carries its line number, from 1 in the bytes lent"
  pub line_why : (x : Refusal) → judge_line file r bytes k ≡ Err x → Why (line_at bytes k) (value_at file bytes k) (before_it file r bytes k) (room r) (k + 1) x
  unfolding judge_line ruling_of
  line_why x e = why (line_at bytes k) (value_at file bytes k) (before_it file r bytes k) (room r) (k + 1) x e

  pub line_number : (x : Refusal) → judge_line file r bytes k ≡ Err x → x.index ≡ k + 1
  line_number x e = go (line_why x e)
    where
      go : Why (line_at bytes k) (value_at file bytes k) (before_it file r bytes k) (room r) (k + 1) x → x.index ≡ k + 1
      go (inl (q, w)) = ap (λ (y : Refusal). y.index) q
      go (inr (inl (q, w))) = ap (λ (y : Refusal). y.index) q
      go (inr (inr (inl (q, w)))) = ap (λ (y : Refusal). y.index) q
      go (inr (inr (inr (q, w)))) = ap (λ (y : Refusal). y.index) q

  -- "11 malformed line"
  pub line_malformed : judge_line file r bytes k ≡ refused_at 11 (k + 1) ↔ (line_at bytes k ≡ Line.Malformed)
  unfolding judge_line ruling_of
  line_malformed = (λ e. why_malformed (line_at bytes k) (value_at file bytes k) (before_it file r bytes k) (room r) (k + 1) (line_why (refusal 11 Neither (k + 1)) e), λ e. rw e)

  -- "12 unknown value"
  pub line_unknown : judge_line file r bytes k ≡ refused_at 12 (k + 1) ↔ OfUnknown (line_at bytes k) (value_at file bytes k)
  unfolding judge_line ruling_of
  line_unknown = (λ e. why_unknown (line_at bytes k) (value_at file bytes k) (before_it file r bytes k) (room r) (k + 1) (line_why (refusal 12 Neither (k + 1)) e), λ w. rw (w.2, w.3))

  -- "13 range that meets one held or earlier"
  pub line_meets : judge_line file r bytes k ≡ refused_at 13 (k + 1) ↔ Meets (line_at bytes k) (value_at file bytes k) (before_it file r bytes k)
  unfolding judge_line ruling_of
  line_meets = (λ e. why_meets (line_at bytes k) (value_at file bytes k) (before_it file r bytes k) (room r) (k + 1) (line_why (refusal 13 Neither (k + 1)) e), λ w. rw (w.1.0, w.1.1, w.2))

  -- "14 more ranges than cells"
  pub line_no_cell : judge_line file r bytes k ≡ refused_at 14 (k + 1) ↔ NoCell (line_at bytes k) (value_at file bytes k) (before_it file r bytes k) (room r)
  unfolding judge_line ruling_of
  line_no_cell = (
    λ e. why_no_cell (line_at bytes k) (value_at file bytes k) (before_it file r bytes k) (room r) (k + 1) (line_why (refusal 14 Neither (k + 1)) e),
    λ w. rw (w.1.0, w.1.1, w.2, le-leb (room r) (length (before_it file r bytes k)) w.3),
  )

-- # Ranges that meet

-- a range of the list has a scalar of the first range
abbrev pub Shares : ℕ → ℕ → List Held → Type 0
Shares first last hs = (h : Held) × Memᴰ h hs × (s : ℕ) × (first ≤ s) × (s ≤ last) × (h.first ≤ s) × (s ≤ h.last)

module _ (first last : ℕ) where
  shared : (hs : List Held) → first ≤ last → ((h : Held) → Memᴰ h hs → h.first ≤ h.last) → met first last hs ≡ true → Shares first last hs
  unfolding met share
  shared [] up each e = absurd (false≢true e)
  shared (h ∷ hs) up each e =
      ⊎_elim
      (λ q.
      let b : _ = both (leb h.first last) (leb first h.last) q in
      let m : h.first ≤ h.last = each h (Memᴰ.head refl) in
      let f : h.first ≤ last = leb-true h.first last b.0 in
      let g : first ≤ h.last = leb-true first h.last b.1 in
      (h, Memᴰ.head refl, max first h.first, omega arith, omega arith, omega arith, omega arith))
      (λ q. let t : Shares first last hs = shared hs up (λ k m. each k (Memᴰ.tail m)) q in (t.0, Memᴰ.tail t.1, t.2, t.3, t.4, t.5, t.6))
      (either (share first last h.first h.last) (met first last hs) e)

  sharing : (hs : List Held) → Shares first last hs → met first last hs ≡ true
  unfolding met share
  sharing [] t = absurd (Memᴰ.not-nil t.1)
  sharing (k ∷ hs) t =
      ⊎_elim
      (λ q.
      let f : k.first ≤ last = subst (λ (y : Held). y.first ≤ last) q (omega (arith, t.4, t.5)) in
      let g : first ≤ k.last = subst (λ (y : Held). first ≤ y.last) q (omega (arith, t.3, t.6)) in
      rw (le-leb k.first last f, le-leb first k.last g))
      (λ q. rw (sharing hs (t.0, q, t.2, t.3, t.4, t.5, t.6), or-true (share first last k.first k.last)))
      (Memᴰ.cases_cons t.1)

  -- that two ranges meet is that they have a scalar in common
  pub met_shares : (hs : List Held) → first ≤ last → ((h : Held) → Memᴰ h hs → h.first ≤ h.last) → met first last hs ≡ true ↔ Shares first last hs
  met_shares hs up each = (λ e. shared hs up each e, λ t. sharing hs t)

-- of columns in scalar order: 13 exactly where the range of the line has a scalar in common with one held or of an earlier line
pub line_shares : (file : File) (r : Ranges) (bytes : List ℕ) (k : ℕ) → r.held ≤ room r → InOrder r → (h : Held) → Ranged (line_at bytes k) (value_at file bytes k) h → judge_line file r bytes k ≡ refused_at 13 (k + 1) ↔ Shares h.first h.last (before_it file r bytes k)
unfolding ruling_of
line_shares file r bytes k fits order h w = (
  λ e.
      let t : _ = (line_meets file r bytes k).0 e in
      let same : Line.Range t.0.first t.0.last ≡ Line.Range h.first h.last = sym t.1.0 ∙ w.0 in
      let f : t.0.first ≡ h.first = cc in
      let l : t.0.last ≡ h.last = cc in
      shared h.first h.last (before_it file r bytes k) up each (rw (← f, ← l) t.2),
  λ s. (line_meets file r bytes k).1 (h, w, sharing h.first h.last (before_it file r bytes k) s),
)
  where
    up : h.first ≤ h.last
    up = ruling_upward file (span 10 k bytes) h.first h.last h.code (rw (w.0, w.1))

    each : (g : Held) → Memᴰ g (before_it file r bytes k) → g.first ≤ g.last
    each g m =
        ⊎_elim (λ q. let t : _ = said_line file bytes k g q in ruling_upward file (span 10 t.0 bytes) g.first g.last g.code t.2)
        (λ q. falls_upward g (held_of r) (order_falls r fits order) q) (Memᴰ.append_cases (said file bytes k) m)
