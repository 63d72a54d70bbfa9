-- Spans that join: of characters that are the tokens of a stream in its order, one after the other. Assumes nothing.
use Prim.Native.Nat.{ℕ, suc, ◌+◌, ◌-◌, ◌<◌, ◌≤◌}
use mathlib.Core.Path.{◌≡◌, sym, ◌∙◌, ap, subst}
use mathlib.Core.Bool.{false}
use mathlib.Core.List.{List, [], ◌∷◌, ◌++◌}
use native.Mathlib.Omega.{arith}
use native.Mathlib.Numerals.{add-one}
use lib.Dec.{eqb}
use lib.ListN.{length}
use borrow.Author.Tests.{eqb-true, eqb-false, ne_eqb}
use Rattle.basics.proofs.Tests.{by_test}
use Rattle.parse.specs.declared.Pushed.{Pushed}
use Rattle.parse.specs.State.{token_at}
use Rattle.parse.specs.Cover.{Covers}
use Rattle.parse.proofs.Covered.{cover_count}
use Rattle.records.specs.Text.{cell}
use Rattle.spans.specs.Offsets.{offset_of, length_of, end_of}
use Rattle.spans.specs.Spans.{record_at, last_record, span_of, spans_from, start_of, end_from}
use Rattle.spans.specs.Joined.{Stretch, own_of, notes_of, stretches, Joins}
use Rattle.spans.proofs.Counting.{bytes_few, offset_next, offset_rises}
use Rattle.spans.proofs.Climbs.{behind_from}

pub joins_append : (Next : ℕ → ℕ → Type 0) (xs ys : List Stretch) (a b c : ℕ) → Joins Next a xs b → Joins Next b ys c → Joins Next a (xs ++ ys) c
joins_append Next [] ys a b c e d = subst (λ (i : ℕ). Joins Next i ys c) (sym e) d
joins_append Next (x ∷ xs) ys a b c e d = (e.0, joins_append Next xs ys x.to b c e.1 d)

-- the bytes before a place: those up to the end of the token before it
abbrev pub bytes_before : List ℕ → List ℕ → ℕ → ℕ
bytes_before scalars stream p = offset_of scalars (behind_from 0 stream p)

module _ (scalars stream : List ℕ) where
  -- the end of a token is where the next place's bytes begin
  end_before : (p : ℕ) → bytes_before scalars stream (suc p) ≡ end_of scalars (record_at stream p)
  end_before p = offset_next scalars (record_at stream p)

  last_before : (p n : ℕ) → bytes_before scalars stream (p + 1 + n) ≡ end_of scalars (record_at stream (p + n))
  last_before p n = let e : p + 1 + n ≡ suc (p + n) = omega arith in ap (bytes_before scalars stream) e ∙ end_before (p + n)

  below : (i j : ℕ) → i ≤ j → offset_of scalars i < end_of scalars j
  below i j h = let e : i + (j - i) ≡ j = omega arith in omega (arith, offset_rises scalars i (j - i), ap (offset_of scalars) e, (bytes_few (cell scalars j)).0)

  -- the end is that of the last token
  last_end : (x : Pushed) (p : ℕ) → x.index ≡ record_at stream p → end_of scalars (last_record stream p x) ≡ bytes_before scalars stream (p + 1 + x.noted)
  last_end x p e = by_test (eqb x.noted 0)
      (λ z. let n : p + x.noted ≡ p = omega (arith, eqb-true x.noted 0 z) in rw z (ap (end_of scalars) e ∙ ap (λ (k : ℕ). end_of scalars (record_at stream k)) (sym n) ∙ sym (last_before p x.noted)))
      (λ z. rw z (sym (last_before p x.noted)))

  end_on : (cs : List Pushed) (n p to : ℕ) → n ≡ bytes_before scalars stream p → Covers (token_at stream) p cs to → end_from scalars stream n p cs ≡ bytes_before scalars stream to
  unfolding end_from
  end_on [] n p to e c = e ∙ ap (bytes_before scalars stream) c
  end_on (x ∷ cs) n p to e c = end_on cs _ (p + 1 + x.noted) to (last_end x p c.0.1) c.1

  pub end_some : (cs : List Pushed) (n p to : ℕ) → 0 < length cs → Covers (token_at stream) p cs to → end_from scalars stream n p cs ≡ bytes_before scalars stream to
  unfolding end_from
  end_some [] n p to s c = absurd (omega arith)
  end_some (x ∷ cs) n p to s c = end_on cs _ (p + 1 + x.noted) to (last_end x p c.0.1) c.1

  -- the start is that of the first
  pub start_some : (cs : List Pushed) (p to : ℕ) → 0 < length cs → Covers (token_at stream) p cs to → start_of scalars cs ≡ offset_of scalars (record_at stream p)
  start_some [] p to s c = absurd (omega arith)
  start_some (x ∷ cs) p to s c = ap (offset_of scalars) c.0.1

module _ (scalars stream : List ℕ) (Next : ℕ → ℕ → Type 0)
    (next : (p : ℕ) → p < length stream → Next (bytes_before scalars stream p) (offset_of scalars (record_at stream p)))
    (rises : (p k : ℕ) → p + k < length stream → record_at stream p ≤ record_at stream (p + k)) where
  -- one character and its notes
  span_joins : (c : Pushed) (p : ℕ) → c.index ≡ record_at stream p → p + c.noted < length stream → Joins Next (bytes_before scalars stream p) (own_of (span_of scalars stream p c) ∷ notes_of (span_of scalars stream p c)) (bytes_before scalars stream (p + 1 + c.noted))
  unfolding span_of
  span_joins c p e h = by_test (eqb c.noted 0)
      (λ z. let n : c.noted ≡ 0 = eqb-true _ _ z in
      let f : p + c.noted ≡ p = omega arith in
      rw z (own, ap (end_of scalars) e ∙ sym (last_before scalars stream p c.noted ∙ ap (λ (k : ℕ). end_of scalars (record_at stream k)) f)))
      (λ z. let some : 0 < c.noted = positive c.noted (eqb-false _ _ z) in
      let f : p + 1 + (c.noted - 1) ≡ p + c.noted = omega arith in
      let up : record_at stream (p + 1) ≤ record_at stream (p + c.noted) = subst (λ (k : ℕ). record_at stream (p + 1) ≤ record_at stream k) f (rises (p + 1) (c.noted - 1) (omega arith)) in
      let less : offset_of scalars (record_at stream (p + 1)) < end_of scalars (record_at stream (p + c.noted)) = below scalars stream (record_at stream (p + 1)) (record_at stream (p + c.noted)) up in
      let long : eqb (end_of scalars (record_at stream (p + c.noted)) - offset_of scalars (record_at stream (p + 1))) 0 ≡ false = ne_eqb (end_of scalars (record_at stream (p + c.noted)) - offset_of scalars (record_at stream (p + 1))) 0 (apart _ _ less) in
      rw (z, long) (own, (noted some, rejoined _ _ less ∙ sym (last_before scalars stream p c.noted))))
    where
      positive : (n : ℕ) → (n ≡ 0 → ⊥) → 0 < n
      positive n k = omega arith

      apart : (a b : ℕ) → a < b → b - a ≡ 0 → ⊥
      apart a b l e = absurd (omega arith)

      rejoined : (a b : ℕ) → a < b → a + (b - a) ≡ b
      rejoined a b l = omega arith

      own : Next (bytes_before scalars stream p) (offset_of scalars c.index)
      own = subst (λ (i : ℕ). Next (bytes_before scalars stream p) (offset_of scalars i)) (sym e) (next p (omega arith))

      noted : 0 < c.noted → Next (offset_of scalars c.index + length_of scalars c.index) (offset_of scalars (record_at stream (p + 1)))
      noted some = subst (λ (i : ℕ). Next i (offset_of scalars (record_at stream (p + 1)))) (end_before scalars stream p ∙ ap (end_of scalars) (sym e))
          (subst (λ (k : ℕ). Next (bytes_before scalars stream k) (offset_of scalars (record_at stream (p + 1)))) (add-one p) (next (p + 1) (omega arith)))

  -- all of them, up to a place
  pub spans_join : (cs : List Pushed) (p to : ℕ) → Covers (token_at stream) p cs to → to ≤ length stream → Joins Next (bytes_before scalars stream p) (stretches (spans_from scalars stream p cs)) (bytes_before scalars stream to)
  unfolding spans_from stretches
  spans_join [] p to c h = ap (bytes_before scalars stream) c
  spans_join (x ∷ cs) p to c h =
      joins_append Next (own_of (span_of scalars stream p x) ∷ notes_of (span_of scalars stream p x)) (stretches (spans_from scalars stream (p + 1 + x.noted) cs)) _ (bytes_before scalars stream (p + 1 + x.noted)) _
      (span_joins x p c.0.1 (omega (arith, h, cover_count (token_at stream) cs (p + 1 + x.noted) to c.1)))
      (spans_join cs (p + 1 + x.noted) to c.1 h)
