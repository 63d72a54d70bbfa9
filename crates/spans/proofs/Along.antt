-- The spans of a cluster's characters, one after the other: what is found, and what is still to be. Assumes nothing.
use Prim.Native.Nat.{ℕ, zero, suc, ◌+◌, ◌-◌, ◌*◌, ◌<◌, ◌≤◌}
use mathlib.Core.Path.{◌≡◌, refl, sym, ◌∙◌, ap, subst}
use mathlib.Core.List.{List, [], ◌∷◌}
use native.Mathlib.Omega.{arith}
use native.Mathlib.Numerals.{add-one}
use lib.ListN.{length, take, drop, set, get_or, replicate, length-set, drop_of_length-le}
use lib.Seq.{sets, drop-cons, length-take-le}
use Rattle.basics.proofs.Choices.{eq_then, eq_else}
use Rattle.stream.specs.Stream.{most_tokens}
use Rattle.parse.specs.declared.Pushed.{Pushed}
use Rattle.parse.specs.State.{nothing}
use Rattle.segment.proofs.Written.{write_all}
use Rattle.spans.specs.declared.offsets.Counted.{Counted}
use Rattle.spans.specs.declared.Span.{Span}
use Rattle.spans.specs.declared.Spans.{Spans}
use Rattle.spans.specs.Offsets.{offset_of, length_of, end_of}
use Rattle.spans.specs.Spans.{record_at, last_record, span_of, spans_from, end_from, start_of, first_record, no_span, celled}
use Rattle.spans.specs.Inner.{Counts, Near}
use Rattle.spans.proofs.Counting.{to_fits}

-- how many spans there are
pub spans_length : (scalars stream : List ℕ) (p : ℕ) (cs : List Pushed) → length (spans_from scalars stream p cs) ≡ length cs
unfolding spans_from
spans_length scalars stream p [] = refl
spans_length scalars stream p (c ∷ cs) = ap suc (spans_length scalars stream (p + 1 + c.noted) cs)

-- # One character

spans_same : (c d : List Span) (s t e f : ℕ) → c ≡ d → s ≡ t → e ≡ f → ◌≡◌ {A = Spans} (record { chars = c; start = s; end = e }) (record { chars = d; start = t; end = f })
spans_same c d s t e f a b g = rw (a, b, g)

span_same : (o l m n o' l' m' n' : ℕ) → o ≡ o' → l ≡ l' → m ≡ m' → n ≡ n' → ◌≡◌ {A = Span} (record { offset = o; length = l; noffset = m; nlength = n }) (record { offset = o'; length = l'; noffset = m'; nlength = n' })
span_same o l m n o' l' m' n' a b c d = rw (a, b, c, d)

-- bytes that were counted
abbrev Reaches : List ℕ → Counted → ℕ → Type 0
Reaches scalars c i = c ≡ record { index = i; bytes = offset_of scalars i }

pub counts_to : (scalars : List ℕ) (i : ℕ) (c : Counted) → Reaches scalars c i → c.bytes ≡ offset_of scalars c.index
counts_to scalars i c e = subst (λ (b : Counted). b.bytes ≡ offset_of scalars b.index) (sym e) refl

pub end_fits : (scalars : List ℕ) (i n : ℕ) (c : Counted) → i < 65536 → Reaches scalars c i → n ≡ length_of scalars c.index → c.bytes + n < 0x100000000
end_fits scalars i n c h e f = subst (λ (b : Counted). n ≡ length_of scalars b.index → b.bytes + n < 0x100000000) (sym e) (λ g. to_fits scalars i (offset_of scalars i) n h refl g) f

end_at : (scalars : List ℕ) (i n : ℕ) (c : Counted) → Reaches scalars c i → n ≡ length_of scalars c.index → c.bytes + n ≡ end_of scalars i
end_at scalars i n c e f = subst (λ (b : Counted). n ≡ length_of scalars b.index → b.bytes + n ≡ end_of scalars i) (sym e) (λ g. ap (λ (k : ℕ). offset_of scalars i + k) g) f

module _ (scalars stream : List ℕ) (p : ℕ) (x : Pushed) (own : Counted) (l : ℕ) (eo : Reaches scalars own x.index) (el : l ≡ length_of scalars x.index) where
  pub span_bare : x.noted ≡ 0 → record { offset = own.bytes; length = l; noffset = 0; nlength = 0 } ≡ span_of scalars stream p x
  unfolding span_of
  span_bare z = span_same _ _ _ _ _ _ _ _ (ap (λ (c : Counted). c.bytes) eo) el (eq_then x.noted 0 0 _ 0 z refl) (eq_then x.noted 0 0 _ 0 z refl)

  pub span_noted : (x.noted ≡ 0 → ⊥) → (f g n d : ℕ) (first last : Counted) → f ≡ record_at stream (p + 1) → Reaches scalars first f → g ≡ last_record stream p x → Reaches scalars last g →
      n ≡ length_of scalars last.index → d ≡ (last.bytes + n) - first.bytes → record { offset = own.bytes; length = l; noffset = first.bytes; nlength = d } ≡ span_of scalars stream p x
  unfolding span_of
  span_noted z f g n d first last ef ei eg ej en ed =
      let front : first.bytes ≡ offset_of scalars (record_at stream (p + 1)) = ap (λ (c : Counted). c.bytes) ei ∙ ap (offset_of scalars) ef in
      let back : last.bytes + n ≡ end_of scalars (record_at stream (p + x.noted)) = end_at scalars g n last ej en ∙ ap (end_of scalars) (eg ∙ sym (eq_else x.noted 0 x.index (record_at stream (p + x.noted)) (record_at stream (p + x.noted)) z refl)) in
      span_same _ _ _ _ _ _ _ _ (ap (λ (c : Counted). c.bytes) eo) el (eq_else x.noted 0 0 _ _ z front)
      (eq_else x.noted 0 0 _ _ z (ed ∙ ap (λ (k : ℕ). k - first.bytes) back ∙ ap (λ (k : ℕ). end_of scalars (record_at stream (p + x.noted)) - k) front))

pub last_end_at : (scalars stream : List ℕ) (p : ℕ) (x : Pushed) (i n : ℕ) (c : Counted) → i ≡ last_record stream p x → Reaches scalars c i → n ≡ length_of scalars c.index → c.bytes + n ≡ end_of scalars (last_record stream p x)
last_end_at scalars stream p x i n c e r f = end_at scalars i n c r f ∙ ap (end_of scalars) e

-- # The characters of a cluster

-- a character of the first n
kept_cell : {A : Type 0} (n j : ℕ) (l : List A) (d : A) → j < n → get_or (take n l) j d ≡ get_or l j d
kept_cell zero j l d h = absurd (omega arith)
kept_cell (suc n) j [] d h = refl
kept_cell (suc n) zero (x ∷ l) d h = refl
kept_cell (suc n) (suc j) (x ∷ l) d h = kept_cell n j l d (omega arith)

-- where the spans of j of the first characters are in their cells, and the next one begins at a place
pub record Walked (scalars stream : List ℕ) (at len : ℕ) (cs : List Pushed) (from : Counted) (chars : List Span) (end place j : ℕ) : Type 0 where
  pub counts : Counts scalars from
  pub below : j ≤ len
  pub near : place ≤ at + 65536 * j
  pub cells : length chars ≡ 32
  pub found : sets chars j (spans_from scalars stream place (drop j (take len cs))) ≡ sets (replicate 32 no_span) 0 (spans_from scalars stream at (take len cs))
  pub ended : end_from scalars stream end place (drop j (take len cs)) ≡ end_from scalars stream 0 at (take len cs)

module _ (scalars stream : List ℕ) (at len : ℕ) (cs : List Pushed) where
  pub walk_begins : (from : Counted) → Counts scalars from → Walked scalars stream at len cs from (replicate 32 no_span) 0 at 0
  walk_begins from h = record { counts = h; below = omega arith; near = omega arith; cells = refl; found = refl; ended = refl }

  module _ (held : len ≤ length cs) (from : Counted) (chars : List Span) (end place j : ℕ) (w : Walked scalars stream at len cs from chars end place j) where
    rest_is : j < len → drop j (take len cs) ≡ get_or cs j nothing ∷ drop (j + 1) (take len cs)
    rest_is h = drop-cons (take len cs) j nothing (omega (arith, length-take-le len cs held)) ∙ rw (kept_cell len j cs nothing h, add-one j)

    -- a place that a sum with a number of notes does not wrap
    pub walk_near : j < len → len ≤ 32 → at ≤ most_tokens → Near place
    walk_near h most l = omega (arith, w.near)

    -- one more character: its span, and the end of its last token
    pub walk_turns : j < len → (x : Pushed) (s : Span) (from' : Counted) (end' : ℕ) → x ≡ get_or cs j nothing → x.noted < 65536 → s ≡ span_of scalars stream place x → Counts scalars from' →
        end' ≡ end_of scalars (last_record stream place x) → Walked scalars stream at len cs from' (set chars j s) end' (place + (1 + x.noted)) (j + 1)
    unfolding spans_from end_from
    walk_turns h x s from' end' ex n es k ee =
        let r : drop j (take len cs) ≡ x ∷ drop (j + 1) (take len cs) = rest_is h ∙ ap (λ (y : Pushed). y ∷ drop (j + 1) (take len cs)) (sym ex) in
        let q : place + (1 + x.noted) ≡ place + 1 + x.noted = omega arith in
        let left : List Span = spans_from scalars stream (place + 1 + x.noted) (drop (j + 1) (take len cs)) in
        subst (λ (i : ℕ). Walked scalars stream at len cs from' (set chars j s) end' i (j + 1)) (sym q)
        (record {
          counts = k;
          below = omega arith;
          near = omega (arith, w.near);
          cells = length-set chars j s ∙ w.cells;
          found = ap (λ (i : ℕ). sets (set chars j s) i left) (add-one j)
              ∙ ap (λ (y : Span). sets (set chars j y) (suc j) left) es
              ∙ subst (λ ds. sets chars j (spans_from scalars stream place ds) ≡ sets (replicate 32 no_span) 0 (spans_from scalars stream at (take len cs))) r w.found;
          ended = ap (λ (i : ℕ). end_from scalars stream i (place + 1 + x.noted) (drop (j + 1) (take len cs))) ee
              ∙ subst (λ ds. end_from scalars stream end place ds ≡ end_from scalars stream 0 at (take len cs)) r w.ended;
        })

    -- all of them
    walk_over : len ≤ j → len ≤ 32 → (chars ≡ celled (spans_from scalars stream at (take len cs))) × (end ≡ end_from scalars stream 0 at (take len cs))
    unfolding spans_from end_from
    walk_over h most =
        let n : length (take len cs) ≡ len = length-take-le len cs held in
        let r : drop j (take len cs) ≡ [] = drop_of_length-le (take len cs) {i = j} (omega arith) in
        let f : sets chars j (spans_from scalars stream place []) ≡ sets (replicate 32 no_span) 0 (spans_from scalars stream at (take len cs)) = subst (λ ds. sets chars j (spans_from scalars stream place ds) ≡ sets (replicate 32 no_span) 0 (spans_from scalars stream at (take len cs))) r w.found in
        let e : end_from scalars stream end place [] ≡ end_from scalars stream 0 at (take len cs) = subst (λ ds. end_from scalars stream end place ds ≡ end_from scalars stream 0 at (take len cs)) r w.ended in
        (f ∙ write_all (replicate 32 no_span) (spans_from scalars stream at (take len cs)) (omega (arith, spans_length scalars stream at (take len cs))), e)

    pub walk_ends : len ≤ j → len ≤ 32 → (first : ℕ) (start : Counted) → first ≡ first_record (take len cs) → start ≡ record { index = first; bytes = offset_of scalars first } →
        ◌≡◌ {A = Spans} (record { chars = chars; start = start.bytes; end = end }) (record { chars = celled (spans_from scalars stream at (take len cs)); start = start_of scalars (take len cs); end = end_from scalars stream 0 at (take len cs) })
    walk_ends h most first start ef es =
        let o = walk_over h most in
        spans_same _ _ _ _ _ _ o.0 (ap (λ (c : Counted). c.bytes) es ∙ ap (offset_of scalars) ef) o.1
