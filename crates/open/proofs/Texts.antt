-- The stream of an extended text begins with the stream of the lent one, so that the laws of streams are laws of texts. Assumes nothing.
use Rattle.std.specs.Prelude.{Ok}
use Prim.Native.Nat.{ℕ, zero, suc, ◌+◌, ◌-◌, ◌<◌, ◌≤◌}
use mathlib.Core.Path.{◌≡◌, refl, sym, ◌∙◌, ap}
use mathlib.Core.Bool.{Bool, true, false, ◌&&◌, false≢true}
use mathlib.Core.List.{List, ◌++◌, append_assoc}
use native.Mathlib.Omega.{arith}
use lib.Dec.{eqb}
use lib.ListN.{length}
use borrow.Author.Tests.{eqb-true, eqb-false, eq-eqb}
use Rattle.basics.specs.Sets.{member}
use Rattle.classes.specs.Scalar.{khmer_signs}
use Rattle.classes.specs.declared.Mode.{Mode}
use Rattle.records.specs.Text.{Records, Parts, Text, cell}
use Rattle.records.specs.Refusals.{verdict, is_khmer, bad_sign, is_split}
use Rattle.records.specs.declared.Parser.{Parser}
use Rattle.records.specs.declared.Parser.TheVariants.{Simple, Myanmar, Complex, Khmer}
use Rattle.records.proofs.Accepted.{accepted_sound}
use Rattle.basics.proofs.Tests.{by_test, both}
use Rattle.stream.specs.Stream.{source_of, splits_of, part_token, part_tokens, itself, stands_alone, split, gather, gives, stream_of}
use Rattle.open.specs.Texts.{MoreParts, Extends}

gather_more : (g : ℕ → List ℕ) (n m i : ℕ) → gather g i (n + m) ≡ gather g i n ++ gather g (i + n) m
unfolding gather
gather_more g zero m i = let a : zero + m ≡ m = omega arith in let b : i + zero ≡ i = omega arith in rw (a, b)
gather_more g (suc n) m i =
    let a : suc n + m ≡ suc (n + m) = omega arith in
    let b : i + suc n ≡ i + 1 + n = omega arith in
    rw (a, b) (ap (λ ts. g i ++ ts) (gather_more g n m (i + 1)) ∙ sym (append_assoc (g i) _ _))

gather_same : (g g' : ℕ → List ℕ) (n i : ℕ) → ((k : ℕ) → k < i + n → g k ≡ g' k) → gather g i n ≡ gather g' i n
unfolding gather
gather_same g g' zero i f = refl
gather_same g g' (suc n) i f = rw (f i (omega arith), gather_same g g' n (i + 1) (λ k h. f k (omega arith)))

module _ (n : ℕ) (p p' : Parts) (e : MoreParts n p p') (i : ℕ) where
  part_same : (j : ℕ) → j < n → part_token p' j i ≡ part_token p j i
  part_same j h = rw (e.scalars j h, e.uses j h, e.breaks j h, e.categories j h)

  parts_same : (m j : ℕ) → j + m ≤ n → part_tokens p' i j m ≡ part_tokens p i j m
  unfolding part_tokens
  parts_same zero j h = refl
  parts_same (suc m) j h = rw (part_same j (omega arith), parts_same m (j + 1) (omega arith))

-- a Khmer sign that is not marked has one part
sign_one : (decompose scalar count part : ℕ) → decompose < 2 → eqb decompose 1 ≡ false → member khmer_signs scalar ≡ true → bad_sign decompose scalar count part ≡ false → count ≡ 1
unfolding bad_sign is_split
sign_one decompose scalar count part l m k e =
    let z : decompose ≡ 0 = by_test (eqb decompose 0) (λ x. eqb-true decompose 0 x)
    (λ x. absurd (no decompose l (eqb-false decompose 0 x) (eqb-false decompose 1 m))) in
    by_test (eqb count 1) (λ c. eqb-true count 1 c) (λ c. absurd (false≢true (sym (rw (eq-eqb decompose 0 z, k, c) at e))))
  where
    no : (d : ℕ) → d < 2 → (d ≡ 0 → ⊥) → (d ≡ 1 → ⊥) → ⊥
    no zero l a b = a refl
    no (suc zero) l a b = b refl
    no (suc (suc d)) l a b = omega arith

module _ (parser : Parser) (t t' : Text) (accepted : verdict parser t ≡ Ok tt) (e : Extends t t') (i : ℕ) (h : i < length t.records.scalars) where
  abbrev r : Records
  r = t.records

  abbrev r' : Records
  r' = t'.records

  simple_same : itself (source_of r' r'.breaks r'.semojis) i ≡ itself (source_of r r.breaks r.semojis) i
  unfolding itself
  simple_same = let m = e.records in rw (m.scalars i h, m.breaks i h, m.categories i h, m.semojis i h, m.selectors i h)

  myanmar_same : itself (source_of r' r'.myanmars r'.memojis) i ≡ itself (source_of r r.myanmars r.memojis) i
  unfolding itself
  myanmar_same = let m = e.records in rw (m.scalars i h, m.myanmars i h, m.breaks i h, m.categories i h, m.memojis i h, m.selectors i h)

  complex_same : itself (source_of r' r'.uses r'.cemojis) i ≡ itself (source_of r r.uses r.cemojis) i
  unfolding itself
  complex_same = let m = e.records in rw (m.scalars i h, m.uses i h, m.breaks i h, m.categories i h, m.cemojis i h, m.selectors i h)

  run_in : cell r.firsts i + cell r.counts i ≤ length t.parts.pscalars
  run_in = ((accepted_sound parser t accepted).rows i h).run

  split_same : (mode : Mode) (khmer : Bool) → (khmer ≡ true → is_khmer parser ≡ true) → split mode khmer (source_of r' r'.uses r'.cemojis) (splits_of r') t'.parts i ≡ split mode khmer (source_of r r.uses r.cemojis) (splits_of r) t.parts i
  unfolding split
  split_same mode khmer k =
      let m = e.records in
      rw (m.decomposes i h, m.firsts i h, m.counts i h, m.scalars i h)
      (by_test (eqb (cell r.decomposes i) 1)
      (λ d. rw d (by_test (stands_alone mode (cell r.counts i)) (λ a. rw a complex_same)
      (λ a. rw a (parts_same (length t.parts.pscalars) t.parts t'.parts e.parts i (cell r.counts i) (cell r.firsts i) run_in))))
      (λ d. rw d (by_test (khmer && member khmer_signs (cell r.scalars i))
      (λ s. let sound = accepted_sound parser t accepted in
      let signs = both khmer _ s in
      let one : cell r.counts i ≡ 1 = sign_one (cell r.decomposes i) (cell r.scalars i) (cell r.counts i) _ (sound.rows i h).decompose d signs.1 (sound.signs (k signs.0) i h) in
      let lent : cell r.firsts i < length t.parts.pscalars = omega (arith, run_in) in
      rw (s, part_same (length t.parts.pscalars) t.parts t'.parts e.parts i (cell r.firsts i) lent, m.uses i h, m.breaks i h, m.categories i h, m.selectors i h))
      (λ s. rw s complex_same))))

same_gives : (mode : Mode) (parser : Parser) (t t' : Text) → verdict parser t ≡ Ok tt → Extends t t' → (i : ℕ) → i < length t.records.scalars → gives mode parser t' i ≡ gives mode parser t i
same_gives mode Simple t t' a e i h = simple_same Simple t t' a e i h
same_gives mode Myanmar t t' a e i h = myanmar_same Myanmar t t' a e i h
same_gives mode Complex t t' a e i h = split_same Complex t t' a e i h mode false (λ k. absurd (false≢true k))
same_gives mode Khmer t t' a e i h = split_same Khmer t t' a e i h mode true (λ k. refl)

module _ (mode : Mode) (parser : Parser) (t t' : Text) (accepted : verdict parser t ≡ Ok tt) (e : Extends t t') where
  -- the tokens of the records that came
  pub stream_more : stream_of mode parser t' ≡ stream_of mode parser t ++ gather (gives mode parser t') (length t.records.scalars) (length t'.records.scalars - length t.records.scalars)
  unfolding stream_of
  stream_more =
      let n = length t.records.scalars in
      let m = length t'.records.scalars - n in
      let l = e.long in
      let all : length t'.records.scalars ≡ n + m = omega arith in
      let none : 0 + n ≡ n = omega arith in
      ap (gather (gives mode parser t') 0) all ∙ gather_more (gives mode parser t') n m 0
      ∙ ap (λ (k : ℕ). gather (gives mode parser t') 0 n ++ gather (gives mode parser t') k m) none
      ∙ ap (λ ts. ts ++ gather (gives mode parser t') n m) (gather_same (gives mode parser t') (gives mode parser t) n 0 (λ k h. same_gives mode parser t t' accepted e k (omega arith)))

  -- **The stream of an extended text is the lent one's and more.**
  pub stream_grows : (more : List ℕ) × (stream_of mode parser t' ≡ stream_of mode parser t ++ more)
  stream_grows = (gather (gives mode parser t') (length t.records.scalars) (length t'.records.scalars - length t.records.scalars), stream_more)
