-- An accepted text with one more record: it is accepted, it extends the text, and its stream is one token longer. Assumes nothing.
use Rattle.std.specs.Prelude.{Ok}
use Prim.Native.Nat.{ℕ, zero, suc, ◌+◌, ◌-◌, ◌<◌, ◌≤◌}
use mathlib.Core.Path.{◌≡◌, refl, sym, ◌∙◌, ap, subst}
use mathlib.Core.Bool.{true, false, not, false≢true}
use mathlib.Core.List.{List, [], ◌∷◌, ◌++◌, append-nil}
use native.Mathlib.Omega.{arith}
use native.Mathlib.Nat.{le_refl}
use lib.Dec.{eqb, ltb}
use lib.ListN.{length, get_or, replicate, length-append, get_or-append}
use lib.Seq.{get_or-append_seam, get_or-append-add}
use borrow.Author.Tests.{le-ltb, eq-eqb, eqb-true, ltb-true, ltb-false}
use Rattle.basics.specs.Sets.{any, member}
use Rattle.basics.proofs.Tests.{by_test, neither}
use Rattle.classes.specs.Scalar.{khmer_signs}
use Rattle.classes.specs.declared.Mode.{Mode}
use Rattle.records.specs.declared.Row.{Row}
use Rattle.records.specs.Text.{Text, cell, row_of, record_lengths}
use Rattle.records.specs.Refusals.{verdict, bad_sign, is_khmer, too_long, uneven}
use Rattle.records.specs.Sound.{Sound, SoundRow}
use Rattle.records.specs.declared.Parser.{Parser}
use Rattle.records.specs.declared.Parser.TheVariants.{Simple, Myanmar, Complex, Khmer}
use Rattle.records.proofs.Accepted.{accepted_sound, sound_accepted}
use Rattle.token.specs.Token.{index_of, packed}
use Rattle.stream.specs.Stream.{itself, split, gather, gives, stream_of}
use Rattle.stream.proofs.Alone.{given_index}
use Rattle.open.specs.Texts.{Extends, with_record}
use Rattle.open.proofs.Texts.{stream_more}

-- a column with one more cell
pub record Grew (n : ℕ) (column : List ℕ) (x : ℕ) : Type 0 where
  pub long : length (column ++ (x ∷ [])) ≡ n + 1
  pub same : (i : ℕ) → i < n → cell (column ++ (x ∷ [])) i ≡ cell column i
  pub new : cell (column ++ (x ∷ [])) n ≡ x

grew : (n : ℕ) (column : List ℕ) (x : ℕ) → length column ≡ n → Grew n column x
grew n column x e = record {
  long = length-append column (x ∷ []) ∙ ap (λ (k : ℕ). k + 1) e;
  same = λ i h. get_or-append column (x ∷ []) 0 i (omega arith);
  new = ap (cell (column ++ (x ∷ []))) (sym e) ∙ get_or-append_seam column x [] 0;
}

-- columns of one length
abbrev Level : ℕ → List ℕ → Type 0
Level n [] = Unit
Level n (m ∷ ms) = (m ≡ n) × Level n ms

level : (n : ℕ) (ms : List ℕ) → any (λ m. not (eqb m n)) ms ≡ false → Level n ms
level n [] e = tt
level n (m ∷ ms) e = let z = neither (not (eqb m n)) (any (λ m. not (eqb m n)) ms) e in
    (by_test (eqb m n) (λ h. eqb-true m n h) (λ h. absurd (false≢true (sym (rw h at z.0)))), level n ms z.1)

-- the token of a record
abbrev pub token_for : Parser → Row → ℕ → ℕ
token_for Simple r i = packed r.scalar r.breaks r.breaks r.category r.semoji r.selector i
token_for Myanmar r i = packed r.scalar r.myanmar r.breaks r.category r.memoji r.selector i
token_for Complex r i = packed r.scalar r.uses r.breaks r.category r.cemoji r.selector i
token_for Khmer r i = packed r.scalar r.uses r.breaks r.category r.cemoji r.selector i

-- one that is not split
row_gives : (mode : Mode) (parser : Parser) (t : Text) (i : ℕ) (r : Row) → row_of t.records i ≡ r → eqb r.decompose 1 ≡ false → member khmer_signs r.scalar ≡ false → gives mode parser t i ≡ token_for parser r i ∷ []
unfolding itself split
row_gives mode Simple t i r e d k = ap (λ (r : Row). token_for Simple r i ∷ []) e
row_gives mode Myanmar t i r e d k = ap (λ (r : Row). token_for Myanmar r i ∷ []) e
row_gives mode Complex t i r e d k = rw (ap (λ (r : Row). eqb r.decompose 1) e ∙ d) (ap (λ (r : Row). token_for Complex r i ∷ []) e)
row_gives mode Khmer t i r e d k = rw (ap (λ (r : Row). eqb r.decompose 1) e ∙ d, ap (λ (r : Row). member khmer_signs r.scalar) e ∙ k) (ap (λ (r : Row). token_for Khmer r i ∷ []) e)

module _ (parser : Parser) (t : Text) (r : Row) (accepted : verdict parser t ≡ Ok tt) (room : length t.records.scalars < 4096)
    (sound : SoundRow parser (length t.parts.pscalars) r)
    (sign : is_khmer parser ≡ true → bad_sign r.decompose r.scalar r.count (cell t.parts.pscalars r.first) ≡ false) where
  abbrev n : ℕ
  n = length t.records.scalars

  abbrev more : Text
  more = with_record t r

  lent : Sound parser t
  lent = accepted_sound parser t accepted

  levels : Level n (record_lengths t.records)
  levels = level n (record_lengths t.records) lent.even

  g_scalar : Grew n t.records.scalars r.scalar
  g_scalar = grew n t.records.scalars r.scalar levels.0

  g_breaks : Grew n t.records.breaks r.breaks
  g_breaks = grew n t.records.breaks r.breaks levels.1.0

  g_uses : Grew n t.records.uses r.uses
  g_uses = grew n t.records.uses r.uses levels.1.1.0

  g_myanmar : Grew n t.records.myanmars r.myanmar
  g_myanmar = grew n t.records.myanmars r.myanmar levels.1.1.1.0

  g_category : Grew n t.records.categories r.category
  g_category = grew n t.records.categories r.category levels.1.1.1.1.0

  g_word : Grew n t.records.words r.word
  g_word = grew n t.records.words r.word levels.1.1.1.1.1.0

  g_semoji : Grew n t.records.semojis r.semoji
  g_semoji = grew n t.records.semojis r.semoji levels.1.1.1.1.1.1.0

  g_memoji : Grew n t.records.memojis r.memoji
  g_memoji = grew n t.records.memojis r.memoji levels.1.1.1.1.1.1.1.0

  g_cemoji : Grew n t.records.cemojis r.cemoji
  g_cemoji = grew n t.records.cemojis r.cemoji levels.1.1.1.1.1.1.1.1.0

  g_pictograph : Grew n t.records.pictographs r.pictograph
  g_pictograph = grew n t.records.pictographs r.pictograph levels.1.1.1.1.1.1.1.1.1.0

  g_selector : Grew n t.records.selectors r.selector
  g_selector = grew n t.records.selectors r.selector levels.1.1.1.1.1.1.1.1.1.1.0

  g_decompose : Grew n t.records.decomposes r.decompose
  g_decompose = grew n t.records.decomposes r.decompose levels.1.1.1.1.1.1.1.1.1.1.1.0

  g_first : Grew n t.records.firsts r.first
  g_first = grew n t.records.firsts r.first levels.1.1.1.1.1.1.1.1.1.1.1.1.0

  g_count : Grew n t.records.counts r.count
  g_count = grew n t.records.counts r.count levels.1.1.1.1.1.1.1.1.1.1.1.1.1.0

  row_same : (i : ℕ) → i < n → row_of more.records i ≡ row_of t.records i
  row_same i h = rw (g_scalar.same i h, g_breaks.same i h, g_uses.same i h, g_myanmar.same i h, g_category.same i h, g_word.same i h, g_semoji.same i h, g_memoji.same i h, g_cemoji.same i h, g_pictograph.same i h, g_selector.same i h, g_decompose.same i h, g_first.same i h, g_count.same i h)

  row_new : row_of more.records n ≡ r
  row_new = rw (g_scalar.new, g_breaks.new, g_uses.new, g_myanmar.new, g_category.new, g_word.new, g_semoji.new, g_memoji.new, g_cemoji.new, g_pictograph.new, g_selector.new, g_decompose.new, g_first.new, g_count.new)

  lengths : record_lengths more.records ≡ replicate 14 (n + 1)
  lengths = rw (g_scalar.long, g_breaks.long, g_uses.long, g_myanmar.long, g_category.long, g_word.long, g_semoji.long, g_memoji.long, g_cemoji.long, g_pictograph.long, g_selector.long, g_decompose.long, g_first.long, g_count.long)

  pub extends : Extends t more
  extends = record {
    long = omega (arith, g_scalar.long);
    long_parts = le_refl _;
    records = record {
      scalars = g_scalar.same;
      breaks = g_breaks.same;
      uses = g_uses.same;
      myanmars = g_myanmar.same;
      categories = g_category.same;
      words = g_word.same;
      semojis = g_semoji.same;
      memojis = g_memoji.same;
      cemojis = g_cemoji.same;
      pictographs = g_pictograph.same;
      selectors = g_selector.same;
      decomposes = g_decompose.same;
      firsts = g_first.same;
      counts = g_count.same;
    };
    parts = record { scalars = λ i h. refl; breaks = λ i h. refl; uses = λ i h. refl; categories = λ i h. refl };
  }

  by_place : (P : ℕ → Type 0) → ((i : ℕ) → i < n → P i) → P n → (i : ℕ) → i < length more.records.scalars → P i
  by_place P old new i h = by_test (ltb i n) (λ l. old i (ltb-true _ _ l))
      (λ l. let e : i ≡ n = omega (arith, ltb-false i n l, g_scalar.long) in subst P (sym e) new)

  more_sound : Sound parser more
  more_sound = record {
    short = ap too_long lengths ∙ rw (le-ltb 4096 (n + 1) (omega arith));
    short_parts = lent.short_parts;
    even = ap uneven lengths ∙ rw (eq-eqb (n + 1) (n + 1) refl);
    even_parts = lent.even_parts;
    parts = lent.parts;
    rows = by_place (λ i. SoundRow parser (length t.parts.pscalars) (row_of more.records i))
        (λ i h. subst (SoundRow parser (length t.parts.pscalars)) (sym (row_same i h)) (lent.rows i h))
        (subst (SoundRow parser (length t.parts.pscalars)) (sym row_new) sound);
    signs = λ k. by_place (λ i. bad_sign (cell more.records.decomposes i) (cell more.records.scalars i) (cell more.records.counts i) (cell t.parts.pscalars (cell more.records.firsts i)) ≡ false)
        (λ i h. rw (g_decompose.same i h, g_scalar.same i h, g_count.same i h, g_first.same i h) (lent.signs k i h))
        (rw (g_decompose.new, g_scalar.new, g_count.new, g_first.new) (sign k));
  }

  -- a record that is not split is one token more
  pub more_stream : (mode : Mode) → eqb r.decompose 1 ≡ false → member khmer_signs r.scalar ≡ false → stream_of mode parser more ≡ stream_of mode parser t ++ (token_for parser r n ∷ [])
  unfolding gather
  more_stream mode d k =
      let one : length more.records.scalars - n ≡ 1 = omega (arith, g_scalar.long) in
      stream_more mode parser t more accepted extends
      ∙ ap (λ (m : ℕ). stream_of mode parser t ++ gather (gives mode parser more) n m) one
      ∙ ap (λ ts. stream_of mode parser t ++ ts) (append-nil (gives mode parser more n) ∙ row_gives mode parser more n r row_new d k)

  pub more_accepted : verdict parser more ≡ Ok tt
  more_accepted = sound_accepted parser more more_sound

-- every token is of one of the records
module _ (g : ℕ → List ℕ) where
  gather_index : (n i : ℕ) → ((j k : ℕ) → j < i + n → k < length (g j) → index_of (get_or (g j) k 0) ≡ j) → (p : ℕ) → p < length (gather g i n) → index_of (get_or (gather g i n) p 0) < i + n
  unfolding gather
  gather_index zero i f p h = absurd (omega arith)
  gather_index (suc n) i f p h = by_test (ltb p (length (g i)))
      (λ l. let e = ap index_of (get_or-append (g i) (gather g (i + 1) n) 0 p (ltb-true _ _ l)) ∙ f i p (omega arith) (ltb-true _ _ l) in omega (arith, e))
      (λ l. let q : ℕ = p - length (g i) in
      let there : p ≡ length (g i) + q = omega (arith, ltb-false p (length (g i)) l) in
      let e = ap (λ (k : ℕ). index_of (get_or (g i ++ gather g (i + 1) n) k 0)) there ∙ ap index_of (get_or-append-add (g i) (gather g (i + 1) n) q 0) in
      let later = gather_index n (i + 1) (λ j k a b. f j k (omega arith) b) q (omega (arith, length-append (g i) (gather g (i + 1) n))) in
      omega (arith, e, later))

pub token_record : (mode : Mode) (parser : Parser) (t : Text) → length t.records.scalars ≤ 4096 → (p : ℕ) → p < length (stream_of mode parser t) → index_of (get_or (stream_of mode parser t) p 0) < length t.records.scalars
unfolding stream_of
token_record mode parser t l p h =
    let m = gather_index (gives mode parser t) (length t.records.scalars) 0 (λ j k a b. given_index mode parser t j k (omega arith) b) p h in omega (arith, m)
