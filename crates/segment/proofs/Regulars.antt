-- Texts whose records are the tokens, and regular ones: what acceptance gives, and what is looked at. Assumes nothing.
use Prim.Native.Nat.{ℕ, zero, suc, ◌<◌, ◌≤◌}
use mathlib.Core.Path.{◌≡◌, refl, sym, ◌∙◌, ap, subst}
use mathlib.Core.Bool.{Bool, true, false, cond, not, ◌||◌}
use mathlib.Core.List.{List, [], ◌∷◌}
use native.Mathlib.Omega.{arith}
use lib.Dec.{eqb, ltb}
use lib.ListN.{length, get_or, get_or-eq_default}
use borrow.Author.Tests.{lt-ltb, eq-eqb, eqb-true, ltb-true, ltb-false}
use Rattle.basics.proofs.Tests.{by_test}
use Rattle.basics.specs.Sets.{any}
use Rattle.classes.specs.Scalar.{LF}
use Rattle.classes.specs.UseClass as UseClass
use Rattle.classes.specs.declared.Mode.{Mode}
use Rattle.token.proofs.Fields.{Says}
use Rattle.records.specs.Text.{Text, Parts, cell, record_lengths, part_lengths}
use Rattle.records.specs.Refusals.{is_complex}
use Rattle.records.specs.Sound.{Sound}
use Rattle.records.specs.declared.Parser.{Parser}
use Rattle.records.specs.declared.Parser.TheVariants.{Simple, Myanmar, Complex, Khmer}
use Rattle.records.proofs.Passing.{not_so}
use Rattle.stream.specs.Stream.{Source, Splits, source_of, splits_of, itself, split, gather, stream_of}
use Rattle.stream.proofs.Accepted.{small, own_says, complex_says, part_says}
use Rattle.stream.proofs.Stream.{same_gather}
use Rattle.parse.specs.State.{token_at}
use Rattle.tables.specs.Symbols.{Regular, implies, is_khmer_coeng, simple_regular, myanmar_regular, regular_use, use_regular}
use Rattle.segment.specs.Seen.{seen_in, seen_by, kinds_of, emojis_of, EvenBy, Direct, use_parser, Single, AllMyanmar, UseIn, PartsIn, SingleIn}
use Rattle.segment.proofs.EachToken.{each_token}
use Rattle.segment.proofs.Reading.{seen_length, token_own}

-- columns of one length

each_false : (p : ℕ → Bool) (xs : List ℕ) → any p xs ≡ false → (k : ℕ) → k < length xs → p (get_or xs k 0) ≡ false
each_false p [] e k h = absurd (omega arith)
each_false p (x ∷ xs) e k h = go (p x) (any p xs) refl refl e (λ g j l. each_false p xs g j l) k h
  where
    go : (a b : Bool) → p x ≡ a → any p xs ≡ b → (a || b) ≡ false → (any p xs ≡ false → (j : ℕ) → j < length xs → p (get_or xs j 0) ≡ false) → (k : ℕ) → k < length (x ∷ xs) → p (get_or (x ∷ xs) k 0) ≡ false
    go true b f g e later k h = not_so (sym e)
    go false b f g e later zero h = f
    go false b f g e later (suc k) h = later (g ∙ e) k (omega arith)

same_as : (n m : ℕ) → not (eqb n m) ≡ false → n ≡ m
same_as n m e = go (eqb n m) refl e
  where
    go : (b : Bool) → eqb n m ≡ b → not b ≡ false → n ≡ m
    go true f g = eqb-true n m f
    go false f g = not_so (sym g)

-- a token that says what regular cells say
regular_says : (khmer : Bool) (token x kind brk category emoji selector index : ℕ) → Says token x kind brk category emoji selector index → kind < 37 → regular_use khmer x kind emoji ≡ true → use_regular khmer token ≡ true
unfolding use_regular
regular_says khmer token x kind brk category emoji selector index w h e = rw (w.its_kind, w.its_scalar, w.its_emoji, lt-ltb kind 37 h) e

-- without its emoji mark a record stays regular
unmarked : (khmer : Bool) (x kind emoji : ℕ) → regular_use khmer x kind emoji ≡ true → regular_use khmer x kind 0 ≡ true
unfolding regular_use
unmarked khmer x kind emoji e = go (eqb emoji 1) (eqb kind UseClass.O) (implies (is_khmer_coeng khmer x) (eqb kind UseClass.H)) (eqb x LF) (eqb emoji 0) e
  where
    go : (a o b l z : Bool) → cond (cond a o true) (cond b (cond l (cond o z false) true) false) false ≡ true → cond true (cond b (cond l (cond o true false) true) false) false ≡ true
    go a o true false z e = refl
    go a true true true z e = refl
    go true false true true z e = not_so e
    go false false true true z e = not_so e
    go true true false l z e = not_so e
    go true false false l z e = not_so e
    go false o false l z e = not_so e

module _ (parser : Parser) (t : Text) (s : Sound parser t) where
  long : (k : ℕ) → k < 14 → get_or (record_lengths t.records) k 0 ≡ length t.records.scalars
  long k h = same_as (get_or (record_lengths t.records) k 0) (length t.records.scalars) (each_false (λ n. not (eqb n (get_or (record_lengths t.records) 0 0))) (record_lengths t.records) s.even k h)

  kinds_long : (p : Parser) → length (kinds_of p t) ≡ length t.records.scalars
  kinds_long Simple = long 1 (omega arith)
  kinds_long Myanmar = long 3 (omega arith)
  kinds_long Complex = long 2 (omega arith)
  kinds_long Khmer = long 2 (omega arith)

  emojis_long : (p : Parser) → length (emojis_of p t) ≡ length t.records.scalars
  emojis_long Simple = long 6 (omega arith)
  emojis_long Myanmar = long 7 (omega arith)
  emojis_long Complex = long 8 (omega arith)
  emojis_long Khmer = long 8 (omega arith)

  pub even : (p : Parser) → EvenBy p t
  even p = record {
    kind = kinds_long p;
    break = long 1 (omega arith);
    category = long 4 (omega arith);
    emoji = emojis_long p;
    selector = long 10 (omega arith);
    small = λ k. by_test (ltb k (length t.records.scalars))
        (λ h. small (cell t.records.scalars k) (s.rows k (ltb-true k (length t.records.scalars) h)).scalar)
        (λ h. let z : cell t.records.scalars k ≡ 0 = get_or-eq_default t.records.scalars 0 {n = k} (ltb-false k (length t.records.scalars) h) in omega arith);
  }

  pub parts_long : length t.parts.puses ≡ length t.parts.pscalars
  parts_long = same_as (length t.parts.puses) (length t.parts.pscalars) (each_false (λ n. not (eqb n (get_or (part_lengths t.parts) 0 0))) (part_lengths t.parts) s.even_parts 2 (omega arith))

  pub marks_long : length t.records.decomposes ≡ length t.records.scalars
  marks_long = long 11 (omega arith)

  kind_fits : (p : Parser) (i : ℕ) → i < length t.records.scalars → cell (kinds_of p t) i < 64
  kind_fits Simple i h = omega (arith, (s.rows i h).breaks)
  kind_fits Myanmar i h = omega (arith, (s.rows i h).myanmar)
  kind_fits Complex i h = omega (arith, (s.rows i h).uses)
  kind_fits Khmer i h = omega (arith, (s.rows i h).uses)

  emoji_fits : (p : Parser) (i : ℕ) → i < length t.records.scalars → cell (emojis_of p t) i < 2
  emoji_fits Simple i h = (s.rows i h).semoji
  emoji_fits Myanmar i h = (s.rows i h).memoji
  emoji_fits Complex i h = (s.rows i h).cemoji
  emoji_fits Khmer i h = (s.rows i h).cemoji

  -- a token that is seen says what its cells say
  seen_says : (p : Parser) (i : ℕ) → i < length t.records.scalars → Says (token_at (seen_by p t) i) (cell t.records.scalars i) (cell (kinds_of p t) i) (cell t.records.breaks i) (cell t.records.categories i) (cell (emojis_of p t) i) (cell t.records.selectors i) i
  seen_says p i h =
      subst (λ token. Says token (cell t.records.scalars i) (cell (kinds_of p t) i) (cell t.records.breaks i) (cell t.records.categories i) (cell (emojis_of p t) i) (cell t.records.selectors i) i)
      (sym (token_own t.records.scalars (kinds_of p t) t.records.breaks t.records.categories (emojis_of p t) t.records.selectors i h))
      (own_says parser t s i h (kinds_of p t) (emojis_of p t) (cell (emojis_of p t) i) (kind_fits p i h) (emoji_fits p i h))

  inside : (p : Parser) (i : ℕ) → i < length (seen_by p t) → i < length t.records.scalars
  inside p i h = omega (arith, h, seen_length t.records.scalars (kinds_of p t) t.records.breaks t.records.categories (emojis_of p t) t.records.selectors)

  -- simple: what acceptance gives is enough
  regular_simple : Regular Simple (seen_by Simple t)
  unfolding simple_regular
  regular_simple i h =
      let l = inside Simple i h in
      let w = seen_says Simple i l in
      rw (w.its_kind, w.its_break, lt-ltb (cell t.records.breaks i) 14 (s.rows i l).breaks, eq-eqb (cell t.records.breaks i) (cell t.records.breaks i) refl)

  regular_myanmar_lem : AllMyanmar t.records.scalars t.records.myanmars t.records.memojis → Regular Myanmar (seen_by Myanmar t)
  unfolding myanmar_regular
  regular_myanmar_lem a i h =
      let l = inside Myanmar i h in
      let w = seen_says Myanmar i l in
      rw (w.its_kind, w.its_scalar, w.its_emoji, lt-ltb (cell t.records.myanmars i) 26 (s.rows i l).myanmar) (a i l)

  module _ (khmer : Bool) (a : UseIn khmer t) where
    use_seen : (i : ℕ) → i < length (seen_by Complex t) → use_regular khmer (token_at (seen_by Complex t) i) ≡ true
    use_seen i h =
        let l = inside Complex i h in
        regular_says khmer _ _ _ _ _ _ _ _ (seen_says Complex i l) (s.rows i l).uses (a i l)

  regular_use_lem : (khmer : Bool) → UseIn khmer t → Regular (use_parser khmer) (seen_by (use_parser khmer) t)
  regular_use_lem true a = use_seen true a
  regular_use_lem false a = use_seen false a

  -- the tokens of split records: a record with its mark and without it, and a part
  module _ (khmer : Bool) (mode : Mode) (c : is_complex parser ≡ true) (a : PartsIn khmer t × UseIn khmer t) where
    pub split_regular : (i : ℕ) → i < length (stream_of mode parser t) → use_regular khmer (token_at (stream_of mode parser t) i) ≡ true
    split_regular =
        each_token mode parser t c s (λ token. use_regular khmer token ≡ true)
        (λ i h. regular_says khmer _ _ _ _ _ _ _ _ (complex_says parser t s i h (cell t.records.cemojis i) (s.rows i h).cemoji) (s.rows i h).uses (a.1 i h))
        (λ i h. regular_says khmer _ _ _ _ _ _ _ _ (complex_says parser t s i h 0 (omega arith)) (s.rows i h).uses (unmarked khmer (cell t.records.scalars i) (cell t.records.uses i) (cell t.records.cemojis i) (a.1 i h)))
        (λ i h j l. regular_says khmer _ _ _ _ _ _ _ _ (part_says parser t s i h j l) (s.parts j l).uses (a.0 j l))

-- the stream is what is seen

pub split_single : (mode : Mode) (khmer : Bool) (s : Source) (d : Splits) (p : Parts) (i : ℕ) → Single khmer (cell s.scalars i) (cell d.decomposes i) → split mode khmer s d p i ≡ itself s i
unfolding split
split_single mode khmer s d p i w = rw (w.marked, w.sign) refl

module _ (mode : Mode) (t : Text) where
  stream_simple : stream_of mode Simple t ≡ seen_by Simple t
  unfolding stream_of seen_in
  stream_simple = refl

  stream_myanmar : stream_of mode Myanmar t ≡ seen_by Myanmar t
  unfolding stream_of seen_in
  stream_myanmar = refl

  gathered_use : (khmer : Bool) → SingleIn khmer t → gather (split mode khmer (source_of t.records t.records.uses t.records.cemojis) (splits_of t.records) t.parts) 0 (length t.records.scalars) ≡ seen_by Complex t
  unfolding seen_in
  gathered_use khmer a = same_gather _ _ (length t.records.scalars) 0 (λ k l h. split_single mode khmer (source_of t.records t.records.uses t.records.cemojis) (splits_of t.records) t.parts k (a k (omega arith)))

  stream_use : (khmer : Bool) → SingleIn khmer t → stream_of mode (use_parser khmer) t ≡ seen_by (use_parser khmer) t
  unfolding stream_of
  stream_use true a = gathered_use true a
  stream_use false a = gathered_use false a

pub regular_tokens : (khmer : Bool) (text : List ℕ) → ((k : ℕ) → k < length text → use_regular khmer (token_at text k) ≡ true) → Regular (use_parser khmer) text
regular_tokens true text f = f
regular_tokens false text f = f

complex_use : (khmer : Bool) → is_complex (use_parser khmer) ≡ true
complex_use true = refl
complex_use false = refl

module _ (mode : Mode) (parser : Parser) (t : Text) (s : Sound parser t) where
  pub direct_simple : parser ≡ Simple → Direct mode parser t
  direct_simple e = subst (λ p. Direct mode p t) (sym e) (record { same = stream_simple mode t; regular = regular_simple parser t s })

  pub direct_myanmar : parser ≡ Myanmar → AllMyanmar t.records.scalars t.records.myanmars t.records.memojis → Direct mode parser t
  direct_myanmar e a = subst (λ p. Direct mode p t) (sym e) (record { same = stream_myanmar mode t; regular = regular_myanmar_lem parser t s a })

  pub direct_use : (khmer : Bool) → parser ≡ use_parser khmer → SingleIn khmer t × UseIn khmer t → Direct mode parser t
  direct_use khmer e a = subst (λ p. Direct mode p t) (sym e) (record { same = stream_use mode t khmer a.0; regular = regular_use_lem parser t s khmer a.1 })

  pub parted_use : (khmer : Bool) → parser ≡ use_parser khmer → PartsIn khmer t × UseIn khmer t → Regular parser (stream_of mode parser t)
  parted_use khmer e a =
      let f = split_regular parser t s khmer mode (ap is_complex e ∙ complex_use khmer) a in
      subst (λ p. Regular p (stream_of mode parser t)) (sym e) (regular_tokens khmer (stream_of mode parser t) f)

  pub direct_length : Direct mode parser t → length t.records.scalars ≡ length (stream_of mode parser t)
  direct_length d = sym (ap length d.same ∙ seen_length t.records.scalars (kinds_of parser t) t.records.breaks t.records.categories (emojis_of parser t) t.records.selectors)

-- a pass over all records
pub each_all : (P : ℕ → Type 0) (n i p : ℕ) → (p ≡ 0 → (k : ℕ) → k < i → P k) → n ≤ i → p ≡ 0 → (k : ℕ) → k < n → P k
each_all P n i p f l e k h = f e k (omega arith)
