-- A marked record without parts (SCOPE 12.3): what it gives in each mode, that in whole mode every record has a token, and that it is by
-- such records alone that the modes see other tokens. Assumes nothing.
use Prim.Native.Nat.{ℕ, zero, suc, ◌+◌, ◌<◌, ◌≤◌}
use mathlib.Core.Path.{◌≡◌, refl, sym, ◌∙◌, ap}
use mathlib.Core.Bool.{Bool, true, false, cond, ◌&&◌}
use mathlib.Core.List.{List, [], ◌∷◌}
use mathlib.Core.Logic.{⊎_elim}
use native.Mathlib.Nat.{eq-or-lt_of_le}
use native.Mathlib.Omega.{arith}
use lib.Dec.{eqb}
use lib.ListN.{length, get_or, length-append, get_or-append}
use lib.Seq.{get_or-append-add}
use Rattle.basics.proofs.Tests.{by_test}
use Rattle.basics.specs.Sets.{member}
use Rattle.classes.specs.Scalar.{khmer_signs}
use Rattle.classes.specs.declared.Mode.{Mode}
use Rattle.classes.specs.declared.Mode.TheVariants.{Crate, Whole}
use Rattle.token.specs.Token.{index_of}
use Rattle.token.proofs.Fields.{index_packed}
use Rattle.records.specs.Text.{Parts, Text, cell}
use Rattle.records.specs.Refusals.{is_complex}
use Rattle.records.specs.declared.Parser.{Parser}
use Rattle.records.specs.declared.Parser.TheVariants.{Simple, Myanmar, Complex, Khmer}
use Rattle.records.proofs.Passing.{not_so}
use Rattle.stream.specs.Stream.{Source, Splits, source_of, splits_of, own_token, part_token, part_tokens, itself, split, gather, stands_alone, gives, gives_none, stream_of}
use Rattle.stream.proofs.Piece.{length_split}
use Rattle.stream.proofs.Stream.{none_counted, some_counted, same_gather}

module _ (khmer : Bool) (s : Source) (d : Splits) (p : Parts) (i : ℕ) (marked : cell d.decomposes i ≡ 1) (without : cell d.counts i ≡ 0) where
  -- "In crate mode this must stay": it gives no token.
  pub alone_crate : split Crate khmer s d p i ≡ []
  unfolding split part_tokens
  alone_crate = rw (marked, without)

  -- "In whole mode such a record stands for itself, with its own USE class and its own emoji mark; the Khmer rule does not apply to it."
  pub alone_whole : split Whole khmer s d p i ≡ itself s i
  unfolding split
  alone_whole = rw (marked, without)

-- # Every record has a token in whole mode

whole_gives : (decompose count : ℕ) → gives_none Whole decompose count ≡ false
whole_gives decompose count = go (eqb decompose 1) (eqb count 0)
  where
    go : (a b : Bool) → cond a (cond b false b) false ≡ false
    go true true = refl
    go true false = refl
    go false b = refl

-- # The tokens of one record have its index

one_index : (x i k : ℕ) → index_of x ≡ i → k < 1 → index_of (get_or (x ∷ []) k 0) ≡ i
one_index x i zero e l = e
one_index x i (suc k) e l = absurd (omega arith)

part_index : (p : Parts) (i j n k : ℕ) → i < 4096 → k < length (part_tokens p i j n) → index_of (get_or (part_tokens p i j n) k 0) ≡ i
unfolding part_tokens
part_index p i j zero k h l = absurd (omega arith)
part_index p i j (suc n) zero h l = index_packed _ _ _ _ 0 0 i h
part_index p i j (suc n) (suc k) h l = part_index p i (j + 1) n k h (omega arith)

own_index : (s : Source) (i k : ℕ) → i < 4096 → k < length (itself s i) → index_of (get_or (itself s i) k 0) ≡ i
unfolding itself
own_index s i k h l = one_index _ i k (index_packed _ _ _ _ _ _ i h) l

split_index : (mode : Mode) (khmer : Bool) (s : Source) (d : Splits) (p : Parts) (i k : ℕ) → i < 4096 → k < length (split mode khmer s d p i) → index_of (get_or (split mode khmer s d p i) k 0) ≡ i
unfolding split
split_index mode khmer s d p i k h = go (eqb (cell d.decomposes i) 1) (stands_alone mode (cell d.counts i)) (khmer && member khmer_signs (cell s.scalars i)) k
  where
    go : (a b c : Bool) (k : ℕ) → k < length (cond a (cond b (itself s i) (part_tokens p i (cell d.firsts i) (cell d.counts i))) (cond c (part_token p (cell d.firsts i) i ∷ own_token s 0 i ∷ []) (itself s i))) →
        index_of (get_or (cond a (cond b (itself s i) (part_tokens p i (cell d.firsts i) (cell d.counts i))) (cond c (part_token p (cell d.firsts i) i ∷ own_token s 0 i ∷ []) (itself s i))) k 0) ≡ i
    go true true c k l = own_index s i k h l
    go true false c k l = part_index p i (cell d.firsts i) (cell d.counts i) k h l
    go false b true zero l = index_packed _ _ _ _ 0 0 i h
    go false b true (suc k) l = one_index _ i k (index_packed _ _ _ _ 0 _ i h) (omega arith)
    go false b false k l = own_index s i k h l

pub given_index : (mode : Mode) (parser : Parser) (t : Text) (i k : ℕ) → i < 4096 → k < length (gives mode parser t i) → index_of (get_or (gives mode parser t i) k 0) ≡ i
given_index mode Simple t i k h = own_index (source_of t.records t.records.breaks t.records.semojis) i k h
given_index mode Myanmar t i k h = own_index (source_of t.records t.records.myanmars t.records.memojis) i k h
given_index mode Complex t i k h = split_index mode false (source_of t.records t.records.uses t.records.cemojis) (splits_of t.records) t.parts i k h
given_index mode Khmer t i k h = split_index mode true (source_of t.records t.records.uses t.records.cemojis) (splits_of t.records) t.parts i k h

module _ (khmer : Bool) (s : Source) (d : Splits) (p : Parts) (i : ℕ) where
  pub some_given : 0 < length (split Whole khmer s d p i)
  some_given = omega (
    arith,
    length_split Whole khmer s d p i,
    some_counted Whole khmer (cell d.decomposes i) (cell s.scalars i) (cell d.counts i) (whole_gives (cell d.decomposes i) (cell d.counts i)),
  )

pub gives_some : (mode : Mode) (parser : Parser) (t : Text) (i : ℕ) → mode ≡ Whole → 0 < length (gives mode parser t i)
unfolding itself
gives_some mode parser t i w = rw w (go parser)
  where
    go : (parser : Parser) → 0 < length (gives Whole parser t i)
    go Simple = omega arith
    go Myanmar = omega arith
    go Complex = some_given false (source_of t.records t.records.uses t.records.cemojis) (splits_of t.records) t.parts i
    go Khmer = some_given true (source_of t.records t.records.uses t.records.cemojis) (splits_of t.records) t.parts i

-- where the tokens of record j begin
gather_place : (f : ℕ → List ℕ) (n i j : ℕ) → i ≤ j → j < i + n → 0 < length (f j) → (k : ℕ) × ((k < length (gather f i n)) × (get_or (gather f i n) k 0 ≡ get_or (f j) 0 0))
unfolding gather
gather_place f zero i j l h s = absurd (omega arith)
gather_place f (suc n) i j l h s =
    ⊎_elim
    (λ (e : i ≡ j). let s' : 0 < length (f i) = rw e s in (0, (simp length-append (omega arith), get_or-append (f i) (gather f (i + 1) n) 0 0 s' ∙ ap (λ x. get_or (f x) 0 0) e)))
    (λ q. let (k, (a, b)) = gather_place f n (i + 1) j (omega arith) (omega arith) s in (length (f i) + k, (simp length-append (omega arith), get_or-append-add (f i) (gather f (i + 1) n) k 0 ∙ b)))
    (eq-or-lt_of_le l)

-- "every record index appears": in whole mode each record of a text of 4,096 at most has a token, whatever the parser
pub record_token : (mode : Mode) (parser : Parser) (t : Text) → mode ≡ Whole → length t.records.scalars ≤ 4096 → (i : ℕ) → i < length t.records.scalars →
    (k : ℕ) × ((k < length (stream_of mode parser t)) × (index_of (get_or (stream_of mode parser t) k 0) ≡ i))
unfolding stream_of
record_token mode parser t w few i h =
    let some : 0 < length (gives mode parser t i) = gives_some mode parser t i w in
    let (k, (a, b)) = gather_place (gives mode parser t) (length t.records.scalars) 0 i (omega arith) (omega arith) some in
    (k, (a, ap index_of b ∙ given_index mode parser t i 0 (omega arith) some))

-- # Where the modes see the same tokens

-- no marked record without parts, for complex and Khmer; simple and Myanmar do not look at the mark
abbrev pub NoneAlone : Parser → Text → Type 0
NoneAlone parser t = is_complex parser ≡ true → (i : ℕ) → i < length t.records.scalars → gives_none Crate (cell t.records.decomposes i) (cell t.records.counts i) ≡ false

module _ (khmer : Bool) (s : Source) (d : Splits) (p : Parts) where
  others_agree : (i : ℕ) → gives_none Crate (cell d.decomposes i) (cell d.counts i) ≡ false → split Crate khmer s d p i ≡ split Whole khmer s d p i
  unfolding split
  others_agree i e = go (eqb (cell d.decomposes i) 1) (eqb (cell d.counts i) 0) e
    where
      go : (a b : Bool) → cond a b false ≡ false →
          cond a (part_tokens p i (cell d.firsts i) (cell d.counts i)) (cond (khmer && member khmer_signs (cell s.scalars i)) (part_token p (cell d.firsts i) i ∷ own_token s 0 i ∷ []) (itself s i))
          ≡ cond a (cond b (itself s i) (part_tokens p i (cell d.firsts i) (cell d.counts i))) (cond (khmer && member khmer_signs (cell s.scalars i)) (part_token p (cell d.firsts i) i ∷ own_token s 0 i ∷ []) (itself s i))
      go true true e = not_so (sym e)
      go true false e = refl
      go false b e = refl

  fewer_given : (i : ℕ) → gives_none Crate (cell d.decomposes i) (cell d.counts i) ≡ true → length (split Crate khmer s d p i) < length (split Whole khmer s d p i)
  fewer_given i e = omega (
    arith,
    length_split Crate khmer s d p i,
    none_counted Crate khmer (cell d.decomposes i) (cell s.scalars i) (cell d.counts i) e,
    some_given khmer s d p i,
  )

  no_more_given : (i : ℕ) → length (split Crate khmer s d p i) ≤ length (split Whole khmer s d p i)
  no_more_given i = by_test (gives_none Crate (cell d.decomposes i) (cell d.counts i))
      (λ e. omega (arith, fewer_given i e))
      (λ e. omega (arith, ap length (others_agree i e)))

module _ (f g : ℕ → List ℕ) (most : (k : ℕ) → length (f k) ≤ length (g k)) where
  no_longer : (n i : ℕ) → length (gather f i n) ≤ length (gather g i n)
  unfolding gather
  no_longer zero i = omega arith
  no_longer (suc n) i = simp length-append (omega (arith, most i, no_longer n (i + 1)))

  shorter : (n i j : ℕ) → i ≤ j → j < i + n → length (f j) < length (g j) → length (gather f i n) < length (gather g i n)
  unfolding gather
  shorter zero i j l h q = absurd (omega arith)
  shorter (suc n) i j l h q =
      ⊎_elim
      (λ (e : i ≡ j). let q' : length (f i) < length (g i) = rw e q in simp length-append (omega (arith, no_longer n (i + 1))))
      (λ r. simp length-append (omega (arith, most i, shorter n (i + 1) j (omega arith) (omega arith) q)))
      (eq-or-lt_of_le l)

module _ (t : Text) where
  abbrev source : Source
  source = source_of t.records t.records.uses t.records.cemojis

  abbrev n : ℕ
  n = length t.records.scalars

  same_split : (khmer : Bool) → ((i : ℕ) → i < n → gives_none Crate (cell t.records.decomposes i) (cell t.records.counts i) ≡ false) →
      gather (split Crate khmer source (splits_of t.records) t.parts) 0 n ≡ gather (split Whole khmer source (splits_of t.records) t.parts) 0 n
  same_split khmer f = same_gather _ _ n 0 (λ k l h. others_agree khmer source (splits_of t.records) t.parts k (f k (omega arith)))

  split_only : (khmer : Bool) → gather (split Crate khmer source (splits_of t.records) t.parts) 0 n ≡ gather (split Whole khmer source (splits_of t.records) t.parts) 0 n →
      (i : ℕ) → i < n → gives_none Crate (cell t.records.decomposes i) (cell t.records.counts i) ≡ false
  split_only khmer e i h = by_test (gives_none Crate (cell t.records.decomposes i) (cell t.records.counts i))
      (λ z. absurd (omega (
        arith,
        ap length e,
        shorter (split Crate khmer source (splits_of t.records) t.parts) (split Whole khmer source (splits_of t.records) t.parts) (no_more_given khmer source (splits_of t.records) t.parts) n 0 i (omega arith) (omega arith) (fewer_given khmer source (splits_of t.records) t.parts i z),
      )))
      (λ z. z)

  -- there they do, and nowhere else
  pub streams_same : (parser : Parser) → NoneAlone parser t → stream_of Crate parser t ≡ stream_of Whole parser t
  unfolding stream_of
  streams_same Simple f = refl
  streams_same Myanmar f = refl
  streams_same Complex f = same_split false (f refl)
  streams_same Khmer f = same_split true (f refl)

  pub streams_only : (parser : Parser) → stream_of Crate parser t ≡ stream_of Whole parser t → NoneAlone parser t
  unfolding stream_of
  streams_only Simple e c = not_so c
  streams_only Myanmar e c = not_so c
  streams_only Complex e c = split_only false e
  streams_only Khmer e c = split_only true e
