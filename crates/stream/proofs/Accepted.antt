-- The stream of an accepted text: how long it can be, that the count is its length, and that its tokens say what the lent cells say.
-- Assumes nothing.
use Prim.Native.Nat.{ℕ, zero, suc, ◌+◌, ◌*◌, ◌<◌, ◌≤◌, min}
use mathlib.Core.Path.{◌≡◌, refl, sym}
use mathlib.Core.Bool.{Bool, true, false, cond, ◌&&◌, ◌||◌}
use mathlib.Core.List.{List, ◌∷◌}
use native.Mathlib.Omega.{arith}
use lib.Dec.{eqb, leb, ltb}
use lib.ListN.{length, drop, length-append}
use borrow.Author.Tests.{ltb-false}
use Rattle.basics.specs.Sets.{any, member}
use Rattle.classes.specs.Scalar.{khmer_signs}
use Rattle.classes.specs.declared.Mode.{Mode}
use Rattle.token.proofs.Fields.{Says, packed_says}
use Rattle.records.specs.Text.{Parts, Text, cell, record_lengths}
use Rattle.records.specs.Refusals.{bad_scalar, most}
use Rattle.records.specs.Sound.{Sound}
use Rattle.records.specs.declared.Parser.{Parser}
use Rattle.records.specs.declared.Parser.TheVariants.{Simple, Myanmar, Complex, Khmer}
use Rattle.stream.specs.Stream.{Source, Splits, source_of, splits_of, own_token, part_token, stands_alone, split, gather, stream_of, piece_count, count_from, most_tokens}
use Rattle.stream.proofs.Piece.{length_split}
use Rattle.stream.proofs.Stream.{count_stream, length_records}

first_false : (p : ℕ → Bool) (x : ℕ) (xs : List ℕ) → any p (x ∷ xs) ≡ false → p x ≡ false
first_false p x xs e = go (p x) (any p xs) refl e
  where
    go : (a b : Bool) → p x ≡ a → (a || b) ≡ false → p x ≡ false
    go false b f g = f
    go true b f g = absurd (let z : ◌≡◌ {A = ℕ} 0 1 = cc in omega arith)

-- at most 4,096 records
pub few : (parser : Parser) (t : Text) → Sound parser t → length t.records.scalars ≤ 4096
few parser t s = ltb-false most (length t.records.scalars) (first_false (ltb most) (length t.records.scalars) (drop 1 (record_lengths t.records)) s.short)

-- a record gives at most 3 tokens
piece_most : (mode : Mode) (khmer : Bool) (decompose scalar count : ℕ) → count ≤ 3 → piece_count mode khmer decompose scalar count ≤ 3
unfolding piece_count
piece_most mode khmer decompose scalar count h = go (eqb decompose 1) (stands_alone mode count) (khmer && member khmer_signs scalar)
  where
    go : (a b c : Bool) → cond a (cond b 1 count) (cond c 2 1) ≤ 3
    go true true c = omega arith
    go true false c = h
    go false b true = omega arith
    go false b false = omega arith

split_most : (mode : Mode) (khmer : Bool) (s : Source) (d : Splits) (p : Parts) (n i : ℕ) → ((k : ℕ) → i ≤ k → k < i + n → cell d.counts k ≤ 3) → length (gather (split mode khmer s d p) i n) ≤ 3 * n
unfolding gather
split_most mode khmer s d p zero i f = omega arith
split_most mode khmer s d p (suc n) i f =
    simp length-append
    (omega (
      arith,
      length_split mode khmer s d p i,
      piece_most mode khmer (cell d.decomposes i) (cell s.scalars i) (cell d.counts i) (f i (omega arith) (omega arith)),
      split_most mode khmer s d p n (i + 1) (λ k l h. f k (omega arith) (omega arith)),
    ))

-- what the arrays of a call have room for
pub stream_room : (mode : Mode) (parser : Parser) (t : Text) → Sound parser t → length (stream_of mode parser t) ≤ most_tokens
unfolding stream_of
stream_room mode Simple t s = omega (arith, few Simple t s, length_records (source_of t.records t.records.breaks t.records.semojis) (length t.records.scalars) 0)
stream_room mode Myanmar t s = omega (arith, few Myanmar t s, length_records (source_of t.records t.records.myanmars t.records.memojis) (length t.records.scalars) 0)
stream_room mode Complex t s = omega (arith, few Complex t s, split_most mode false (source_of t.records t.records.uses t.records.cemojis) (splits_of t.records) t.parts (length t.records.scalars) 0 (λ k l h. (s.rows k (omega arith)).count))
stream_room mode Khmer t s = omega (arith, few Khmer t s, split_most mode true (source_of t.records t.records.uses t.records.cemojis) (splits_of t.records) t.parts (length t.records.scalars) 0 (λ k l h. (s.rows k (omega arith)).count))

-- the count of an accepted text is the length of its stream
pub count_accepted : (mode : Mode) (parser : Parser) (khmer : Bool) (t : Text) → Sound parser t →
    count_from mode khmer t.records.scalars t.records.decomposes t.records.counts 0 (min (length t.records.scalars) most)
    ≡ length (gather (split mode khmer (source_of t.records t.records.uses t.records.cemojis) (splits_of t.records) t.parts) 0 (length t.records.scalars))
count_accepted mode parser khmer t s =
    let e : min (length t.records.scalars) most ≡ length t.records.scalars = omega (arith, few parser t s) in
    rw e (sym (count_stream mode khmer (source_of t.records t.records.uses t.records.cemojis) (splits_of t.records) t.parts (length t.records.scalars) 0))

pub small : (x : ℕ) → bad_scalar x ≡ false → x < 0x20_0000
unfolding bad_scalar
small x e = go (ltb 0x10FFFF x) (leb 0xD800 x && leb x 0xDFFF) refl e
  where
    go : (a b : Bool) → ltb 0x10FFFF x ≡ a → (a || b) ≡ false → x < 0x20_0000
    go false b f g = omega (arith, ltb-false 0x10FFFF x f)
    go true b f g = absurd (let z : ◌≡◌ {A = ℕ} 0 1 = cc in omega arith)

-- a record's token says what its cells say: its kind and its emoji mark are those of the parser's own columns
module _ (parser : Parser) (t : Text) (s : Sound parser t) (i : ℕ) (h : i < length t.records.scalars) where
  pub own_says : (kinds emojis : List ℕ) (emoji : ℕ) → cell kinds i < 64 → emoji < 2 →
      Says (own_token (source_of t.records kinds emojis) emoji i) (cell t.records.scalars i) (cell kinds i) (cell t.records.breaks i) (cell t.records.categories i) emoji (cell t.records.selectors i) i
  own_says kinds emojis emoji hk he =
      packed_says _ _ _ _ _ _ _ (small _ (s.rows i h).scalar) hk (omega (arith, (s.rows i h).breaks)) (omega (arith, (s.rows i h).category)) he (s.rows i h).selector (omega (arith, few parser t s))

  pub simple_says : Says (own_token (source_of t.records t.records.breaks t.records.semojis) (cell t.records.semojis i) i) (cell t.records.scalars i) (cell t.records.breaks i) (cell t.records.breaks i) (cell t.records.categories i) (cell t.records.semojis i) (cell t.records.selectors i) i
  simple_says = own_says t.records.breaks t.records.semojis (cell t.records.semojis i) (omega (arith, (s.rows i h).breaks)) (s.rows i h).semoji

  pub myanmar_says : Says (own_token (source_of t.records t.records.myanmars t.records.memojis) (cell t.records.memojis i) i) (cell t.records.scalars i) (cell t.records.myanmars i) (cell t.records.breaks i) (cell t.records.categories i) (cell t.records.memojis i) (cell t.records.selectors i) i
  myanmar_says = own_says t.records.myanmars t.records.memojis (cell t.records.memojis i) (omega (arith, (s.rows i h).myanmar)) (s.rows i h).memoji

  -- a split sign is a token "without its emoji mark": emoji is then 0, else the complex parser's mark
  pub complex_says : (emoji : ℕ) → emoji < 2 → Says (own_token (source_of t.records t.records.uses t.records.cemojis) emoji i) (cell t.records.scalars i) (cell t.records.uses i) (cell t.records.breaks i) (cell t.records.categories i) emoji (cell t.records.selectors i) i
  complex_says emoji he = own_says t.records.uses t.records.cemojis emoji (omega (arith, (s.rows i h).uses)) he

  -- a part's token says what the part's cells say, and whose part it is
  pub part_says : (j : ℕ) → j < length t.parts.pscalars → Says (part_token t.parts j i) (cell t.parts.pscalars j) (cell t.parts.puses j) (cell t.parts.pbreaks j) (cell t.parts.pcategories j) 0 0 i
  part_says j l =
      packed_says _ _ _ _ _ _ _ (small _ (s.parts j l).scalar) (omega (arith, (s.parts j l).uses)) (omega (arith, (s.parts j l).breaks)) (omega (arith, (s.parts j l).category)) (omega arith) (omega arith) (omega (arith, few parser t s))
