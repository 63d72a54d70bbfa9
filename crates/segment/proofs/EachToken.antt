-- What every record and every part gives, every token of an accepted text has. Assumes nothing.
use Prim.Native.Nat.{ℕ, zero, suc, ◌+◌, ◌<◌, ◌≤◌}
use mathlib.Core.Path.{◌≡◌, refl, sym}
use mathlib.Core.Bool.{Bool, true, false, cond, not, ◌&&◌}
use mathlib.Core.List.{List, [], ◌∷◌, ◌++◌}
use native.Mathlib.Omega.{arith}
use lib.Dec.{eqb}
use lib.ListN.{length, get_or}
use borrow.Author.Tests.{eqb-true, eqb-false, eq-eqb}
use Rattle.basics.specs.Sets.{member}
use Rattle.basics.proofs.Sets.{Each}
use Rattle.classes.specs.Scalar.{KHMER_E, khmer_signs}
use Rattle.classes.specs.declared.Mode.{Mode}
use Rattle.records.specs.Text.{Text, cell}
use Rattle.records.specs.Refusals.{bad_sign, is_split, is_complex, is_khmer}
use Rattle.records.specs.Sound.{Sound}
use Rattle.records.specs.declared.Parser.{Parser}
use Rattle.records.specs.declared.Parser.TheVariants.{Simple, Myanmar, Complex, Khmer}
use Rattle.stream.specs.Stream.{Source, source_of, splits_of, own_token, part_token, part_tokens, itself, stands_alone, split, gather, gives, stream_of}
use Rattle.parse.specs.State.{token_at}

each_append : (P : ℕ → Type 0) (xs ys : List ℕ) → Each P xs → Each P ys → Each P (xs ++ ys)
each_append P [] ys p q = q
each_append P (x ∷ xs) ys p q = (p.0, each_append P xs ys p.1 q)

each_at : (P : ℕ → Type 0) (xs : List ℕ) → Each P xs → (i : ℕ) → i < length xs → P (get_or xs i 0)
each_at P [] p i h = absurd (omega arith)
each_at P (x ∷ xs) p zero h = p.0
each_at P (x ∷ xs) p (suc i) h = each_at P xs p.1 i (omega arith)

each_gather : (P : ℕ → Type 0) (gives : ℕ → List ℕ) (n i : ℕ) → ((k : ℕ) → i ≤ k → k < i + n → Each P (gives k)) → Each P (gather gives i n)
unfolding gather
each_gather P gives zero i f = tt
each_gather P gives (suc n) i f =
    each_append P (gives i) (gather gives (i + 1) n) (f i (omega arith) (omega arith)) (each_gather P gives n (i + 1) (λ k l h. f k (omega arith) (omega arith)))

abbrev source : Text → Source
source t = source_of t.records t.records.uses t.records.cemojis

-- a record as a token with its mark, and without it, and a part
module _ (parser : Parser) (t : Text) (s : Sound parser t) (P : ℕ → Type 0)
    (own : (i : ℕ) → i < length t.records.scalars → P (own_token (source t) (cell t.records.cemojis i) i))
    (bare : (i : ℕ) → i < length t.records.scalars → P (own_token (source t) 0 i))
    (part : (i : ℕ) → i < length t.records.scalars → (j : ℕ) → j < length t.parts.pscalars → P (part_token t.parts j i)) where
  module _ (i : ℕ) (h : i < length t.records.scalars) where
    each_part : (n j : ℕ) → j + n ≤ length t.parts.pscalars → Each P (part_tokens t.parts i j n)
    unfolding part_tokens
    each_part zero j l = tt
    each_part (suc n) j l = (part i h j (omega arith), each_part n (j + 1) (omega arith))

    -- a sign that is split has its one part
    one_part : is_khmer parser ≡ true → eqb (cell t.records.decomposes i) 1 ≡ false → member khmer_signs (cell t.records.scalars i) ≡ true → cell t.records.firsts i < length t.parts.pscalars
    unfolding bad_sign is_split
    one_part k u m =
        let z : cell t.records.decomposes i ≡ 0 = omega (arith, (s.rows i h).decompose, eqb-false (cell t.records.decomposes i) 1 u) in
        let b : not (eqb (cell t.records.counts i) 1 && eqb (cell t.parts.pscalars (cell t.records.firsts i)) KHMER_E) ≡ false = rw (eq-eqb (cell t.records.decomposes i) 0 z, m) at (s.signs k i h) in
        omega (arith, (s.rows i h).run, eqb-true (cell t.records.counts i) 1 (first_true (eqb (cell t.records.counts i) 1) _ b))
      where
        first_true : (a b : Bool) → not (a && b) ≡ false → a ≡ true
        first_true true b e = refl
        first_true false b e = absurd (let z : ◌≡◌ {A = ℕ} 0 1 = cc in omega arith)

    each_split : (mode : Mode) (khmer : Bool) → khmer ≡ is_khmer parser → Each P (split mode khmer (source t) (splits_of t.records) t.parts i)
    unfolding split itself
    each_split mode khmer e =
        go (eqb (cell t.records.decomposes i) 1) (stands_alone mode (cell t.records.counts i)) khmer (member khmer_signs (cell t.records.scalars i)) refl e refl
      where
        go : (a n k b : Bool) → eqb (cell t.records.decomposes i) 1 ≡ a → k ≡ is_khmer parser → member khmer_signs (cell t.records.scalars i) ≡ b →
            Each P (cond a (cond n (own_token (source t) (cell t.records.cemojis i) i ∷ []) (part_tokens t.parts i (cell t.records.firsts i) (cell t.records.counts i)))
            (cond (k && b) (part_token t.parts (cell t.records.firsts i) i ∷ own_token (source t) 0 i ∷ [])
            (own_token (source t) (cell t.records.cemojis i) i ∷ [])))
        go true true k b ea ek eb = (own i h, tt)
        go true false k b ea ek eb = each_part (cell t.records.counts i) (cell t.records.firsts i) (s.rows i h).run
        go false n true true ea ek eb = (part i h (cell t.records.firsts i) (one_part (sym ek) ea eb), (bare i h, tt))
        go false n true false ea ek eb = (own i h, tt)
        go false n false b ea ek eb = (own i h, tt)

  in_all : (mode : Mode) (khmer : Bool) → khmer ≡ is_khmer parser → Each P (gather (split mode khmer (source t) (splits_of t.records) t.parts) 0 (length t.records.scalars))
  in_all mode khmer e = each_gather P (split mode khmer (source t) (splits_of t.records) t.parts) (length t.records.scalars) 0 (λ k l h. each_split k (omega arith) mode khmer e)

pub each_token : (mode : Mode) (parser : Parser) (t : Text) → is_complex parser ≡ true → Sound parser t → (P : ℕ → Type 0)
    → ((i : ℕ) → i < length t.records.scalars → P (own_token (source_of t.records t.records.uses t.records.cemojis) (cell t.records.cemojis i) i))
    → ((i : ℕ) → i < length t.records.scalars → P (own_token (source_of t.records t.records.uses t.records.cemojis) 0 i))
    → ((i : ℕ) → i < length t.records.scalars → (j : ℕ) → j < length t.parts.pscalars → P (part_token t.parts j i))
    → (i : ℕ) → i < length (stream_of mode parser t) → P (token_at (stream_of mode parser t) i)
unfolding stream_of
each_token mode Simple t c s P own bare part = absurd (let z : ◌≡◌ {A = ℕ} 0 1 = cc in omega arith)
each_token mode Myanmar t c s P own bare part = absurd (let z : ◌≡◌ {A = ℕ} 0 1 = cc in omega arith)
each_token mode Complex t c s P own bare part = each_at P (stream_of mode Complex t) (in_all Complex t s P own bare part mode false refl)
each_token mode Khmer t c s P own bare part = each_at P (stream_of mode Khmer t) (in_all Khmer t s P own bare part mode true refl)
