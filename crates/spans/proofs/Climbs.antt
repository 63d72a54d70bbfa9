-- The records of the tokens, one after the other: where each record has a token they go up by one at most, from the first record to the
-- last. Assumes nothing.
use Prim.Native.Nat.{ℕ, zero, suc, ◌+◌, ◌<◌, ◌≤◌}
use mathlib.Core.Path.{◌≡◌, refl, sym, ap, subst}
use mathlib.Core.Bool.{false}
use mathlib.Core.List.{List, [], ◌∷◌, ◌++◌}
use mathlib.Core.Logic.{◌⊎◌, inl, inr}
use native.Mathlib.Omega.{arith}
use native.Mathlib.Nat.{le_of_eq, zero-add}
use lib.ListN.{length, get_or}
use Rattle.classes.specs.declared.Mode.{Mode}
use Rattle.classes.specs.declared.Mode.TheVariants.{Whole}
use Rattle.token.specs.Token.{index_of}
use Rattle.records.specs.Text.{Text}
use Rattle.records.specs.Refusals.{is_complex}
use Rattle.records.specs.declared.Parser.{Parser}
use Rattle.records.specs.declared.Parser.TheVariants.{Simple, Myanmar, Complex, Khmer}
use Rattle.records.proofs.Passing.{not_so}
use Rattle.stream.specs.Stream.{itself, gather, gives, stream_of}
use Rattle.stream.proofs.Alone.{given_index, gives_some}
use Rattle.spans.specs.Spans.{record_at}

-- how the record of a token follows on those before it, the next of which would be record r: it is that one, or the last of them again
abbrev pub Follows : ℕ → ℕ → Type 0
Follows r i = (i ≡ r) ⊎ (i + 1 ≡ r)

-- it is that one
abbrev pub Comes : ℕ → ℕ → Type 0
Comes r i = i ≡ r

-- the next record at a place: the one behind that of the token before it
abbrev pub behind_from : ℕ → List ℕ → ℕ → ℕ
behind_from r l zero = r
behind_from r l (suc p) = record_at l p + 1

module _ (Next : ℕ → ℕ → Type 0) where
  -- tokens whose records follow on each other, from a next record to another
  abbrev pub Climbs : ℕ → List ℕ → ℕ → Type 0
  Climbs r [] q = r ≡ q
  Climbs r (x ∷ xs) q = Next r (index_of x) × Climbs (index_of x + 1) xs q

  climbs_append : (xs ys : List ℕ) (r m q : ℕ) → Climbs r xs m → Climbs m ys q → Climbs r (xs ++ ys) q
  climbs_append [] ys r m q a b = subst (λ (i : ℕ). Climbs i ys q) (sym a) b
  climbs_append (x ∷ xs) ys r m q a b = (a.0, climbs_append xs ys (index_of x + 1) m q a.1 b)

  climbs_gather : (f : ℕ → List ℕ) (n i : ℕ) → ((j : ℕ) → i ≤ j → j < i + n → Climbs j (f j) (j + 1)) → Climbs i (gather f i n) (i + n)
  unfolding gather
  climbs_gather f zero i h = omega arith
  climbs_gather f (suc n) i h =
      let e : i + 1 + n ≡ i + suc n = omega arith in
      climbs_append (f i) (gather f (i + 1) n) i (i + 1) (i + suc n) (h i (omega arith) (omega arith))
      (subst (λ (q : ℕ). Climbs (i + 1) (gather f (i + 1) n) q) e (climbs_gather f n (i + 1) (λ j l k. h j (omega arith) (omega arith))))

  pub climbs_at : (l : List ℕ) (r q p : ℕ) → Climbs r l q → p < length l → Next (behind_from r l p) (record_at l p)
  climbs_at [] r q p c h = absurd (omega arith)
  climbs_at (x ∷ xs) r q zero c h = c.0
  climbs_at (x ∷ xs) r q (suc zero) c h = climbs_at xs (index_of x + 1) q zero c.1 (omega arith)
  climbs_at (x ∷ xs) r q (suc (suc p)) c h = climbs_at xs (index_of x + 1) q (suc p) c.1 (omega arith)

  pub climbs_end : (l : List ℕ) (r q : ℕ) → Climbs r l q → behind_from r l (length l) ≡ q
  climbs_end [] r q c = c
  climbs_end (x ∷ []) r q c = c.1
  climbs_end (x ∷ y ∷ xs) r q c = climbs_end (y ∷ xs) (index_of x + 1) q c.1

-- so no token is of an earlier record than one before it, and all are of records below the last next one
module _ (Next : ℕ → ℕ → Type 0) (up : (r i : ℕ) → Next r i → r ≤ i + 1) where
  climbs_most : (l : List ℕ) (r q : ℕ) → Climbs Next r l q → r ≤ q
  climbs_most [] r q c = omega arith
  climbs_most (x ∷ xs) r q c = omega (arith, up r (index_of x) c.0, climbs_most xs (index_of x + 1) q c.1)

  pub climbs_within : (l : List ℕ) (r q p : ℕ) → Climbs Next r l q → p < length l → record_at l p < q
  climbs_within [] r q p c h = absurd (omega arith)
  climbs_within (x ∷ xs) r q zero c h = omega (arith, climbs_most xs (index_of x + 1) q c.1)
  climbs_within (x ∷ xs) r q (suc p) c h = climbs_within xs (index_of x + 1) q p c.1 (omega arith)

  pub climbs_rise : (l : List ℕ) (r q p k : ℕ) → Climbs Next r l q → p + k < length l → record_at l p ≤ record_at l (p + k)
  climbs_rise l r q p zero c h = le_of_eq (ap (record_at l) (omega arith))
  climbs_rise l r q p (suc k) c h =
      let e : p + suc k ≡ suc (p + k) = omega arith in
      let one : record_at l (p + k) + 1 ≤ record_at l (suc (p + k)) + 1 = up _ _ (climbs_at Next l r q (suc (p + k)) c (omega arith)) in
      omega (arith, climbs_rise l r q p k c (omega arith), one, ap (record_at l) e)

-- the tokens of one record
stays : (i : ℕ) (xs : List ℕ) → ((k : ℕ) → k < length xs → index_of (get_or xs k 0) ≡ i) → Climbs Follows (i + 1) xs (i + 1)
stays i [] f = refl
stays i (x ∷ xs) f =
    let e : index_of x ≡ i = f 0 (omega arith) in
    (inr (ap (λ (n : ℕ). n + 1) e), subst (λ (n : ℕ). Climbs Follows (n + 1) xs (i + 1)) (sym e) (stays i xs (λ k h. f (suc k) (omega arith))))

some_climb : (i : ℕ) (xs : List ℕ) → 0 < length xs → ((k : ℕ) → k < length xs → index_of (get_or xs k 0) ≡ i) → Climbs Follows i xs (i + 1)
some_climb i [] s f = absurd (omega arith)
some_climb i (x ∷ xs) s f =
    let e : index_of x ≡ i = f 0 (omega arith) in
    (inl e, subst (λ (n : ℕ). Climbs Follows (n + 1) xs (i + 1)) (sym e) (stays i xs (λ k h. f (suc k) (omega arith))))

-- the one token of a record
one_climbs : (i : ℕ) (xs : List ℕ) → length xs ≡ 1 → ((k : ℕ) → k < length xs → index_of (get_or xs k 0) ≡ i) → Climbs Comes i xs (i + 1)
one_climbs i [] s f = absurd (omega arith)
one_climbs i (x ∷ []) s f = (f 0 (omega arith), ap (λ (n : ℕ). n + 1) (f 0 (omega arith)))
one_climbs i (x ∷ y ∷ xs) s f = absurd (omega arith)

one_given : (mode : Mode) (parser : Parser) (t : Text) → is_complex parser ≡ false → (j : ℕ) → length (gives mode parser t j) ≡ 1
unfolding itself
one_given mode Simple t u j = refl
one_given mode Myanmar t u j = refl
one_given mode Complex t u j = not_so (sym u)
one_given mode Khmer t u j = not_so (sym u)

module _ (mode : Mode) (parser : Parser) (t : Text) (few : length t.records.scalars ≤ 4096) where
  -- in whole mode, of every parser
  pub whole_climbs : mode ≡ Whole → Climbs Follows 0 (stream_of mode parser t) (length t.records.scalars)
  unfolding stream_of
  whole_climbs w = subst (λ (q : ℕ). Climbs Follows 0 (gather (gives mode parser t) 0 (length t.records.scalars)) q) (zero-add (length t.records.scalars)) (climbs_gather Follows (gives mode parser t) (length t.records.scalars) 0
      (λ j l h. some_climb j (gives mode parser t j) (gives_some mode parser t j w) (λ k q. given_index mode parser t j k (omega arith) q)))

  -- "one token each": simple and Myanmar in both modes
  pub unsplit_climbs : is_complex parser ≡ false → Climbs Comes 0 (stream_of mode parser t) (length t.records.scalars)
  unfolding stream_of
  unsplit_climbs u = subst (λ (q : ℕ). Climbs Comes 0 (gather (gives mode parser t) 0 (length t.records.scalars)) q) (zero-add (length t.records.scalars)) (climbs_gather Comes (gives mode parser t) (length t.records.scalars) 0
      (λ j l h. one_climbs j (gives mode parser t j) (one_given mode parser t u j) (λ k q. given_index mode parser t j k (omega arith) q)))
