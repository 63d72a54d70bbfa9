-- The tokens of one record, one by one: what the code reads at place k is what stands there in the definition's list.
-- Assumes nothing.
use Prim.Native.Nat.{ℕ, zero, suc, ◌+◌, ◌%◌, ◌<◌}
use mathlib.Core.Path.{◌≡◌, refl, sym, ◌∙◌, ap}
use mathlib.Core.Bool.{Bool, true, false, cond, not, ◌&&◌}
use mathlib.Core.List.{List, [], ◌∷◌}
use native.Mathlib.Omega.{arith}
use lib.Dec.{eqb}
use lib.ListN.{length, get_or}
use borrow.Author.Tests.{eq-eqb, ne_eqb}
use Rattle.basics.specs.Sets.{member}
use Rattle.classes.specs.Scalar.{khmer_signs}
use Rattle.classes.specs.declared.Mode.{Mode}
use Rattle.records.specs.Text.{Parts, cell}
use Rattle.records.proofs.Passing.{not_so}
use Rattle.stream.specs.Stream.{Source, Splits, own_token, part_token, part_tokens, itself, stands_alone, split, piece_count}
use Rattle.stream.specs.Inner.{gives_itself}

pub index_twice : (i : ℕ) → i % 4096 % 4096 ≡ i % 4096
index_twice i = omega arith

pub length_parts : (p : Parts) (i j n : ℕ) → length (part_tokens p i j n) ≡ n
unfolding part_tokens
length_parts p i j zero = refl
length_parts p i j (suc n) = ap suc (length_parts p i (j + 1) n)

get_d_parts : (p : Parts) (i j n k : ℕ) → k < n → get_or (part_tokens p i j n) k 0 ≡ part_token p (j + k) i
unfolding part_tokens
get_d_parts p i j zero k h = absurd (omega arith)
get_d_parts p i j (suc n) zero h = let e : j + 0 ≡ j = omega arith in rw e
get_d_parts p i j (suc n) (suc k) h =
    let e : j + suc k ≡ j + 1 + k = omega arith in
    rw e (get_d_parts p i (j + 1) n k (omega arith))

-- how many there are, as the code counts them
module _ (mode : Mode) (khmer : Bool) (decompose scalar count : ℕ) (t : Bool) where
  pub count_alone : decompose ≡ 1 → t ≡ stands_alone mode count → t ≡ true → 1 ≡ piece_count mode khmer decompose scalar count
  unfolding piece_count
  count_alone e f h = rw (eq-eqb decompose 1 e, ← f, h)

  pub count_marked : decompose ≡ 1 → t ≡ stands_alone mode count → t ≡ false → count ≡ piece_count mode khmer decompose scalar count
  unfolding piece_count
  count_marked e f h = rw (eq-eqb decompose 1 e, ← f, h)

  pub count_sign : (decompose ≡ 1 → ⊥) → t ≡ (khmer && member khmer_signs scalar) → t ≡ true → 2 ≡ piece_count mode khmer decompose scalar count
  unfolding piece_count
  count_sign n e h = rw (ne_eqb decompose 1 n, ← e, h)

  pub count_itself : (decompose ≡ 1 → ⊥) → t ≡ (khmer && member khmer_signs scalar) → t ≡ false → 1 ≡ piece_count mode khmer decompose scalar count
  unfolding piece_count
  count_itself n e h = rw (ne_eqb decompose 1 n, ← e, h)

pub ruleset piece_counts = (count_alone, count_marked, count_sign, count_itself)

module _ (mode : Mode) (khmer : Bool) (s : Source) (d : Splits) (p : Parts) (i : ℕ) where
  abbrev parts : List ℕ
  parts = part_tokens p i (cell d.firsts i) (cell d.counts i)

  abbrev signs : List ℕ
  signs = part_token p (cell d.firsts i) i ∷ own_token s 0 i ∷ []

  -- the count of the definition's list
  pub length_split : length (split mode khmer s d p i) ≡ piece_count mode khmer (cell d.decomposes i) (cell s.scalars i) (cell d.counts i)
  unfolding split piece_count itself
  length_split = go (eqb (cell d.decomposes i) 1) (stands_alone mode (cell d.counts i)) (khmer && member khmer_signs (cell s.scalars i))
    where
      go : (a b c : Bool) → length (cond a (cond b (itself s i) parts) (cond c signs (itself s i))) ≡ cond a (cond b 1 (cell d.counts i)) (cond c 2 1)
      go true true c = refl
      go true false c = length_parts p i (cell d.firsts i) (cell d.counts i)
      go false b true = refl
      go false b false = refl

  -- whether the record gives itself, as the code asks it
  module _ (g : Bool) (eg : g ≡ gives_itself mode khmer (cell d.decomposes i) (cell s.scalars i) (cell d.counts i)) where
    pub split_itself : g ≡ true → split mode khmer s d p i ≡ itself s i
    unfolding split gives_itself
    split_itself h = go (eqb (cell d.decomposes i) 1) (stands_alone mode (cell d.counts i)) (khmer && member khmer_signs (cell s.scalars i)) (sym eg ∙ h)
      where
        go : (a b c : Bool) → cond a b (not c) ≡ true → cond a (cond b (itself s i) parts) (cond c signs (itself s i)) ≡ itself s i
        go true true c e = refl
        go true false c e = not_so e
        go false b true e = not_so e
        go false b false e = refl

    pub piece_itself : (k r emoji : ℕ) → g ≡ true → emoji ≡ cell s.emojis i → r ≡ own_token s emoji i → k < length (split mode khmer s d p i) → r ≡ get_or (split mode khmer s d p i) k 0
    unfolding itself
    piece_itself k r emoji h ee er l =
        let l' : k < 1 = rw (split_itself h) at l in
        let e : k ≡ 0 = omega arith in
        rw (e, split_itself h, ← ee) er

    module _ (h : g ≡ false) (m : ℕ) (em : m ≡ cell d.decomposes i) where
      -- a marked record's part k
      split_parts : m ≡ 1 → split mode khmer s d p i ≡ parts
      unfolding split gives_itself
      split_parts h1 = go (eqb (cell d.decomposes i) 1) (stands_alone mode (cell d.counts i)) (eq-eqb (cell d.decomposes i) 1 (sym em ∙ h1)) (sym eg ∙ h)
        where
          go : (a b : Bool) → a ≡ true → cond a b (not (khmer && member khmer_signs (cell s.scalars i))) ≡ false → cond a (cond b (itself s i) parts) (cond (khmer && member khmer_signs (cell s.scalars i)) signs (itself s i)) ≡ parts
          go true true y e = not_so (sym e)
          go true false y e = refl
          go false b y e = not_so y

      pub piece_part : (first k r : ℕ) → m ≡ 1 → first ≡ cell d.firsts i → r ≡ part_token p (first + k) i → k < length (split mode khmer s d p i) → r ≡ get_or (split mode khmer s d p i) k 0
      piece_part first k r h1 ef er l =
          let l' : k < length parts = rw (split_parts h1) at l in
          rw (split_parts h1) (er ∙ ap (λ j. part_token p (j + k) i) ef
          ∙ sym (get_d_parts p i (cell d.firsts i) (cell d.counts i) k (omega (arith, length_parts p i (cell d.firsts i) (cell d.counts i)))))

      -- a sign's first token is the lent part, its second the sign itself
      split_sign : (m ≡ 1 → ⊥) → split mode khmer s d p i ≡ signs
      unfolding split gives_itself
      split_sign n = go (eqb (cell d.decomposes i) 1) (khmer && member khmer_signs (cell s.scalars i)) (ne_eqb (cell d.decomposes i) 1 (λ e. n (em ∙ e))) (sym eg ∙ h)
        where
          go : (a c : Bool) → a ≡ false → cond a (stands_alone mode (cell d.counts i)) (not c) ≡ false → cond a (cond (stands_alone mode (cell d.counts i)) (itself s i) parts) (cond c signs (itself s i)) ≡ signs
          go true c y e = not_so (sym y)
          go false true y e = refl
          go false false y e = not_so (sym e)

      pub piece_first : (first k r : ℕ) → (m ≡ 1 → ⊥) → first ≡ cell d.firsts i → k ≡ 0 → r ≡ part_token p first i → r ≡ get_or (split mode khmer s d p i) k 0
      piece_first first k r n ef hk er = rw (hk, split_sign n, ← ef) er

      pub piece_second : (k r : ℕ) → (m ≡ 1 → ⊥) → (k ≡ 0 → ⊥) → r ≡ own_token s 0 i → k < length (split mode khmer s d p i) → r ≡ get_or (split mode khmer s d p i) k 0
      piece_second k r n hk er l =
          let l' : k < 2 = rw (split_sign n) at l in
          let e : k ≡ 1 = omega arith in
          rw (e, split_sign n) er
