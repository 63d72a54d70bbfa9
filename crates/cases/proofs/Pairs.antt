-- Blocks as the loops read them: pairs of digits judged one by one, bytes written one by one. Assumes nothing.
use Prim.Native.Nat.{ℕ, ◌+◌, ◌-◌, ◌%◌, ◌<◌, ◌≤◌}
use Rattle.std.specs.Prelude.{Option, Some, None}
use Rattle.std.specs.Option.{is_some}
use mathlib.Core.Path.{◌≡◌, refl, sym, ◌∙◌}
use mathlib.Core.Bool.{Bool, true, false, cond}
use mathlib.Core.List.{List, ◌++◌}
use native.Mathlib.Omega.{arith}
use lib.Dec.{ltb}
use lib.ListN.{length, get_or, drop, set, length-set}
use lib.Seq.{length-take-le}
use borrow.Author.Tests.{eq-eqb, ne_eqb, ltb-true}
use Rattle.basics.specs.Columns.{cells}
use Rattle.basics.proofs.Columns.{Written, written_more}
use Rattle.basics.proofs.Sets.{every_more, every_fails}
use Rattle.basics.specs.Sets.{every}
use Rattle.io.specs.Counts.{IsPrefixLen}
use Rattle.cases.specs.Blocks.{hex_at, pairs, byte_of}
use Rattle.cases.specs.Numbers.{digit_of, or_zero}

-- o is the digit at i
module _ (xs : List ℕ) (i : ℕ) (o : Option ℕ) (e : o ≡ digit_of (get_or xs i 0)) where
  pub pairs_fail : length xs % 2 ≡ 0 → i < length xs → is_some o ≡ false → false ≡ pairs xs
  unfolding pairs hex_at
  pairs_fail h l m = rw (eq-eqb _ _ h) (sym (every_fails (hex_at xs) _ i l (rw (← e) m)))

  pub pairs_more : every (hex_at xs) i ≡ true → is_some o ≡ true → every (hex_at xs) (i + 1) ≡ true
  unfolding hex_at
  pairs_more a m = every_more (hex_at xs) i a (rw (← e) m)

module _ (xs : List ℕ) where
  pub pairs_odd : (length xs % 2 ≡ 0 → ⊥) → false ≡ pairs xs
  unfolding pairs
  pairs_odd h = rw (ne_eqb _ _ h)

  pub pairs_all : length xs % 2 ≡ 0 → (i : ℕ) → every (hex_at xs) i ≡ true → i ≡ length xs → true ≡ pairs xs
  unfolding pairs
  pairs_all h i a e = rw (eq-eqb _ _ h, ← e) (sym a)

-- the value of a digit, 0 where there is none
digit_or : (b : Bool) (n : ℕ) (o : Option ℕ) → (b ≡ true → n ≤ 15) → or_zero o ≤ 15 → or_zero (cond b (Some n) o) ≤ 15
digit_or true n o f h = f refl
digit_or false n o f h = h

none_or : (b : Bool) (o : Option ℕ) → or_zero o ≤ 15 → or_zero (cond b None o) ≤ 15
none_or true o h = omega arith
none_or false o h = h

pub digit_small : (x : ℕ) → or_zero (digit_of x) ≤ 15
unfolding digit_of
digit_small x =
    none_or (ltb x 48) _ (digit_or (ltb x 58) (x - 48) _ (λ h. let k : x < 58 = ltb-true x 58 h in omega arith)
    (none_or (ltb x 65) _ (digit_or (ltb x 71) (x - 55) _ (λ h. let k : x < 71 = ltb-true x 71 h in omega arith)
    (none_or (ltb x 97) _ (digit_or (ltb x 103) (x - 87) None (λ h. let k : x < 103 = ltb-true x 103 h in omega arith) (omega arith))))))

-- the loop that writes the bytes, before byte i of n
abbrev pub Bytes : List ℕ → List ℕ → ℕ → List ℕ → ℕ → Type 0
Bytes xs out₀ n out i = (length out ≡ length out₀) × Written (byte_of xs) out₀ i out

module _ (xs out₀ : List ℕ) (n : ℕ) (out : List ℕ) (i : ℕ) (written : Bytes xs out₀ n out i) (l : n ≤ length out₀) where
  pub bytes_more : i < n → (v : ℕ) → v ≡ byte_of xs i → Bytes xs out₀ n (set out i v) (i + 1)
  bytes_more h v e =
      let j : i < length out₀ = omega arith in
      (length-set out i v ∙ written.0, rw e (written_more (byte_of xs) out₀ out i j written.1))

  pub bytes_all : n ≡ i → IsPrefixLen n out × (out ≡ cells (byte_of xs) n ++ drop n out₀)
  bytes_all h =
      let m : n ≤ length out = omega (arith, written.0) in
      ((m, sym (length-take-le n out m)), rw h written.1)
