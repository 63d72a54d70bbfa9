-- Counting bytes along the records: how many they can be, and that the offsets rise. Assumes nothing.
use Prim.Native.Nat.{ℕ, zero, suc, ◌+◌, ◌*◌, ◌<◌, ◌≤◌}
use mathlib.Core.Path.{◌≡◌, refl, sym, ap, subst}
use mathlib.Core.Bool.{Bool, true, false, cond}
use mathlib.Core.List.{List}
use native.Mathlib.Omega.{arith}
use native.Mathlib.Numerals.{add-one}
use lib.Dec.{ltb}
use borrow.Author.Tests.{ltb-false}
use Rattle.basics.proofs.Tests.{if_intro}
use Rattle.records.specs.Text.{cell}
use Rattle.spans.specs.declared.offsets.Counted.{Counted}
use Rattle.spans.specs.Offsets.{bytes_of, offset_of, length_of, end_of}
use Rattle.spans.specs.Inner.{Counts, counted_before}

-- "1 to 4 bytes a scalar"
pub bytes_few : (x : ℕ) → (1 ≤ bytes_of x) × (bytes_of x ≤ 4)
unfolding bytes_of
bytes_few x = go (ltb x 0x80) (ltb x 0x800) (ltb x 0x10000)
  where
    go : (a b c : Bool) → (1 ≤ cond a 1 (cond b 2 (cond c 3 4))) × (cond a 1 (cond b 2 (cond c 3 4)) ≤ 4)
    go true b c = (omega arith, omega arith)
    go false true c = (omega arith, omega arith)
    go false false true = (omega arith, omega arith)
    go false false false = (omega arith, omega arith)

module _ (scalars : List ℕ) where
  -- where a record ends the next one begins
  pub offset_next : (i : ℕ) → offset_of scalars (i + 1) ≡ end_of scalars i
  unfolding offset_of
  offset_next i = rw (add-one i)

  pub offset_most : (i : ℕ) → offset_of scalars i ≤ 4 * i
  unfolding offset_of
  offset_most zero = omega arith
  offset_most (suc i) = omega (arith, offset_most i, (bytes_few (cell scalars i)).1)

  pub end_most : (i : ℕ) → end_of scalars i ≤ 4 * i + 4
  end_most i = omega (arith, offset_most i, (bytes_few (cell scalars i)).1)

  pub offset_rises : (i k : ℕ) → offset_of scalars i ≤ offset_of scalars (i + k)
  offset_rises i zero = let e : i + 0 ≡ i = omega arith in omega (arith, ap (offset_of scalars) e)
  offset_rises i (suc k) =
      let e : i + suc k ≡ i + k + 1 = omega arith in
      omega (arith, offset_rises i k, ap (offset_of scalars) e, offset_next (i + k))

  -- where counting begins: no later than the record, with its bytes counted
  pub to_begins : (c f : Counted) (i : ℕ) → Counts scalars c → f ≡ counted_before c i → (f.index ≤ i) × (f.bytes ≡ offset_of scalars f.index)
  unfolding offset_of
  to_begins c f i h e = subst (λ (b : Counted). (b.index ≤ i) × (b.bytes ≡ offset_of scalars b.index)) (sym e)
      (if_intro (λ (b : Counted). (b.index ≤ i) × (b.bytes ≡ offset_of scalars b.index)) (ltb i c.index) _ _ (λ l. (omega arith, refl)) (λ l. (ltb-false i c.index l, h)))

  -- one record more
  pub to_fits : (i b n : ℕ) → i < 65536 → b ≡ offset_of scalars i → n ≡ length_of scalars i → b + n < 0x100000000
  to_fits i b n h e f = omega (arith, end_most i)

  pub to_turns : (index i b n : ℕ) → i < index → b ≡ offset_of scalars i → n ≡ length_of scalars i → (i + 1 ≤ index) × (b + n ≡ offset_of scalars (i + 1))
  to_turns index i b n h e f = (omega arith, omega (arith, offset_next i))

  -- all of them
  pub to_over : (index i b : ℕ) → i ≤ index → index ≤ i → b ≡ offset_of scalars i → ◌≡◌ {A = Counted} (record { index = index; bytes = b }) (record { index = index; bytes = offset_of scalars index })
  to_over index i b l h e = let q : i ≡ index = omega arith in rw (e, q)
