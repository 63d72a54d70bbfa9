-- The decoder reads what UTF-8 writes: of every scalar value's bytes, whatever follows them, it answers that scalar and their number.
-- Assumes nothing.
use Rattle.std.specs.Prelude.{Some}
use Prim.Native.Nat.{ℕ, ◌+◌, ◌*◌, ◌/◌, ◌%◌, ◌≤◌, ◌<◌}
use mathlib.Core.Path.{◌≡◌}
use mathlib.Core.Bool.{true, false}
use mathlib.Core.List.{List, ◌∷◌, ◌++◌}
use mathlib.Core.Logic.{◌⊎◌, ⊎_elim}
use native.Mathlib.Omega.{arith}
use lib.Dec.{eqb, ltb}
use lib.ListN.{length}
use borrow.Author.Tests.{lt-ltb, le-ltb, eq-eqb, ltb-true, ltb-false}
use Rattle.basics.proofs.Tests.{by_test}
use Rattle.spans.specs.Utf8.{encode_of}
use Rattle.label.specs.Utf8.{tail, six, two, three, three_of, four, four_of, decode_from, decode_of}

-- a byte of six bits goes on with a character
goes_on : (y : ℕ) → y < 64 → eqb ((128 + y) / 64) 2 ≡ true
goes_on y h = eq-eqb ((128 + y) / 64) 2 (omega arith)

-- its six bits
kept : (y : ℕ) → y < 64 → (128 + y) % 64 ≡ y
kept y h = omega arith

-- four times six bits
joined : (x p q r a b d : ℕ) → x ≡ p * 64 + a → p ≡ q * 64 + b → q ≡ r * 64 + d → r * 262144 + d * 4096 + b * 64 + a ≡ x
joined x p q r a b d e f g = omega arith

parts : (x : ℕ) → x / 262144 * 262144 + x / 4096 % 64 * 4096 + x / 64 % 64 * 64 + x % 64 ≡ x
parts x =
    joined x (x / 64) (x / 4096) (x / 262144) (x % 64) (x / 64 % 64) (x / 4096 % 64) (omega arith) (omega arith) (omega arith)

module _ (x : ℕ) (rest : List ℕ) where
  one : x < 0x80 → decode_of (x ∷ rest) ≡ Some (x, 1)
  unfolding decode_of decode_from
  one h = rw (lt-ltb x 0x80 h)

  two_bytes : 0x80 ≤ x → x < 0x800 → decode_of ((192 + x / 64) ∷ (128 + x % 64) ∷ rest) ≡ Some (x, 2)
  unfolding decode_of decode_from two tail six
  two_bytes l h =
      let a : ltb (192 + x / 64) 0x80 ≡ false = le-ltb (192 + x / 64) 0x80 (omega arith) in
      let b : ltb (192 + x / 64) 0xC2 ≡ false = le-ltb (192 + x / 64) 0xC2 (omega arith) in
      let d : ltb (192 + x / 64) 0xE0 ≡ true = lt-ltb (192 + x / 64) 0xE0 (omega arith) in
      let t : eqb ((128 + x % 64) / 64) 2 ≡ true = goes_on (x % 64) (omega arith) in
      let v : (192 + x / 64) % 32 * 64 + (128 + x % 64) % 64 ≡ x = omega arith in
      rw (a, b, d, t, v)

  three_bytes : 0x800 ≤ x → x < 0x10000 → (x < 0xD800) ⊎ (0xE000 ≤ x)
      → decode_of ((224 + x / 4096) ∷ (128 + x / 64 % 64) ∷ (128 + x % 64) ∷ rest) ≡ Some (x, 3)
  unfolding decode_of decode_from three three_of tail six
  three_bytes l h s =
      let a : ltb (224 + x / 4096) 0x80 ≡ false = le-ltb (224 + x / 4096) 0x80 (omega arith) in
      let b : ltb (224 + x / 4096) 0xC2 ≡ false = le-ltb (224 + x / 4096) 0xC2 (omega arith) in
      let d : ltb (224 + x / 4096) 0xE0 ≡ false = le-ltb (224 + x / 4096) 0xE0 (omega arith) in
      let e : ltb (224 + x / 4096) 0xF0 ≡ true = lt-ltb (224 + x / 4096) 0xF0 (omega arith) in
      let t : eqb ((128 + x / 64 % 64) / 64) 2 ≡ true = goes_on (x / 64 % 64) (omega arith) in
      let u : eqb ((128 + x % 64) / 64) 2 ≡ true = goes_on (x % 64) (omega arith) in
      let v : (224 + x / 4096) % 16 * 4096 + (128 + x / 64 % 64) % 64 * 64 + (128 + x % 64) % 64 ≡ x = omega arith in
      rw (a, b, d, e, t, u, v, le-ltb x 0x800 l)
      (⊎_elim
      (λ k. rw (lt-ltb x 0xD800 k))
      (λ k. let f : ltb x 0xD800 ≡ false = le-ltb x 0xD800 (omega arith) in rw (f, le-ltb x 0xE000 k))
      s)

  four_bytes : 0x10000 ≤ x → x < 0x110000
      → decode_of ((240 + x / 262144) ∷ (128 + x / 4096 % 64) ∷ (128 + x / 64 % 64) ∷ (128 + x % 64) ∷ rest) ≡ Some (x, 4)
  unfolding decode_of decode_from four four_of tail six
  four_bytes l h =
      let a : ltb (240 + x / 262144) 0x80 ≡ false = le-ltb (240 + x / 262144) 0x80 (omega arith) in
      let b : ltb (240 + x / 262144) 0xC2 ≡ false = le-ltb (240 + x / 262144) 0xC2 (omega arith) in
      let d : ltb (240 + x / 262144) 0xE0 ≡ false = le-ltb (240 + x / 262144) 0xE0 (omega arith) in
      let e : ltb (240 + x / 262144) 0xF0 ≡ false = le-ltb (240 + x / 262144) 0xF0 (omega arith) in
      let f : ltb (240 + x / 262144) 0xF8 ≡ true = lt-ltb (240 + x / 262144) 0xF8 (omega arith) in
      let t : eqb ((128 + x / 4096 % 64) / 64) 2 ≡ true = goes_on (x / 4096 % 64) (omega arith) in
      let u : eqb ((128 + x / 64 % 64) / 64) 2 ≡ true = goes_on (x / 64 % 64) (omega arith) in
      let w : eqb ((128 + x % 64) / 64) 2 ≡ true = goes_on (x % 64) (omega arith) in
      let o : (240 + x / 262144) % 8 ≡ x / 262144 = omega arith in
      let k : (128 + x / 4096 % 64) % 64 ≡ x / 4096 % 64 = kept (x / 4096 % 64) (omega arith) in
      let m : (128 + x / 64 % 64) % 64 ≡ x / 64 % 64 = kept (x / 64 % 64) (omega arith) in
      let n : (128 + x % 64) % 64 ≡ x % 64 = kept (x % 64) (omega arith) in
      rw (a, b, d, e, f, t, u, w, o, k, m, n, parts x, le-ltb x 0x10000 l, lt-ltb x 0x110000 h)

  pub decodes : x < 0x110000 → (x < 0xD800) ⊎ (0xE000 ≤ x) → decode_of (encode_of x ++ rest) ≡ Some (x, length (encode_of x))
  unfolding encode_of
  decodes h s =
      by_test (ltb x 0x80)
      (λ a. rw a (one (ltb-true _ _ a)))
      (λ a. by_test (ltb x 0x800)
      (λ b. rw (a, b) (two_bytes (ltb-false _ _ a) (ltb-true _ _ b)))
      (λ b. by_test (ltb x 0x10000)
      (λ d. rw (a, b, d) (three_bytes (ltb-false _ _ b) (ltb-true _ _ d) s))
      (λ d. rw (a, b, d) (four_bytes (ltb-false _ _ d) h))))
