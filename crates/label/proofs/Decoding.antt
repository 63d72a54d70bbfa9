-- A character that was read lies inside the bytes. Assumes nothing.
use Prim.Native.Nat.{ℕ, ◌+◌, ◌-◌, ◌/◌, ◌≤◌, ◌<◌}
use mathlib.Core.Path.{◌≡◌, sym, subst, ◌∙◌}
use mathlib.Core.Bool.{true}
use mathlib.Core.List.{List}
use Rattle.std.specs.Prelude.{Some, None}
use native.Mathlib.Omega.{arith}
use lib.Dec.{ltb}
use lib.ListN.{length, get_or, take, drop, length-drop, get_or-eq_default}
use lib.Seq.{take_all}
use borrow.Author.Tests.{ltb-true, ltb-false, eqb-true}
use Rattle.basics.proofs.Tests.{if_intro, by_test}
use Rattle.label.specs.Utf8.{Decoded, tail, two, three, three_of, four, four_of, decode_from, decode_of}

-- a byte that goes on with a character is one of the bytes
tail_inside : (s : List ℕ) (i : ℕ) → tail s i ≡ true → i < length s
unfolding tail
tail_inside s i h =
    let q : get_or s i 0 / 64 ≡ 2 = eqb-true _ _ h in
    by_test (ltb i (length s))
    (λ k. ltb-true i (length s) k)
    (λ k. let e : get_or s i 0 ≡ 0 = get_or-eq_default s 0 (ltb-false i (length s) k) in absurd (omega arith))

-- a character takes at least one byte, and no more than there are
abbrev pub Inside : ℕ → Decoded → Type 0
Inside k (Some (x, n)) = (0 < n) × (n ≤ k)
Inside k None = Unit {0}

three_of_inside : (k x : ℕ) → 2 < k → Inside k (three_of x)
unfolding three_of
three_of_inside k x h =
    if_intro (Inside k) (ltb x 0x800) _ _
    (λ _. tt)
    (λ _. if_intro (Inside k) (ltb x 0xD800) _ _
    (λ _. (omega arith, omega arith))
    (λ _. if_intro (Inside k) (ltb x 0xE000) _ _ (λ _. tt) (λ _. (omega arith, omega arith))))

four_of_inside : (k x : ℕ) → 3 < k → Inside k (four_of x)
unfolding four_of
four_of_inside k x h =
    if_intro (Inside k) (ltb x 0x10000) _ _
    (λ _. tt)
    (λ _. if_intro (Inside k) (ltb x 0x110000) _ _ (λ _. (omega arith, omega arith)) (λ _. tt))

module _ (s : List ℕ) (lead : ℕ) where
  two_inside : Inside (length s) (two s lead)
  unfolding two
  two_inside = if_intro (Inside (length s)) (tail s 1) _ _ (λ k. (omega arith, tail_inside s 1 k)) (λ _. tt)

  three_inside : Inside (length s) (three s lead)
  unfolding three
  three_inside =
      if_intro (Inside (length s)) (tail s 1) _ _
      (λ _. if_intro (Inside (length s)) (tail s 2) _ _ (λ k. three_of_inside _ _ (tail_inside s 2 k)) (λ _. tt))
      (λ _. tt)

  four_inside : Inside (length s) (four s lead)
  unfolding four
  four_inside =
      if_intro (Inside (length s)) (tail s 1) _ _
      (λ _. if_intro (Inside (length s)) (tail s 2) _ _
      (λ _. if_intro (Inside (length s)) (tail s 3) _ _ (λ k. four_of_inside _ _ (tail_inside s 3 k)) (λ _. tt))
      (λ _. tt))
      (λ _. tt)

  from_inside : 0 < length s → Inside (length s) (decode_from s lead)
  unfolding decode_from
  from_inside h =
      if_intro (Inside (length s)) (ltb lead 0x80) _ _
      (λ _. (omega arith, omega arith))
      (λ _. if_intro (Inside (length s)) (ltb lead 0xC2) _ _
      (λ _. tt)
      (λ _. if_intro (Inside (length s)) (ltb lead 0xE0) _ _
      (λ _. two_inside)
      (λ _. if_intro (Inside (length s)) (ltb lead 0xF0) _ _
      (λ _. three_inside)
      (λ _. if_intro (Inside (length s)) (ltb lead 0xF8) _ _ (λ _. four_inside) (λ _. tt)))))

-- so the next character begins further on, and not past the end; r is what the decoder said of the bytes from `at` on
pub read_inside : (bytes : List ℕ) (at x n : ℕ) (r : Decoded) → at < length bytes → r ≡ decode_of (take (length bytes - at) (drop at bytes)) → r ≡ Some (x, n)
    → (at < at + n) × (at + n ≤ length bytes)
unfolding decode_of
read_inside bytes at x n r h e f =
    let l : length (drop at bytes) ≡ length bytes - at = length-drop at bytes in
    let k : take (length bytes - at) (drop at bytes) ≡ drop at bytes = take_all (length bytes - at) (drop at bytes) (omega arith) in
    let i : Inside (length (drop at bytes)) (Some (x, n)) = subst (Inside (length (drop at bytes))) (sym (rw k at e) ∙ f) (from_inside (drop at bytes) _ (omega arith)) in
    (omega arith, omega arith)
