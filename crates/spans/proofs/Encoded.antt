-- A scalar has as many bytes as UTF-8 writes it with, and a record's offset is how many bytes UTF-8 writes before it. Assumes nothing.
use Prim.Native.Nat.{ℕ, zero, suc, ◌+◌, ◌≤◌}
use mathlib.Core.Path.{◌≡◌, refl, sym, ◌∙◌, ap}
use mathlib.Core.Bool.{Bool, true, false, cond}
use mathlib.Core.List.{List, [], ◌∷◌, ◌++◌}
use native.Mathlib.Omega.{arith}
use lib.Dec.{ltb}
use lib.ListN.{length, take, length-append}
use lib.Seq.{take-suc}
use Rattle.records.specs.Text.{cell}
use Rattle.spans.specs.Offsets.{bytes_of, offset_of}
use Rattle.spans.specs.Utf8.{encode_of, encoded}

pub bytes_encoded : (x : ℕ) → bytes_of x ≡ length (encode_of x)
unfolding bytes_of encode_of
bytes_encoded x = go (ltb x 0x80) (ltb x 0x800) (ltb x 0x10000) _ _ _ _ refl refl refl refl
  where
    go : (a b c : Bool) (p q r s : List ℕ) → length p ≡ 1 → length q ≡ 2 → length r ≡ 3 → length s ≡ 4 → cond a 1 (cond b 2 (cond c 3 4)) ≡ length (cond a p (cond b q (cond c r s)))
    go true b c p q r s e f g h = sym e
    go false true c p q r s e f g h = sym f
    go false false true p q r s e f g h = sym g
    go false false false p q r s e f g h = sym h

encoded_append : (xs ys : List ℕ) → length (encoded (xs ++ ys)) ≡ length (encoded xs) + length (encoded ys)
unfolding encoded
encoded_append [] ys = omega arith
encoded_append (x ∷ xs) ys = simp length-append (omega (arith, encoded_append xs ys))

-- "Offsets count from the text's start"
pub offset_encoded : (scalars : List ℕ) (i : ℕ) → i ≤ length scalars → offset_of scalars i ≡ length (encoded (take i scalars))
unfolding offset_of encoded
offset_encoded scalars zero h = refl
offset_encoded scalars (suc i) h =
    let one : length (encoded (cell scalars i ∷ [])) ≡ bytes_of (cell scalars i) = length-append (encode_of (cell scalars i)) [] ∙ omega (arith, bytes_encoded (cell scalars i)) in
    let more : length (encoded (take (suc i) scalars)) ≡ length (encoded (take i scalars)) + bytes_of (cell scalars i) =
    ap (λ xs. length (encoded xs)) (take-suc scalars i 0 (omega arith)) ∙ encoded_append (take i scalars) (cell scalars i ∷ []) ∙ ap (λ n. length (encoded (take i scalars)) + n) one in
    omega (arith, more, offset_encoded scalars i (omega arith))
