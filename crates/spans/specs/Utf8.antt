-- The bytes that UTF-8 writes a scalar with, and those of a text: what an offset is an offset in.
use Rattle.std.specs.Prelude.{ℕ, ◌+◌, ◌/◌, ◌%◌, cond, List, [], ◌∷◌, ◌++◌, ltb}

unfoldable pub encode_of : ℕ → List ℕ
encode_of x =
    cond (ltb x 0x80) (x ∷ [])
    (cond (ltb x 0x800) ((192 + x / 64) ∷ (128 + x % 64) ∷ [])
    (cond (ltb x 0x10000) ((224 + x / 4096) ∷ (128 + x / 64 % 64) ∷ (128 + x % 64) ∷ [])
    ((240 + x / 262144) ∷ (128 + x / 4096 % 64) ∷ (128 + x / 64 % 64) ∷ (128 + x % 64) ∷ [])))

-- of scalars one after the other
unfoldable pub encoded : List ℕ → List ℕ
encoded [] = []
encoded (x ∷ xs) = encode_of x ++ encoded xs
