-- UTF-8: the scalar that some bytes begin with. A byte past the end is 0, which goes on with no character.
use Rattle.std.specs.Prelude.{ℕ, zero, suc, ◌+◌, ◌-◌, ◌*◌, ◌/◌, ◌%◌, min, Bool, cond, List, [], ◌∷◌, Option, Some, None, Ok, Err, eqb, ltb, length, get_or}
use Rattle.label.specs.Taken.{Taken}
use Rattle.label.specs.declared.texts.Unread.TheVariants.{NotUtf8}

-- a scalar and how many bytes it takes, or that the bytes begin with none
abbrev pub Decoded : Type 0
Decoded = Option (ℕ × ℕ)

-- bytes 80 to BF go on with a character
unfoldable pub tail : List ℕ → ℕ → Bool
tail s i = eqb (get_or s i 0 / 64) 2

unfoldable pub six : List ℕ → ℕ → ℕ
six s i = get_or s i 0 % 64

unfoldable pub two : List ℕ → ℕ → Decoded
two s lead = cond (tail s 1) (Some (lead % 32 * 64 + six s 1, 2)) None

unfoldable pub three_of : ℕ → Decoded
three_of x = cond (ltb x 0x800) None (cond (ltb x 0xD800) (Some (x, 3)) (cond (ltb x 0xE000) None (Some (x, 3))))

unfoldable pub three : List ℕ → ℕ → Decoded
three s lead = cond (tail s 1) (cond (tail s 2) (three_of (lead % 16 * 4096 + six s 1 * 64 + six s 2)) None) None

unfoldable pub four_of : ℕ → Decoded
four_of x = cond (ltb x 0x10000) None (cond (ltb x 0x110000) (Some (x, 4)) None)

unfoldable pub four : List ℕ → ℕ → Decoded
four s lead =
    cond (tail s 1)
    (cond (tail s 2) (cond (tail s 3) (four_of (lead % 8 * 262144 + six s 1 * 4096 + six s 2 * 64 + six s 3)) None) None)
    None

-- by the first byte
unfoldable pub decode_from : List ℕ → ℕ → Decoded
decode_from s lead =
    cond (ltb lead 0x80) (Some (lead, 1))
    (cond (ltb lead 0xC2) None
    (cond (ltb lead 0xE0) (two s lead)
    (cond (ltb lead 0xF0) (three s lead)
    (cond (ltb lead 0xF8) (four s lead) None))))

unfoldable pub decode_of : List ℕ → Decoded
decode_of s = decode_from s (get_or s 0 0)

-- what follows a character: the rest, its first bytes passed over
abbrev pub onward : Decoded → (ℕ → List ℕ) → List ℕ
onward (Some (x, n)) rest = x ∷ rest (n - 1)
onward None rest = []

-- the scalars that bytes write, up to the first byte that begins none; k bytes are passed over
unfoldable pub scalars_from : ℕ → List ℕ → List ℕ
scalars_from k [] = []
scalars_from (suc k) (b ∷ s) = scalars_from k s
scalars_from zero (b ∷ s) = onward (decode_of (b ∷ s)) (λ n. scalars_from n s)

abbrev pub passed : Decoded → (ℕ → ℕ) → ℕ
passed (Some (x, n)) rest = suc (rest (n - 1))
passed None rest = 0

-- how many bytes stand before that byte
unfoldable pub stop_from : ℕ → List ℕ → ℕ
stop_from k [] = 0
stop_from (suc k) (b ∷ s) = suc (stop_from k s)
stop_from zero (b ∷ s) = passed (decode_of (b ∷ s)) (λ n. stop_from n s)

-- all are read, as many as there is room for; or where it stopped
unfoldable pub read_of : List ℕ → ℕ → Taken
read_of s room = cond (ltb (stop_from 0 s) (length s)) (Err (NotUtf8 (stop_from 0 s))) (Ok (min (length (scalars_from 0 s)) room))
