-- Where the bytes of a record are: "the UTF-8 offset and length of its record (1 to 4 bytes a scalar)" (SCOPE 12.7). Offsets "count from the
-- text's start", and an end "is the offset after the last byte".
use Rattle.std.specs.Prelude.{ℕ, zero, suc, ◌+◌, cond, List, ltb}
use Rattle.records.specs.Text.{cell}

-- how many bytes a scalar has
unfoldable pub bytes_of : ℕ → ℕ
bytes_of x = cond (ltb x 0x80) 1 (cond (ltb x 0x800) 2 (cond (ltb x 0x10000) 3 4))

-- how many bytes the records before record i have
unfoldable pub offset_of : List ℕ → ℕ → ℕ
offset_of scalars zero = 0
offset_of scalars (suc i) = offset_of scalars i + bytes_of (cell scalars i)

abbrev pub length_of : List ℕ → ℕ → ℕ
length_of scalars i = bytes_of (cell scalars i)

abbrev pub end_of : List ℕ → ℕ → ℕ
end_of scalars i = offset_of scalars i + length_of scalars i
