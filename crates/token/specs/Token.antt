-- A token is one number: scalar (21 bits), kind (6), cluster break (4), category (2), emoji (1), selector (1), record index (12).
use Rattle.std.specs.Prelude.{ℕ, ◌+◌, ◌*◌, ◌/◌, ◌%◌}

abbrev pub scalar_of : ℕ → ℕ
scalar_of t = t % 0x20_0000

abbrev pub kind_of : ℕ → ℕ
kind_of t = t / 0x20_0000 % 64

abbrev pub break_of : ℕ → ℕ
break_of t = t / 0x800_0000 % 16

abbrev pub category_of : ℕ → ℕ
category_of t = t / 0x8000_0000 % 4

abbrev pub emoji_of : ℕ → ℕ
emoji_of t = t / 0x2_0000_0000 % 2

abbrev pub selector_of : ℕ → ℕ
selector_of t = t / 0x4_0000_0000 % 2

abbrev pub index_of : ℕ → ℕ
index_of t = t / 0x8_0000_0000 % 4096

-- the token of these fields
abbrev pub packed : ℕ → ℕ → ℕ → ℕ → ℕ → ℕ → ℕ → ℕ
packed scalar kind brk category emoji selector index =
    scalar % 0x20_0000 + kind % 64 * 0x20_0000 + brk % 16 * 0x800_0000
    + (category % 4 + emoji % 2 * 4 + selector % 2 * 8) * 0x8000_0000
    + index % 4096 * 0x8_0000_0000
