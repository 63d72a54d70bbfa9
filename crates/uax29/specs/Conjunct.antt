-- Conjunct code: a character's part in a conjunct, Indic_Conjunct_Break of Unicode 15.1. The codes of SCOPE 12.6.
use Rattle.std.specs.Prelude.{ℕ}

abbrev pub None : ℕ
None = 0

abbrev pub Consonant : ℕ
Consonant = 1

abbrev pub Linker : ℕ
Linker = 2

abbrev pub Extend : ℕ
Extend = 3

-- how many codes there are
abbrev pub len : ℕ
len = 4
