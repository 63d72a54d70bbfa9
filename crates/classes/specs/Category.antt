-- Category: what becomes of a character that no grammar takes, class O. The codes of SCOPE 2.2.
use Rattle.std.specs.Prelude.{ℕ, List, [], ◌∷◌}

abbrev pub Other : ℕ
Other = 0

abbrev pub Format : ℕ
Format = 1

abbrev pub Control : ℕ
Control = 2

-- how many codes there are
abbrev pub len : ℕ
len = 3

-- the codes in order
abbrev pub categories : List ℕ
categories =
    Other ∷ Format ∷ Control ∷ []
