-- Word class: how the word machine tells characters apart. The codes of SCOPE 2.2.
use Rattle.std.specs.Prelude.{ℕ, List, [], ◌∷◌}

abbrev pub Other : ℕ
Other = 0

abbrev pub CR : ℕ
CR = 1

abbrev pub LF : ℕ
LF = 2

abbrev pub NL : ℕ
NL = 3

abbrev pub Extend : ℕ
Extend = 4

abbrev pub ZWJ : ℕ
ZWJ = 5

abbrev pub FO : ℕ
FO = 6

abbrev pub WSegSpace : ℕ
WSegSpace = 7

abbrev pub ALetter : ℕ
ALetter = 8

abbrev pub HL : ℕ
HL = 9

abbrev pub ML : ℕ
ML = 10

abbrev pub MidNumLet : ℕ
MidNumLet = 11

abbrev pub MN : ℕ
MN = 12

abbrev pub NU : ℕ
NU = 13

abbrev pub SQ : ℕ
SQ = 14

abbrev pub DQ : ℕ
DQ = 15

abbrev pub KA : ℕ
KA = 16

abbrev pub EX : ℕ
EX = 17

abbrev pub RI : ℕ
RI = 18

-- how many codes there are
abbrev pub len : ℕ
len = 19

-- the codes in order
abbrev pub word_breaks : List ℕ
word_breaks =
    Other ∷ CR ∷ LF ∷ NL ∷ Extend ∷ ZWJ ∷ FO ∷ WSegSpace ∷ ALetter ∷ HL ∷ ML ∷ MidNumLet ∷ MN ∷ NU ∷ SQ ∷ DQ ∷ KA ∷ EX ∷ RI ∷ []
