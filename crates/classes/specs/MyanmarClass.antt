-- Myanmar class: how the Myanmar parser tells characters apart. The codes of SCOPE 2.2; REST is any class that the parsers do not name.
use Rattle.std.specs.Prelude.{ℕ, List, [], ◌∷◌}

abbrev pub A : ℕ
A = 0

abbrev pub As : ℕ
As = 1

abbrev pub C : ℕ
C = 2

abbrev pub D : ℕ
D = 3

abbrev pub D0 : ℕ
D0 = 4

abbrev pub DB : ℕ
DB = 5

abbrev pub H : ℕ
H = 6

abbrev pub IV : ℕ
IV = 7

abbrev pub J : ℕ
J = 8

abbrev pub MH : ℕ
MH = 9

abbrev pub MR : ℕ
MR = 10

abbrev pub MW : ℕ
MW = 11

abbrev pub MY : ℕ
MY = 12

abbrev pub O : ℕ
O = 13

abbrev pub P : ℕ
P = 14

abbrev pub PT : ℕ
PT = 15

abbrev pub R : ℕ
R = 16

abbrev pub S : ℕ
S = 17

abbrev pub «V» : ℕ
«V» = 18

abbrev pub VAbv : ℕ
VAbv = 19

abbrev pub VBlw : ℕ
VBlw = 20

abbrev pub VPre : ℕ
VPre = 21

abbrev pub VPst : ℕ
VPst = 22

abbrev pub VS : ℕ
VS = 23

abbrev pub WJ : ℕ
WJ = 24

abbrev pub REST : ℕ
REST = 25

-- how many codes there are
abbrev pub len : ℕ
len = 26

-- the codes in order
abbrev pub myanmar_classes : List ℕ
myanmar_classes =
    A ∷ As ∷ C ∷ D ∷ D0 ∷ DB ∷ H ∷ IV ∷ J ∷ MH ∷ MR ∷ MW ∷ MY ∷ O ∷ P ∷ PT ∷ R ∷ S ∷ «V» ∷ VAbv ∷ VBlw ∷ VPre ∷ VPst ∷ VS ∷ WJ ∷ REST ∷ []
