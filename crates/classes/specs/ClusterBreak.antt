-- Cluster break: how the simple parser, and every emoji extension, tells characters apart. The codes of SCOPE 2.2.
use Rattle.std.specs.Prelude.{ℕ, List, [], ◌∷◌}

abbrev pub XX : ℕ
XX = 0

abbrev pub CN : ℕ
CN = 1

abbrev pub CR : ℕ
CR = 2

abbrev pub LF : ℕ
LF = 3

abbrev pub L : ℕ
L = 4

abbrev pub «V» : ℕ
«V» = 5

abbrev pub T : ℕ
T = 6

abbrev pub LV : ℕ
LV = 7

abbrev pub LVT : ℕ
LVT = 8

abbrev pub RI : ℕ
RI = 9

abbrev pub EX : ℕ
EX = 10

abbrev pub SM : ℕ
SM = 11

abbrev pub ZWJ : ℕ
ZWJ = 12

abbrev pub PP : ℕ
PP = 13

-- how many codes there are
abbrev pub len : ℕ
len = 14

-- the codes in order
abbrev pub cluster_breaks : List ℕ
cluster_breaks =
    XX ∷ CN ∷ CR ∷ LF ∷ L ∷ «V» ∷ T ∷ LV ∷ LVT ∷ RI ∷ EX ∷ SM ∷ ZWJ ∷ PP ∷ []
