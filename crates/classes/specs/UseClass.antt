-- USE class: how the complex parser tells characters apart. The codes of SCOPE 2.2; REST is any class that the parsers do not name.
use Rattle.std.specs.Prelude.{ℕ, List, [], ◌∷◌}

abbrev pub B : ℕ
B = 0

abbrev pub CMAbv : ℕ
CMAbv = 1

abbrev pub CMBlw : ℕ
CMBlw = 2

abbrev pub CS : ℕ
CS = 3

abbrev pub FAbv : ℕ
FAbv = 4

abbrev pub FBlw : ℕ
FBlw = 5

abbrev pub FM : ℕ
FM = 6

abbrev pub FPst : ℕ
FPst = 7

abbrev pub GB : ℕ
GB = 8

abbrev pub H : ℕ
H = 9

abbrev pub HN : ℕ
HN = 10

abbrev pub IND : ℕ
IND = 11

abbrev pub MAbv : ℕ
MAbv = 12

abbrev pub MBlw : ℕ
MBlw = 13

abbrev pub MPre : ℕ
MPre = 14

abbrev pub MPst : ℕ
MPst = 15

abbrev pub N : ℕ
N = 16

abbrev pub O : ℕ
O = 17

abbrev pub R : ℕ
R = 18

abbrev pub Rsv : ℕ
Rsv = 19

abbrev pub S : ℕ
S = 20

abbrev pub SMAbv : ℕ
SMAbv = 21

abbrev pub SMBlw : ℕ
SMBlw = 22

abbrev pub SUB : ℕ
SUB = 23

abbrev pub VAbv : ℕ
VAbv = 24

abbrev pub VBlw : ℕ
VBlw = 25

abbrev pub VMAbv : ℕ
VMAbv = 26

abbrev pub VMBlw : ℕ
VMBlw = 27

abbrev pub VMPre : ℕ
VMPre = 28

abbrev pub VMPst : ℕ
VMPst = 29

abbrev pub VPre : ℕ
VPre = 30

abbrev pub VPst : ℕ
VPst = 31

abbrev pub VS : ℕ
VS = 32

abbrev pub WJ : ℕ
WJ = 33

abbrev pub ZWJ : ℕ
ZWJ = 34

abbrev pub ZWNJ : ℕ
ZWNJ = 35

abbrev pub REST : ℕ
REST = 36

-- how many codes there are
abbrev pub len : ℕ
len = 37

-- the codes in order
abbrev pub use_classes : List ℕ
use_classes =
    B ∷ CMAbv ∷ CMBlw ∷ CS ∷ FAbv ∷ FBlw ∷ FM ∷ FPst ∷ GB ∷ H ∷ HN ∷ IND ∷ MAbv ∷ MBlw ∷ MPre ∷ MPst ∷ N ∷ O ∷ R ∷ Rsv ∷ S ∷ SMAbv ∷ SMBlw ∷ SUB ∷ VAbv ∷ VBlw ∷ VMAbv ∷ VMBlw ∷ VMPre ∷ VMPst ∷ VPre ∷ VPst ∷ VS ∷ WJ ∷ ZWJ ∷ ZWNJ ∷ REST ∷ []
