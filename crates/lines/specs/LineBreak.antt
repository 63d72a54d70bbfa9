-- Line class: how the line table tells characters apart. The codes of SCOPE 12.1.
use Rattle.std.specs.Prelude.{ℕ, List, [], ◌∷◌}

abbrev pub AI : ℕ
AI = 0

abbrev pub AL : ℕ
AL = 1

abbrev pub B2 : ℕ
B2 = 2

abbrev pub BA : ℕ
BA = 3

abbrev pub BB : ℕ
BB = 4

abbrev pub BK : ℕ
BK = 5

abbrev pub CB : ℕ
CB = 6

abbrev pub CJ : ℕ
CJ = 7

abbrev pub CL : ℕ
CL = 8

abbrev pub CM : ℕ
CM = 9

abbrev pub CP : ℕ
CP = 10

abbrev pub CR : ℕ
CR = 11

abbrev pub EB : ℕ
EB = 12

abbrev pub EM : ℕ
EM = 13

abbrev pub EX : ℕ
EX = 14

abbrev pub GL : ℕ
GL = 15

abbrev pub H2 : ℕ
H2 = 16

abbrev pub H3 : ℕ
H3 = 17

abbrev pub HL : ℕ
HL = 18

abbrev pub HY : ℕ
HY = 19

abbrev pub ID : ℕ
ID = 20

abbrev pub IN : ℕ
IN = 21

abbrev pub IS : ℕ
IS = 22

abbrev pub JL : ℕ
JL = 23

abbrev pub JT : ℕ
JT = 24

abbrev pub JV : ℕ
JV = 25

abbrev pub LF : ℕ
LF = 26

abbrev pub NL : ℕ
NL = 27

abbrev pub NS : ℕ
NS = 28

abbrev pub NU : ℕ
NU = 29

abbrev pub OP : ℕ
OP = 30

abbrev pub PO : ℕ
PO = 31

abbrev pub PR : ℕ
PR = 32

abbrev pub QU : ℕ
QU = 33

abbrev pub RI : ℕ
RI = 34

abbrev pub SA : ℕ
SA = 35

abbrev pub SG : ℕ
SG = 36

abbrev pub SP : ℕ
SP = 37

abbrev pub SY : ℕ
SY = 38

abbrev pub WJ : ℕ
WJ = 39

abbrev pub XX : ℕ
XX = 40

abbrev pub ZW : ℕ
ZW = 41

abbrev pub ZWJ : ℕ
ZWJ = 42

-- how many codes there are
abbrev pub len : ℕ
len = 43

-- the codes in order
abbrev pub line_breaks : List ℕ
line_breaks =
    AI ∷ AL ∷ B2 ∷ BA ∷ BB ∷ BK ∷ CB ∷ CJ ∷ CL ∷ CM ∷ CP ∷ CR ∷ EB ∷ EM ∷ EX ∷ GL ∷ H2 ∷ H3 ∷ HL ∷ HY ∷ ID ∷ IN ∷
    IS ∷ JL ∷ JT ∷ JV ∷ LF ∷ NL ∷ NS ∷ NU ∷ OP ∷ PO ∷ PR ∷ QU ∷ RI ∷ SA ∷ SG ∷ SP ∷ SY ∷ WJ ∷ XX ∷ ZW ∷ ZWJ ∷ []
