-- The scalars that the parsers name.
use Rattle.std.specs.Prelude.{ℕ, List, [], ◌∷◌}

-- U+000D, carriage return
abbrev pub CR : ℕ
CR = 0x0D

-- U+000A, line feed
abbrev pub LF : ℕ
LF = 0x0A

-- U+034F, combining grapheme joiner: stepped over by the complex and the Myanmar parser
abbrev pub CGJ : ℕ
CGJ = 0x034F

-- U+200C, zero width non-joiner
abbrev pub ZWNJ : ℕ
ZWNJ = 0x200C

-- U+200D, zero width joiner
abbrev pub ZWJ : ℕ
ZWJ = 0x200D

-- U+FE0E, variation selector 15: the emoji before it is shown as text
abbrev pub VS15 : ℕ
VS15 = 0xFE0E

-- U+FE0F, variation selector 16: the emoji before it is shown in color
abbrev pub VS16 : ℕ
VS16 = 0xFE0F

-- U+1004, Myanmar letter nga, the first of a kinzi
abbrev pub NGA : ℕ
NGA = 0x1004

-- U+101B, Myanmar letter ra, the first of a kinzi
abbrev pub RA : ℕ
RA = 0x101B

-- U+105A, Myanmar letter Mon nga, the first of a kinzi
abbrev pub MON_NGA : ℕ
MON_NGA = 0x105A

-- U+103A, Myanmar sign asat, the second of a kinzi
abbrev pub ASAT : ℕ
ASAT = 0x103A

-- U+1039, Myanmar sign virama, the third of a kinzi
abbrev pub VIRAMA : ℕ
VIRAMA = 0x1039

-- U+17D2, Khmer sign coeng
abbrev pub COENG : ℕ
COENG = 0x17D2

-- U+17C1, Khmer vowel sign e, the lent part of the five signs below
abbrev pub KHMER_E : ℕ
KHMER_E = 0x17C1

-- U+17BE, Khmer vowel sign oe
abbrev pub KHMER_OE : ℕ
KHMER_OE = 0x17BE

-- U+17BF, Khmer vowel sign ya
abbrev pub KHMER_YA : ℕ
KHMER_YA = 0x17BF

-- U+17C0, Khmer vowel sign ie
abbrev pub KHMER_IE : ℕ
KHMER_IE = 0x17C0

-- U+17C4, Khmer vowel sign oo
abbrev pub KHMER_OO : ℕ
KHMER_OO = 0x17C4

-- U+17C5, Khmer vowel sign au
abbrev pub KHMER_AU : ℕ
KHMER_AU = 0x17C5

-- the five signs that the complex parser splits in Khmer
abbrev pub khmer_signs : List ℕ
khmer_signs = KHMER_OE ∷ KHMER_YA ∷ KHMER_IE ∷ KHMER_OO ∷ KHMER_AU ∷ []

-- the letters that can begin a kinzi
abbrev pub kinzi_firsts : List ℕ
kinzi_firsts = NGA ∷ RA ∷ MON_NGA ∷ []
