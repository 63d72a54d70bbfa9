-- UAX #29 of Unicode 15.0, section 4.1.1: the rules WB1 to WB999, each under the annex's own line and in its order, so that a
-- reviewer reads them against the annex. Written from that document, and not from the word machine.
use Rattle.std.specs.Prelude.{ℕ, min, List, ◌++◌, [], ◌∷◌, map, Bool, false, cond, not, ◌&&◌, length, drop}
use Rattle.basics.specs.Columns.{cells}
use Rattle.classes.specs.WordBreak.{CR, LF, ZWJ, WSegSpace, HL, NU, SQ, DQ, KA, EX, RI, NL, Extend, FO, ALetter, ML, MidNumLet, MN}
use Rattle.uax29.specs.Rules.{Item, is, is_not, among, pictographic, Rule, anything, edge, any, one, next, pairs, ◌÷◌, ◌⨯◌, decide, before_of, after_of}

-- AHLetter: (ALetter | Hebrew_Letter)
abbrev pub AHLetter : List ℕ
AHLetter = ALetter ∷ HL ∷ []

-- MidNumLetQ: (MidNumLet | Single_Quote)
abbrev pub MidNumLetQ : List ℕ
MidNumLetQ = MidNumLet ∷ SQ ∷ []

-- (Newline | CR | LF)
abbrev pub newlines : List ℕ
newlines = NL ∷ CR ∷ LF ∷ []

-- (Extend | Format | ZWJ)
abbrev pub ignored : List ℕ
ignored = Extend ∷ FO ∷ ZWJ ∷ []

-- (MidLetter | MidNumLetQ)
abbrev pub mid_letters : List ℕ
mid_letters = ML ∷ MidNumLetQ

-- (MidNum | MidNumLetQ)
abbrev pub mid_numbers : List ℕ
mid_numbers = MN ∷ MidNumLetQ

-- (AHLetter | Numeric | Katakana)
abbrev pub extendable : List ℕ
extendable = KA ∷ NU ∷ AHLetter

-- (AHLetter | Numeric | Katakana | ExtendNumLet)
abbrev pub extended : List ℕ
extended = EX ∷ extendable

-- WB1: sot ÷ Any
unfoldable pub WB1 : Rule
WB1 = edge ÷ any

-- WB2: Any ÷ eot
unfoldable pub WB2 : Rule
WB2 = any ÷ edge

-- WB3: CR × LF
unfoldable pub WB3 : Rule
WB3 = one (is CR) ⨯ one (is LF)

-- WB3a: (Newline | CR | LF) ÷
unfoldable pub WB3a : Rule
WB3a = one (among newlines) ÷ anything

-- WB3b: ÷ (Newline | CR | LF)
unfoldable pub WB3b : Rule
WB3b = anything ÷ one (among newlines)

-- WB3c: ZWJ × \p{Extended_Pictographic}
unfoldable pub WB3c : Rule
WB3c = one (is ZWJ) ⨯ one pictographic

-- WB3d: WSegSpace × WSegSpace
unfoldable pub WB3d : Rule
WB3d = one (is WSegSpace) ⨯ one (is WSegSpace)

-- WB4: X (Extend | Format | ZWJ)* → X
-- "Ignore Format and Extend characters, except after sot, CR, LF, and Newline": no boundary before one of them (where they are
-- excepted, WB1 and WB3a have said ÷), and the rules from WB5 on do not see them.
unfoldable pub WB4 : Rule
WB4 = anything ⨯ one (among ignored)

-- an X stands nearest
abbrev pub an_x : List Item → Bool
an_x [] = false
an_x (x ∷ xs) = not (among newlines x)

-- the characters before a place, without those that WB4 ignores
unfoldable pub kept : List Item → List Item
kept [] = []
kept (x ∷ xs) = cond (among ignored x && an_x xs) (kept xs) (x ∷ kept xs)

unfoldable pub passed : List Item → List Item
passed [] = []
passed (x ∷ xs) = cond (among ignored x) (passed xs) (x ∷ xs)

-- the characters from a place on, as far as the rules look: the nearest, which is an X here, and what follows those ignored after it
abbrev pub kept_from : List Item → List Item
kept_from [] = []
kept_from (x ∷ xs) = x ∷ passed xs

-- WB5: AHLetter × AHLetter
unfoldable pub WB5 : Rule
WB5 = one (among AHLetter) ⨯ one (among AHLetter)

-- WB6: AHLetter × (MidLetter | MidNumLetQ) AHLetter
unfoldable pub WB6 : Rule
WB6 = one (among AHLetter) ⨯ next (among mid_letters) (one (among AHLetter))

-- WB7: AHLetter (MidLetter | MidNumLetQ) × AHLetter
unfoldable pub WB7 : Rule
WB7 = next (among mid_letters) (one (among AHLetter)) ⨯ one (among AHLetter)

-- WB7a: Hebrew_Letter × Single_Quote
unfoldable pub WB7a : Rule
WB7a = one (is HL) ⨯ one (is SQ)

-- WB7b: Hebrew_Letter × Double_Quote Hebrew_Letter
unfoldable pub WB7b : Rule
WB7b = one (is HL) ⨯ next (is DQ) (one (is HL))

-- WB7c: Hebrew_Letter Double_Quote × Hebrew_Letter
unfoldable pub WB7c : Rule
WB7c = next (is DQ) (one (is HL)) ⨯ one (is HL)

-- WB8: Numeric × Numeric
unfoldable pub WB8 : Rule
WB8 = one (is NU) ⨯ one (is NU)

-- WB9: AHLetter × Numeric
unfoldable pub WB9 : Rule
WB9 = one (among AHLetter) ⨯ one (is NU)

-- WB10: Numeric × AHLetter
unfoldable pub WB10 : Rule
WB10 = one (is NU) ⨯ one (among AHLetter)

-- WB11: Numeric (MidNum | MidNumLetQ) × Numeric
unfoldable pub WB11 : Rule
WB11 = next (among mid_numbers) (one (is NU)) ⨯ one (is NU)

-- WB12: Numeric × (MidNum | MidNumLetQ) Numeric
unfoldable pub WB12 : Rule
WB12 = one (is NU) ⨯ next (among mid_numbers) (one (is NU))

-- WB13: Katakana × Katakana
unfoldable pub WB13 : Rule
WB13 = one (is KA) ⨯ one (is KA)

-- WB13a: (AHLetter | Numeric | Katakana | ExtendNumLet) × ExtendNumLet
unfoldable pub WB13a : Rule
WB13a = one (among extended) ⨯ one (is EX)

-- WB13b: ExtendNumLet × (AHLetter | Numeric | Katakana)
unfoldable pub WB13b : Rule
WB13b = one (is EX) ⨯ one (among extendable)

-- WB15: sot (RI RI)* RI × RI
unfoldable pub WB15 : Rule
WB15 = next (is RI) (pairs (is RI) edge) ⨯ one (is RI)

-- WB16: [^RI] (RI RI)* RI × RI
unfoldable pub WB16 : Rule
WB16 = next (is RI) (pairs (is RI) (one (is_not RI))) ⨯ one (is RI)

-- WB999: Any ÷ Any
unfoldable pub WB999 : Rule
WB999 = any ÷ any

-- a rule of what WB4 leaves
abbrev pub seen : Rule → Rule
seen r = record { before = λ xs. r.before (kept xs); after = λ xs. r.after (kept_from xs); parts = r.parts }

abbrev pub to_WB4 : List Rule
to_WB4 = WB1 ∷ WB2 ∷ WB3 ∷ WB3a ∷ WB3b ∷ WB3c ∷ WB3d ∷ WB4 ∷ []

abbrev pub from_WB5 : List Rule
from_WB5 =
    WB5 ∷ WB6 ∷ WB7 ∷ WB7a ∷ WB7b ∷ WB7c ∷ WB8 ∷ WB9 ∷ WB10 ∷ WB11 ∷ WB12 ∷ WB13 ∷ WB13a ∷ WB13b ∷ WB15 ∷ WB16 ∷ WB999 ∷ []

-- another edition of Unicode is another list
abbrev pub rules : List Rule
rules = to_WB4 ++ map seen from_WB5

-- 1 where a word boundary stands before the record at an index of two columns, else 0
unfoldable pub boundary_at : List ℕ → List ℕ → ℕ → ℕ
boundary_at words pictographs i = cond (decide rules (before_of words pictographs i) (after_of words pictographs i)) 1 0

-- the same of the first n records; the boundary at the text's end does not belong to the answer (SCOPE 8.2)
abbrev pub boundaries : List ℕ → List ℕ → ℕ → List ℕ
boundaries words pictographs = cells (boundary_at words pictographs)

-- what stands in a lent column: the answers to as many records as there are cells for; the other cells keep their content
abbrev pub boundary_cells : List ℕ → List ℕ → List ℕ → List ℕ
boundary_cells words pictographs out =
    let n = min (length words) (length out) in
    boundaries words pictographs n ++ drop n out
