-- UAX #29 of Unicode 15.0, section 3.1.1: the rules GB1 to GB999, each under the annex's own line and in its order, so that a
-- reviewer reads them against the annex. Written from that document, and not from a parser.
use Rattle.std.specs.Prelude.{ℕ, zero, suc, ◌+◌, Bool, false, cond, List, [], ◌∷◌, ltb, length}
use Rattle.classes.specs.ClusterBreak.{CN, CR, LF, L, «V», T, LV, LVT, RI, EX, SM, ZWJ, PP}
pub use Rattle.uax29.specs.Rules.{Item, Rule}
unfoldable pub use Rattle.uax29.specs.Rules.{Test, is, is_not, among, pictographic, Side, anything, edge, any, one, next, many, pairs, ◌÷◌, ◌⨯◌, applies, decide, item_in, before_in, items_from, after_in, item_at, before_of, after_of}

abbrev pub controls : List ℕ
controls = CN ∷ CR ∷ LF ∷ []

-- GB1: sot ÷ Any
unfoldable pub GB1 : Rule
GB1 = edge ÷ any

-- GB2: Any ÷ eot
unfoldable pub GB2 : Rule
GB2 = any ÷ edge

-- GB3: CR × LF
unfoldable pub GB3 : Rule
GB3 = one (is CR) ⨯ one (is LF)

-- GB4: (Control | CR | LF) ÷
unfoldable pub GB4 : Rule
GB4 = one (among controls) ÷ anything

-- GB5: ÷ (Control | CR | LF)
unfoldable pub GB5 : Rule
GB5 = anything ÷ one (among controls)

-- GB6: L × (L | V | LV | LVT)
unfoldable pub GB6 : Rule
GB6 = one (is L) ⨯ one (among (L ∷ «V» ∷ LV ∷ LVT ∷ []))

-- GB7: (LV | V) × (V | T)
unfoldable pub GB7 : Rule
GB7 = one (among (LV ∷ «V» ∷ [])) ⨯ one (among («V» ∷ T ∷ []))

-- GB8: (LVT | T) × T
unfoldable pub GB8 : Rule
GB8 = one (among (LVT ∷ T ∷ [])) ⨯ one (is T)

-- GB9: × (Extend | ZWJ)
unfoldable pub GB9 : Rule
GB9 = anything ⨯ one (among (EX ∷ ZWJ ∷ []))

-- GB9a: × SpacingMark
unfoldable pub GB9a : Rule
GB9a = anything ⨯ one (is SM)

-- GB9b: Prepend ×
unfoldable pub GB9b : Rule
GB9b = one (is PP) ⨯ anything

-- GB11: \p{Extended_Pictographic} Extend* ZWJ × \p{Extended_Pictographic}
unfoldable pub GB11 : Rule
GB11 = next (is ZWJ) (many (is EX) (one pictographic)) ⨯ one pictographic

-- GB12: sot (RI RI)* RI × RI
unfoldable pub GB12 : Rule
GB12 = next (is RI) (pairs (is RI) edge) ⨯ one (is RI)

-- GB13: [^RI] (RI RI)* RI × RI
unfoldable pub GB13 : Rule
GB13 = next (is RI) (pairs (is RI) (one (is_not RI))) ⨯ one (is RI)

-- GB999: Any ÷ Any
unfoldable pub GB999 : Rule
GB999 = any ÷ any

-- another edition of Unicode is another list
abbrev pub rules : List Rule
rules = GB1 ∷ GB2 ∷ GB3 ∷ GB4 ∷ GB5 ∷ GB6 ∷ GB7 ∷ GB8 ∷ GB9 ∷ GB9a ∷ GB9b ∷ GB11 ∷ GB12 ∷ GB13 ∷ GB999 ∷ []

-- whether a boundary stands at a place; past the end there is no place
unfoldable pub boundary_at : List ℕ → List ℕ → ℕ → Bool
boundary_at breaks marks at = cond (ltb (length breaks) at) false (decide rules (before_of breaks marks at) (after_of breaks marks at))

-- of n places from one on, those at which b says so
unfoldable pub places_from : (ℕ → Bool) → ℕ → ℕ → List ℕ
places_from b at zero = []
places_from b at (suc n) = let later = places_from b (at + 1) n in cond (b at) (at ∷ later) later

-- the places of all boundaries, but for the one at the text's end, which does not belong to the answer (SCOPE 8.2)
abbrev pub boundaries : List ℕ → List ℕ → List ℕ
boundaries breaks marks = places_from (boundary_at breaks marks) 0 (length breaks)
