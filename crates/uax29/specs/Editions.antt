-- UAX #29 of Unicode 15.1, section 3.1.1: the rule that it added, under the annex's own line, and the editions as lists of rules. Written
-- from that document, and not from a parser.
use Rattle.std.specs.Prelude.{ℕ, Bool, false, cond, not, ◌&&◌, ◌||◌, List, [], ◌∷◌, eqb, ltb, length}
use Rattle.basics.specs.Sets.{member}
use Rattle.uax29.specs.Conjunct.{Consonant, Linker, Extend}
use Rattle.uax29.specs.Rules.{Item, Test, Rule, Side, one, next, many, ◌⨯◌, applies, decide, before_in, after_in}
use Rattle.uax29.specs.Clusters.{rules, GB1, GB2, GB3, GB4, GB5, GB6, GB7, GB8, GB9, GB9a, GB9b, GB11, GB12, GB13, GB999}

-- \p{InCB=…}
unfoldable pub conjunct_is : ℕ → Test
conjunct_is k x = eqb x.conjunct k

-- [ \p{InCB=Extend} \p{InCB=Linker} ]
abbrev pub joiners : List ℕ
joiners = Extend ∷ Linker ∷ []

unfoldable pub joining : Test
joining x = member joiners x.conjunct

-- \p{InCB=Consonant} [ \p{InCB=Extend} \p{InCB=Linker} ]*
unfoldable pub begun : Side
begun = many joining (one (conjunct_is Consonant))

-- GB9c: \p{InCB=Consonant} [ \p{InCB=Extend} \p{InCB=Linker} ]* \p{InCB=Linker} [ \p{InCB=Extend} \p{InCB=Linker} ]*
--       × \p{InCB=Consonant}
unfoldable pub GB9c : Rule
GB9c = many joining (next (conjunct_is Linker) begun) ⨯ one (conjunct_is Consonant)

-- "Add that edition beside 15.0": GB9c stands between GB9b and GB11
abbrev pub rules151 : List Rule
rules151 = GB1 ∷ GB2 ∷ GB3 ∷ GB4 ∷ GB5 ∷ GB6 ∷ GB7 ∷ GB8 ∷ GB9 ∷ GB9a ∷ GB9b ∷ GB9c ∷ GB11 ∷ GB12 ∷ GB13 ∷ GB999 ∷ []

-- where GB9c decides in the place of a later rule: it applies, and no control stands on either side (GB4, GB5)
unfoldable pub conjoined : List Item → List Item → Bool
conjoined before after = applies GB9c before after && not (applies GB4 before after || applies GB5 before after)

-- the editions by their numbers
abbrev pub editions : List ℕ
editions = 150 ∷ 151 ∷ []

-- "chosen by the caller": the rules of an edition
unfoldable pub rules_of : ℕ → List Rule
rules_of edition = cond (eqb edition 151) rules151 rules

-- whether a boundary stands at a place in an edition; past the end there is no place
unfoldable pub boundary_in : ℕ → List ℕ → List ℕ → List ℕ → ℕ → Bool
boundary_in edition breaks marks conjuncts at =
    cond (ltb (length breaks) at) false (decide (rules_of edition) (before_in breaks marks conjuncts at) (after_in breaks marks conjuncts at))
