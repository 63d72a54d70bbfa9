-- The word rules over the characters on the two sides of a place are the rules over what is seen of them.
-- Assumes nothing.
use Prim.Native.Nat.{ℕ}
use mathlib.Core.Path.{◌≡◌, refl, ◌∙◌, ap}
use mathlib.Core.Bool.{Bool, true, false, cond, not, ◌&&◌, ◌||◌, and-true, and-false, true≢false}
use mathlib.Core.List.{List, [], ◌∷◌, ◌++◌, map}
use lib.Dec.{eqb}
use Rattle.classes.specs.WordBreak.{Other, RI}
use Rattle.uax29.specs.Rules.{Item, Rule, is, is_not, among, pictographic, anything, edge, any, one, next, pairs, applies, decide}
use Rattle.uax29.specs.Words.{WB1, WB2, WB3, WB3a, WB3b, WB3c, WB3d, WB4, WB5, WB6, WB7, WB7a, WB7b, WB7c, WB8, WB9, WB10, WB11, WB12, WB13, WB13a, WB13b, WB15, WB16, WB999, seen, ignored, an_x, kept, passed, to_WB4, rules}
use Rattle.uax29.specs.Words as Words
use Rattle.uax29.specs.declared.words.Seen.{Seen}
use Rattle.std.specs.Prelude.{Some}
use Rattle.uax29.specs.ClustersBack.{nearest}
use Rattle.uax29.proofs.Pairs.{odd_of, even, factor}
use Rattle.uax29.specs.WordsSeen.{from_WB1, from_WB3, from_WB3c, from_WB5, from_WB7a, from_WB8, from_WB13, from_WB15, decided, after, has_x, nothing}

-- the class of the nearest character
abbrev pub kind_of : List Item → ℕ
kind_of [] = Other
kind_of (x ∷ xs) = x.kind

abbrev rest : List Item → List Item
rest [] = []
rest (x ∷ xs) = xs

abbrev pub odd : List Item → Bool
odd = odd_of RI

unfoldable pub seen_of : List Item → Seen
seen_of xs =
    record { last = nearest xs; near = kind_of (kept xs); far = kind_of (rest (kept xs)); odd = odd (kept xs) }

decide_seen : (rs : List Rule) (before : List Item) (y : Item) (xs : List Item) → decide (map seen rs) before (y ∷ xs) ≡ decide rs (kept before) (y ∷ passed xs)
unfolding decide applies
decide_seen [] before y xs = refl
decide_seen (r ∷ rs) before y xs = rw (decide_seen rs before y xs)

-- WB1 to WB4
first_rules : (rs : List Rule) (before : List Item) (y : Item) (xs : List Item) → decide (to_WB4 ++ rs) before (y ∷ xs) ≡ from_WB1 (nearest before) y.kind y.mark (decide rs before (y ∷ xs))
unfolding decide applies WB1 WB2 WB3 WB3a WB3b WB3c WB3d WB4 edge any anything one is among pictographic from_WB1 from_WB3 from_WB3c
first_rules rs [] y xs = refl
first_rules rs (x ∷ before) y xs = simp and-true

-- WB5 to WB13b
abbrev to_WB13b : List Rule
to_WB13b = WB5 ∷ WB6 ∷ WB7 ∷ WB7a ∷ WB7b ∷ WB7c ∷ WB8 ∷ WB9 ∷ WB10 ∷ WB11 ∷ WB12 ∷ WB13 ∷ WB13a ∷ WB13b ∷ []

later_rules : (rs : List Rule) (before : List Item) (y : Item) (xs : List Item)
    → decide (to_WB13b ++ rs) before (y ∷ xs)
    ≡ from_WB5 (kind_of (rest before)) (kind_of before) y.kind (kind_of xs)
    (from_WB7a (kind_of (rest before)) (kind_of before) y.kind (kind_of xs)
    (from_WB8 (kind_of (rest before)) (kind_of before) y.kind (kind_of xs)
    (from_WB13 (kind_of before) y.kind (decide rs before (y ∷ xs)))))
unfolding decide applies WB5 WB6 WB7 WB7a WB7b WB7c WB8 WB9 WB10 WB11 WB12 WB13 WB13a WB13b one next is among from_WB5 from_WB7a from_WB8 from_WB13
later_rules rs [] y [] = refl
later_rules rs [] y (z ∷ xs) = refl
later_rules rs (a ∷ []) y [] = refl
later_rules rs (a ∷ []) y (z ∷ xs) = refl
later_rules rs (a ∷ b ∷ before) y [] = refl
later_rules rs (a ∷ b ∷ before) y (z ∷ xs) = refl

-- WB15, WB16
either : (x y ri : Bool) → cond (x && ri) false (cond (y && ri) false true) ≡ cond ri (not (x || y)) true
either true y true = refl
either true true false = refl
either true false false = refl
either false true true = refl
either false true false = refl
either false false true = refl
either false false false = refl

last_rules : (a : Item) (before : List Item) (y : Item) (xs : List Item) → decide (WB15 ∷ WB16 ∷ WB999 ∷ []) (a ∷ before) (y ∷ xs) ≡ from_WB15 y.kind (odd (a ∷ before))
unfolding decide applies WB15 WB16 WB999 any edge one next is from_WB15 odd_of
last_rules a before y xs =
    either (eqb a.kind RI && pairs (is RI) edge before) (eqb a.kind RI && pairs (is RI) (one (is_not RI)) before) (eqb y.kind RI)
    ∙ ap (λ t. cond (eqb y.kind RI) (not t) true) (factor (eqb a.kind RI) (pairs (is RI) edge before) (pairs (is RI) (one (is_not RI)) before) (odd before) (even RI before))

-- WB4 leaves a character where there was one
some_under : (t : Bool) (kept-ones : List Item) (x : Item) (xs : List Item) → edge kept-ones ≡ false → edge (cond t kept-ones (x ∷ xs)) ≡ false
unfolding edge
some_under true kept-ones x xs e = e
some_under false kept-ones x xs e = refl

kept_some : (x : Item) (xs : List Item) → edge (kept (x ∷ xs)) ≡ false
unfolding kept edge
kept_some x [] = rw and-false
kept_some x (y ∷ xs) = some_under (among ignored x && an_x (y ∷ xs)) (kept (y ∷ xs)) x (kept (y ∷ xs)) (kept_some y xs)

last_rules_on : (before : List Item) (y : Item) (xs : List Item) → edge before ≡ false → decide (WB15 ∷ WB16 ∷ WB999 ∷ []) before (y ∷ xs) ≡ from_WB15 y.kind (odd before)
unfolding edge
last_rules_on [] y xs e = absurd (true≢false e)
last_rules_on (a ∷ before) y xs e = last_rules a before y xs

-- a character at the place: the rules say of it what is said of what is seen
pub decides : (before : List Item) (y : Item) (xs : List Item) → decide rules before (y ∷ xs) ≡ decided (seen_of before) y.kind y.mark (kind_of (passed xs))
unfolding decided seen_of edge from_WB1
decides [] y xs = first_rules (map seen Words.from_WB5) [] y xs
decides (x ∷ before) y xs =
    first_rules (map seen Words.from_WB5) (x ∷ before) y xs
    ∙ ap (λ t. from_WB1 (Some x.kind) y.kind y.mark t) (decide_seen Words.from_WB5 (x ∷ before) y xs ∙ later_rules (WB15 ∷ WB16 ∷ WB999 ∷ []) (kept (x ∷ before)) y (passed xs) ∙ rw (last_rules_on (kept (x ∷ before)) y (passed xs) (kept_some x before)))

after_under : (t : Bool) (x : Item) (xs : List Item)
    → ◌≡◌ {A = Seen} (record { last = Some x.kind; near = kind_of (cond t xs (x ∷ xs)); far = kind_of (rest (cond t xs (x ∷ xs))); odd = odd (cond t xs (x ∷ xs)) })
    (cond t (record { last = Some x.kind; near = kind_of xs; far = kind_of (rest xs); odd = odd xs }) (record { last = Some x.kind; near = x.kind; far = kind_of xs; odd = eqb x.kind RI && not (odd xs) }))
unfolding odd_of is
after_under true x xs = refl
after_under false x xs = refl

pub seen_after : (x : Item) (xs : List Item) → seen_of (x ∷ xs) ≡ after (seen_of xs) x.kind
unfolding seen_of after has_x kept edge among
seen_after x [] = after_under (among ignored x && an_x []) x []
seen_after x (y ∷ xs) = after_under (among ignored x && an_x (y ∷ xs)) x (kept (y ∷ xs))

pub seen_none : seen_of [] ≡ nothing
unfolding seen_of kept edge odd_of
seen_none = refl
