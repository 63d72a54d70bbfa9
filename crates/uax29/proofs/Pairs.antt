-- Pairs of one class, as GB12, GB13, WB15 and WB16 have them of RI: of pairs up to the start or another class, one of both is there where
-- their number is even.
-- Assumes nothing.
use Prim.Native.Nat.{ℕ}
use mathlib.Core.Path.{◌≡◌, refl}
use mathlib.Core.Bool.{Bool, true, false, not, ◌&&◌, ◌||◌}
use mathlib.Core.List.{List, [], ◌∷◌}
use lib.Dec.{eqb}
use Rattle.uax29.specs.Rules.{Item, is, is_not, edge, one, next, pairs}

-- whether an odd number of the class stands nearest
unfoldable pub odd_of : ℕ → List Item → Bool
odd_of k [] = false
odd_of k (x ∷ xs) = is k x && not (odd_of k xs)

single : (t : Bool) → (false || not t) ≡ not (t && true)
single true = refl
single false = refl

two_more : (p q a b o : Bool) → (a || b) ≡ not o → ((false || (p && (q && a))) || (not p || (p && (q && b)))) ≡ not (p && not (q && not o))
two_more false q a b o e = refl
two_more true false a b o e = refl
two_more true true a b true e = e
two_more true true a b false e = e

pub even : (k : ℕ) (xs : List Item) → (pairs (is k) edge xs || pairs (is k) (one (is_not k)) xs) ≡ not (odd_of k xs)
unfolding pairs edge one is is_not odd_of
even k [] = refl
even k (x ∷ []) = single (eqb x.kind k)
even k (x ∷ y ∷ xs) = two_more (eqb x.kind k) (eqb y.kind k) (pairs (is k) edge xs) (pairs (is k) (one (is_not k)) xs) (odd_of k xs) (even k xs)

pub factor : (p a b o : Bool) → (a || b) ≡ not o → ((p && a) || (p && b)) ≡ (p && not o)
factor true a b o e = e
factor false a b o e = refl

-- the left sides of the two rules, one or the other
pub half : (k : ℕ) (xs : List Item) → (next (is k) (pairs (is k) edge) xs || next (is k) (pairs (is k) (one (is_not k))) xs) ≡ odd_of k xs
unfolding next odd_of
half k [] = refl
half k (x ∷ xs) = factor (is k x) (pairs (is k) edge xs) (pairs (is k) (one (is_not k)) xs) (odd_of k xs) (even k xs)
