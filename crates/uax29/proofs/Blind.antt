-- The rules of 15.0 do not ask for a conjunct: they say the same of characters without one. Assumes nothing.
use Prim.Native.Nat.{ℕ, zero, suc, ◌+◌, ◌-◌}
use mathlib.Core.Path.{◌≡◌, refl, sym, ap}
use mathlib.Core.Bool.{Bool, cond, not}
use mathlib.Core.List.{List, [], ◌∷◌, map}
use lib.ListN.{length}
use Rattle.classes.specs.ClusterBreak.{L, «V», T, LV, LVT, CR, LF, RI, EX, SM, ZWJ, PP}
use Rattle.uax29.specs.Rules.{Item, Test, Side, Rule, is, is_not, among, pictographic, anything, edge, any, one, next, many, pairs, applies, decide, item_in, before_in, before_of, items_from, after_in, after_of}
use Rattle.uax29.specs.Clusters.{controls, rules, GB1, GB2, GB3, GB4, GB5, GB6, GB7, GB8, GB9, GB9a, GB9b, GB11, GB12, GB13, GB999}

abbrev pub blank : Item → Item
blank x = record { kind = x.kind; mark = x.mark; conjunct = 0 }

abbrev BlindTest : Test → Type 0
BlindTest p = (x : Item) → p (blank x) ≡ p x

abbrev Blind : Side → Type 0
Blind q = (xs : List Item) → q (map blank xs) ≡ q xs

blind_anything : Blind anything
unfolding anything
blind_anything xs = refl

blind_edge : Blind edge
unfolding edge
blind_edge [] = refl
blind_edge (x ∷ xs) = refl

blind_any : Blind any
unfolding any
blind_any xs = ap not (blind_edge xs)

module _ (p : Test) (t : BlindTest p) where
  blind_one : Blind (one p)
  unfolding one
  blind_one [] = refl
  blind_one (x ∷ xs) = t x

  module _ (q : Side) (b : Blind q) where
    blind_next : Blind (next p q)
    unfolding next
    blind_next [] = refl
    blind_next (x ∷ xs) = rw (t x, b xs)

    blind_many : Blind (many p q)
    unfolding many
    blind_many [] = b []
    blind_many (x ∷ xs) = rw (b (x ∷ xs), t x, blind_many xs)

    blind_pairs : Blind (pairs p q)
    unfolding pairs
    blind_pairs [] = b []
    blind_pairs (x ∷ []) = b (x ∷ [])
    blind_pairs (x ∷ y ∷ xs) = rw (b (x ∷ y ∷ xs), t x, t y, blind_pairs xs)

blind_is : (k : ℕ) → BlindTest (is k)
unfolding is
blind_is k x = refl

blind_is_not : (k : ℕ) → BlindTest (is_not k)
unfolding is is_not
blind_is_not k x = refl

blind_among : (ks : List ℕ) → BlindTest (among ks)
unfolding among
blind_among ks x = refl

blind_pictographic : BlindTest pictographic
unfolding pictographic
blind_pictographic x = refl

is_one : (k : ℕ) → Blind (one (is k))
is_one k = blind_one (is k) (blind_is k)

in_one : (ks : List ℕ) → Blind (one (among ks))
in_one ks = blind_one (among ks) (blind_among ks)

marked_one : Blind (one pictographic)
marked_one = blind_one pictographic blind_pictographic

flags : (q : Side) → Blind q → Blind (next (is RI) (pairs (is RI) q))
flags q b = blind_next (is RI) (blind_is RI) (pairs (is RI) q) (blind_pairs (is RI) (blind_is RI) q b)

module _ (before after : List Item) where
  -- a rule whose sides are blind, in front of others that are
  rule : (r : Rule) → Blind r.before → Blind r.after → {a b : Bool} → a ≡ b →
      cond (applies r (map blank before) (map blank after)) r.parts a ≡ cond (applies r before after) r.parts b
  unfolding applies
  rule r b a e = rw (b before, a after, e)

  pub blind_rules : decide rules (map blank before) (map blank after) ≡ decide rules before after
  unfolding decide GB1 GB2 GB3 GB4 GB5 GB6 GB7 GB8 GB9 GB9a GB9b GB11 GB12 GB13 GB999
  blind_rules =
      rule GB1 blind_edge blind_any (
      rule GB2 blind_any blind_edge (
      rule GB3 (is_one CR) (is_one LF) (
      rule GB4 (in_one controls) blind_anything (
      rule GB5 blind_anything (in_one controls) (
      rule GB6 (is_one L) (in_one (L ∷ «V» ∷ LV ∷ LVT ∷ [])) (
      rule GB7 (in_one (LV ∷ «V» ∷ [])) (in_one («V» ∷ T ∷ [])) (
      rule GB8 (in_one (LVT ∷ T ∷ [])) (is_one T) (
      rule GB9 blind_anything (in_one (EX ∷ ZWJ ∷ [])) (
      rule GB9a blind_anything (is_one SM) (
      rule GB9b (is_one PP) blind_anything (
      rule GB11 (blind_next (is ZWJ) (blind_is ZWJ) _ (blind_many (is EX) (blind_is EX) _ marked_one)) marked_one (
      rule GB12 (flags edge blind_edge) (is_one RI) (
      rule GB13 (flags (one (is_not RI)) (blind_one (is_not RI) (blind_is_not RI))) (is_one RI) (
      rule GB999 blind_any blind_any refl))))))))))))))

-- the characters of two columns are those of three without their conjuncts
module _ (classes marks conjuncts : List ℕ) where
  pub blank_before : (at : ℕ) → before_of classes marks at ≡ map blank (before_in classes marks conjuncts at)
  unfolding before_in
  blank_before zero = refl
  blank_before (suc i) = ap (λ xs. blank (item_in classes marks conjuncts i) ∷ xs) (blank_before i)

  pub blank_from : (n at : ℕ) → items_from classes marks [] at n ≡ map blank (items_from classes marks conjuncts at n)
  unfolding items_from
  blank_from zero at = refl
  blank_from (suc n) at = ap (λ xs. blank (item_in classes marks conjuncts at) ∷ xs) (blank_from n (at + 1))

  pub decides_alike : (at : ℕ) → decide rules (before_in classes marks conjuncts at) (after_in classes marks conjuncts at)
      ≡ decide rules (before_of classes marks at) (after_of classes marks at)
  decides_alike at =
      rw (blank_before at, blank_from (length classes - at) at) (sym (blind_rules (before_in classes marks conjuncts at) (after_in classes marks conjuncts at)))
