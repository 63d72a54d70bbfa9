-- What the two editions share, and where they differ. Assumes nothing.
use Prim.Native.Nat.{ℕ, zero, suc, ◌-◌}
use mathlib.Core.Path.{◌≡◌, refl, sym, ◌∙◌, ap}
use mathlib.Core.Bool.{Bool, true, false, cond, not, ◌&&◌, ◌||◌, and-false, and-true, false≢true}
use mathlib.Core.List.{List, [], ◌∷◌}
use lib.Dec.{eqb, ltb}
use lib.ListN.{length}
use Rattle.basics.proofs.Tests.{both}
use Rattle.records.specs.Text.{cell}
use Rattle.uax29.specs.Conjunct.{Consonant, Linker}
use Rattle.uax29.specs.Rules.{Item, Rule, edge, any, one, next, many, applies, decide, before_in, items_from, after_in}
use Rattle.uax29.specs.Clusters.{rules, boundary_at, GB1, GB2, GB3, GB4, GB5, GB6, GB7, GB8, GB9, GB9a, GB9b, GB11, GB12, GB13, GB999}
use Rattle.uax29.specs.Editions.{conjunct_is, joining, begun, GB9c, conjoined, rules151, rules_of, boundary_in}
use Rattle.uax29.proofs.Blind.{decides_alike}

-- a rule before GB9c that says ×, and one that says ÷, which must not hold where GB9c decides
skips : (g a b k : Bool) → a ≡ (b && k) → cond g false a ≡ (cond g false b && k)
skips true a b k e = refl
skips false a b k e = e

parts : (g a b k : Bool) → (g ≡ true → k ≡ true) → (g ≡ false → a ≡ (b && k)) → cond g true a ≡ (cond g true b && k)
parts true a b k t e = sym (t refl)
parts false a b k t e = e refl

pulled : (g a k : Bool) → cond g false (a && k) ≡ (cond g false a && k)
pulled true a k = refl
pulled false a k = refl

-- GB9c itself
decides : (g c d rest : Bool) → c ≡ false → d ≡ false → cond g false rest ≡ (rest && not (g && not (c || d)))
decides true c d true e f = rw (e, f)
decides true c d false e f = refl
decides false c d true e f = refl
decides false c d false e f = refl

-- where a rule that says ÷ applies before it, GB9c does not decide: it asks for a character on each side, and for no control
at_start : (before after : List Item) → applies GB1 before after ≡ true → not (conjoined before after) ≡ true
unfolding applies GB1 GB9c conjoined begun edge one next many
at_start [] after h = refl
at_start (x ∷ xs) after h = absurd (false≢true h)

at_end : (before after : List Item) → applies GB2 before after ≡ true → not (conjoined before after) ≡ true
unfolding applies GB2 GB9c conjoined edge one
at_end before [] h = ap (λ b. not (b && not (applies GB4 before [] || applies GB5 before []))) (and-false (GB9c.before before))
at_end before (x ∷ xs) h = absurd (false≢true (sym (and-false (any before)) ∙ h))

by_control : (g c d : Bool) → (c || d) ≡ true → not (g && not (c || d)) ≡ true
by_control g c d e = rw (e, and-false g)

or_second : (c d : Bool) → d ≡ true → (c || d) ≡ true
or_second true d e = refl
or_second false d e = e

-- A rule behind GB9b that says ×: what is decided with it and without it, where it does not apply at the text's edges. Of the rules before
-- it only GB4 and GB5 can say ÷ elsewhere.
module _ (before after : List Item) (r : Rule) (says : r.parts ≡ false) (later : List Rule)
    (start : applies GB1 before after ≡ true → not (applies r before after && not (applies GB4 before after || applies GB5 before after)) ≡ true)
    (end : applies GB2 before after ≡ true → not (applies r before after && not (applies GB4 before after || applies GB5 before after)) ≡ true) where
  pub inserted : decide (GB1 ∷ GB2 ∷ GB3 ∷ GB4 ∷ GB5 ∷ GB6 ∷ GB7 ∷ GB8 ∷ GB9 ∷ GB9a ∷ GB9b ∷ r ∷ later) before after
      ≡ (decide (GB1 ∷ GB2 ∷ GB3 ∷ GB4 ∷ GB5 ∷ GB6 ∷ GB7 ∷ GB8 ∷ GB9 ∷ GB9a ∷ GB9b ∷ later) before after
      && not (applies r before after && not (applies GB4 before after || applies GB5 before after)))
  unfolding decide applies GB1 GB2 GB3 GB4 GB5 GB6 GB7 GB8 GB9 GB9a GB9b
  inserted =
      let g : Rule → Bool = λ q. applies q before after in
      let k = not (g r && not (g GB4 || g GB5)) in
      parts (g GB1) _ _ k start (λ n1.
      parts (g GB2) _ _ k end (λ n2.
      skips (g GB3) _ _ k (
      parts (g GB4) _ _ k (λ h. by_control (g r) (g GB4) (g GB5) (rw h)) (λ n4.
      parts (g GB5) _ _ k (λ h. by_control (g r) (g GB4) (g GB5) (or_second (g GB4) (g GB5) h)) (λ n5.
      skips (g GB6) _ _ k (skips (g GB7) _ _ k (skips (g GB8) _ _ k (skips (g GB9) _ _ k (skips (g GB9a) _ _ k (skips (g GB9b) _ _ k (
      rw says (decides (g r) (g GB4) (g GB5) _ n4 n5))))))))))))

-- the annex of 15.1 is that of 15.0 but where GB9c decides
pub decide_151 : (before after : List Item) → decide rules151 before after ≡ (decide rules before after && not (conjoined before after))
unfolding conjoined GB9c
decide_151 before after =
    inserted before after GB9c refl (GB11 ∷ GB12 ∷ GB13 ∷ GB999 ∷ [])
    (unfold conjoined GB9c in at_start before after) (unfold conjoined GB9c in at_end before after)

-- The two editions over lent columns: what Req 05 decides is edition 15.0's, whatever the third column holds.
module _ (breaks marks conjuncts : List ℕ) (at : ℕ) where
  boundary_150 : cond (ltb (length breaks) at) false (decide rules (before_in breaks marks conjuncts at) (after_in breaks marks conjuncts at)) ≡ boundary_at breaks marks at
  unfolding boundary_at
  boundary_150 = ap (cond (ltb (length breaks) at) false) (decides_alike breaks marks conjuncts at)

  pub boundary_other : (edition : ℕ) → eqb edition 151 ≡ false → boundary_in edition breaks marks conjuncts at ≡ boundary_at breaks marks at
  unfolding boundary_in boundary_at rules_of
  boundary_other edition e = rw e (boundary_150)

  pub boundary_151 : boundary_in 151 breaks marks conjuncts at
      ≡ (boundary_at breaks marks at && not (conjoined (before_in breaks marks conjuncts at) (after_in breaks marks conjuncts at)))
  unfolding boundary_in boundary_at rules_of
  boundary_151 =
      ap (cond (ltb (length breaks) at) false) (decide_151 (before_in breaks marks conjuncts at) (after_in breaks marks conjuncts at)
      ∙ ap (◌&& not (conjoined (before_in breaks marks conjuncts at) (after_in breaks marks conjuncts at))) (decides_alike breaks marks conjuncts at))
      ∙ pulled (ltb (length breaks) at) _ _

  -- "no place is a start in 15.1 that wasn't one in 15.0"
  pub none_new : boundary_in 151 breaks marks conjuncts at ≡ true → boundary_in 150 breaks marks conjuncts at ≡ true
  none_new h = boundary_other 150 refl ∙ (both (boundary_at breaks marks at) _ (sym boundary_151 ∙ h)).0

  -- GB9c asks of the record at the place itself
  unasked : (n : ℕ) → eqb (cell conjuncts at) Consonant ≡ false → one (conjunct_is Consonant) (items_from breaks marks conjuncts at n) ≡ false
  unfolding one items_from conjunct_is
  unasked zero e = refl
  unasked (suc n) e = e

  -- "A text whose new column holds only 0 gives equal answers in both", place by place
  pub none_asked : cell conjuncts at ≡ 0 → boundary_in 151 breaks marks conjuncts at ≡ boundary_in 150 breaks marks conjuncts at
  unfolding conjoined applies GB9c
  none_asked e = boundary_151
      ∙ rw (unasked (length breaks - at) (ap (λ c. eqb c Consonant) e), and-false (GB9c.before (before_in breaks marks conjuncts at)), and-true (boundary_at breaks marks at)) (sym (boundary_other 150 refl))

-- what GB9c needs to know of what came before, kept record by record
pub linked_next : (x : Item) (xs : List Item) → GB9c.before (x ∷ xs) ≡ (conjunct_is Linker x && begun xs || joining x && GB9c.before xs)
unfolding GB9c many next
linked_next x xs = refl
