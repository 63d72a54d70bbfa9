-- GB9c over the columns: what the code's tests of conjunct codes say, by looking back and going forward. Assumes nothing.
use Prim.Native.Nat.{ℕ, zero, suc, ◌+◌, ◌-◌, ◌<◌, ◌≤◌}
use mathlib.Core.Path.{◌≡◌, refl, sym, ◌∙◌, ap}
use mathlib.Core.Bool.{Bool, true, false, cond, ◌&&◌, ◌||◌, and-false, false≢true}
use mathlib.Core.List.{List}
use native.Mathlib.Numerals.{add-one}
use native.Mathlib.Omega.{arith}
use lib.Dec.{eqb}
use lib.ListN.{length, set, get_or}
use borrow.Author.Tests.{eq-eqb, ne_eqb}
use Rattle.basics.proofs.Columns.{Written, unwritten, written_more}
use Rattle.basics.specs.Sets.{member}
use Rattle.records.specs.Text.{cell}
use Rattle.uax29.specs.Conjunct.{Consonant, Linker, Extend}
use Rattle.uax29.specs.Editions.{joiners}
use Rattle.uax29.specs.Conjoined.{begun_at, linked_at, conjoins, conjoined_at, taken_at}
use Rattle.uax29.specs.EditionStep.{no_link, link_after}
use Rattle.uax29.specs.declared.conjoined.Link.{Link}

-- a linker is of no use without a consonant before it
pub linked_begun : (conjuncts : List ℕ) (i : ℕ) → linked_at conjuncts i ≡ true → begun_at conjuncts i ≡ true
unfolding linked_at begun_at
linked_begun conjuncts zero h = absurd (false≢true h)
linked_begun conjuncts (suc i) h =
    go (eqb (cell conjuncts i) Consonant) (eqb (cell conjuncts i) Extend) (eqb (cell conjuncts i) Linker) (begun_at conjuncts i) (linked_at conjuncts i) (linked_begun conjuncts i) h
  where
    go : (c e l b k : Bool) → (k ≡ true → b ≡ true) → ((l && b) || ((e || (l || false)) && k)) ≡ true → (c || ((e || (l || false)) && b)) ≡ true
    go true e l b k f g = refl
    go false true l true k f g = refl
    go false true true false k f g = f g
    go false true false false k f g = f g
    go false false true true k f g = refl
    go false false true false k f g = f g
    go false false false b k f g = g

-- where a linker is nearest, what stands before it decides
pub absorbed : (b k : Bool) → (k ≡ true → b ≡ true) → (b || k) ≡ b
absorbed true k f = refl
absorbed false true f = sym (f refl)
absorbed false false f = refl

-- at a record that is no consonant GB9c takes no start away
pub no_consonant : (breaks conjuncts : List ℕ) (at v : ℕ) → v ≡ cell conjuncts at → (v ≡ Consonant → ⊥) → false ≡ conjoined_at breaks conjuncts at
unfolding conjoined_at conjoins
no_consonant breaks conjuncts at v e n = rw (ne_eqb (cell conjuncts at) Consonant (λ k. n (e ∙ k)), and-false (linked_at conjuncts at))

-- A look back that came to a place i and reads the code before it.
module _ (conjuncts : List ℕ) (at i : ℕ) (h : 0 < i) (v : ℕ) (e : v ≡ cell conjuncts (i - 1)) where
  one_back : i ≡ suc (i - 1)
  one_back = omega arith

  module _ (inv : begun_at conjuncts at ≡ begun_at conjuncts i) where
    begun_is : begun_at conjuncts at ≡ (eqb v Consonant || (member joiners v && begun_at conjuncts (i - 1)))
    unfolding begun_at
    begun_is = inv ∙ ap (begun_at conjuncts) one_back ∙ rw (← e)

    pub begun_here : v ≡ Consonant → true ≡ begun_at conjuncts at
    begun_here k = sym (begun_is ∙ rw (eq-eqb v Consonant k))

    pub begun_parted : (v ≡ Consonant → ⊥) → (v ≡ Extend → ⊥) → (v ≡ Linker → ⊥) → false ≡ begun_at conjuncts at
    begun_parted n m l = sym (begun_is ∙ rw (ne_eqb v Consonant n, ne_eqb v Extend m, ne_eqb v Linker l))

    -- over a linker, 2, or an extender, 3
    pub begun_on : 2 ≤ v → v ≤ 3 → begun_at conjuncts at ≡ begun_at conjuncts (i - 1)
    begun_on a b = begun_is ∙ go (v - 2) (omega arith) (omega arith)
      where
        go : (d : ℕ) → v ≡ d + 2 → d ≤ 1 → (eqb v Consonant || (member joiners v && begun_at conjuncts (i - 1))) ≡ begun_at conjuncts (i - 1)
        go zero k l = rw k
        go (suc zero) k l = rw k
        go (suc (suc d)) k l = absurd (omega arith)

  module _ (inv : linked_at conjuncts at ≡ linked_at conjuncts i) where
    linked_is : linked_at conjuncts at ≡ ((eqb v Linker && begun_at conjuncts (i - 1)) || (member joiners v && linked_at conjuncts (i - 1)))
    unfolding linked_at
    linked_is = inv ∙ ap (linked_at conjuncts) one_back ∙ rw (← e)

    pub linked_here : (r : Bool) → v ≡ Linker → r ≡ begun_at conjuncts (i - 1) → r ≡ linked_at conjuncts at
    linked_here r k f = f ∙ sym (linked_is ∙ rw k (absorbed (begun_at conjuncts (i - 1)) (linked_at conjuncts (i - 1)) (linked_begun conjuncts (i - 1))))

    pub linked_parted : (v ≡ Linker → ⊥) → (v ≡ Extend → ⊥) → false ≡ linked_at conjuncts at
    linked_parted n m = sym (linked_is ∙ rw (ne_eqb v Linker n, ne_eqb v Extend m))

    pub linked_on : (v ≡ Linker → ⊥) → v ≡ Extend → linked_at conjuncts at ≡ linked_at conjuncts (i - 1)
    linked_on n m = linked_is ∙ rw (ne_eqb v Linker n, eq-eqb v Extend m)

pub begun_over : (conjuncts : List ℕ) (at i : ℕ) → i ≤ 0 → begun_at conjuncts at ≡ begun_at conjuncts i → false ≡ begun_at conjuncts at
unfolding begun_at
begun_over conjuncts at i h inv = let z : i ≡ 0 = omega arith in sym (inv ∙ ap (begun_at conjuncts) z)

pub linked_over : (conjuncts : List ℕ) (at i : ℕ) → i ≤ 0 → linked_at conjuncts at ≡ linked_at conjuncts i → false ≡ linked_at conjuncts at
unfolding linked_at
linked_over conjuncts at i h inv = let z : i ≡ 0 = omega arith in sym (inv ∙ ap (linked_at conjuncts) z)

pub ruleset begun_back = (begun_here, begun_parted, begun_on, begun_over)

pub ruleset linked_back = (linked_here, linked_parted, linked_on, linked_over)

-- A pass that goes forward and keeps the link.
abbrev pub link_at : List ℕ → ℕ → Link
link_at conjuncts i = record { begun = begun_at conjuncts i; linked = linked_at conjuncts i }

pub link_none : (conjuncts : List ℕ) → no_link ≡ link_at conjuncts 0
unfolding begun_at linked_at
link_none conjuncts = refl

pub link_more : (conjuncts : List ℕ) (i v : ℕ) (s q : Link) → s ≡ link_at conjuncts i → v ≡ cell conjuncts i → q ≡ link_after s v → q ≡ link_at conjuncts (i + 1)
unfolding begun_at linked_at link_after
link_more conjuncts i v s q e f g = g ∙ rw (e, f) (ap (link_at conjuncts) (sym (add-one i)))

-- one turn of the pass that takes starts away
module _ (breaks conjuncts out₀ : List ℕ) (i : ℕ) (link : Link) (e : link ≡ link_at conjuncts i) (v : ℕ) (f : v ≡ cell conjuncts i) where
  pub turn_taken : (a : ℕ) (j : Bool) (q : ℕ) (out : List ℕ) → a ≡ cell breaks (i - 1) → j ≡ conjoins link.linked v a (get_or breaks i 0) → q ≡ cond j 0 (get_or out i 0)
      → i < length out₀ → Written (taken_at breaks conjuncts out₀) out₀ i out → Written (taken_at breaks conjuncts out₀) out₀ (i + 1) (set out i q)
  turn_taken a j q out ea ej eq h w =
      let k : q ≡ taken_at breaks conjuncts out₀ i =
      unfold taken_at conjoined_at in eq ∙ rw (ej, ea, e, f, unwritten (taken_at breaks conjuncts out₀) out₀ out i h w) in
      rw k (written_more (taken_at breaks conjuncts out₀) out₀ out i h w)
