-- What the code's readings of a place say of the characters on its two sides. Assumes nothing.
use Rattle.std.specs.Prelude.{Option, None, Some, MatchOption, is_some, is_none}
use Rattle.std.specs.Option.{option_eq, option_copied, unwrap_or}
use denote.Bor.{Bor}
use Prim.Native.Nat.{ℕ, zero, suc, ◌+◌, ◌-◌, ◌<◌, ◌≤◌}
use mathlib.Core.Path.{◌≡◌, refl, sym, ◌∙◌, ap, subst}
use mathlib.Core.Bool.{Bool, true, false, cond, not, ◌&&◌, ◌||◌, and-false, or-false, false≢true}
use mathlib.Core.List.{List, [], ◌∷◌}
use native.Mathlib.Omega.{arith}
use lib.Dec.{eqb, leb, ltb}
use lib.ListN.{length, drop, get_or}
use borrow.Author.Tests.{lt-ltb, le-ltb, lt-leb, ltb-true, ltb-false, eq-eqb}
use Rattle.basics.specs.Sets.{member}
use Rattle.records.specs.Text.{cell}
use Rattle.uax29.specs.Clusters.{Item, Test, Side, is, is_not, among, pictographic, edge, one, next, many, pairs, item_at, before_in, before_of, items_from, after_of, rules, decide, boundary_at}
use Rattle.uax29.specs.ClustersBack.{beyond, nearest}

-- the characters on the two sides of a place
module _ (breaks marks : List ℕ) (at : ℕ) where
  pub none_before : at ≡ 0 → before_of breaks marks at ≡ []
  unfolding before_in
  none_before e = rw e

  pub some_before : (at ≡ 0 → ⊥) → before_of breaks marks at ≡ item_at breaks marks (at - 1) ∷ before_of breaks marks (at - 1)
  unfolding before_in
  some_before n = let e : at ≡ suc (at - 1) = omega arith in ap (before_of breaks marks) e

  pub none_after : length breaks ≤ at → after_of breaks marks at ≡ []
  unfolding items_from
  none_after l = let e : length breaks - at ≡ 0 = omega arith in ap (items_from breaks marks [] at) e

  pub some_after : at < length breaks → after_of breaks marks at ≡ item_at breaks marks at ∷ items_from breaks marks [] (at + 1) (length breaks - at - 1)
  unfolding items_from
  some_after l = let e : length breaks - at ≡ suc (length breaks - at - 1) = omega arith in ap (items_from breaks marks [] at) e

  -- no character
  pub before_not_there : (p : Test) → at ≡ 0 → not (eqb at 0) ≡ one p (before_of breaks marks at)
  unfolding one
  before_not_there p e = rw (eq-eqb at 0 e) (sym (ap (one p) (none_before e)))

  pub after_not_there : (p : Test) → length breaks ≤ at → ltb at (length breaks) ≡ one p (after_of breaks marks at)
  unfolding one
  after_not_there p l = rw (le-ltb at (length breaks) l) (sym (ap (one p) (none_after l)))

  -- the mark of the nearest character, read from its cell
  pub before_marked : (v : ℕ) → (at ≡ 0 → ⊥) → v ≡ cell marks (at - 1) → eqb v 1 ≡ one pictographic (before_of breaks marks at)
  unfolding one pictographic
  before_marked v n e = ap (λ x. eqb x 1) e ∙ sym (ap (one pictographic) (some_before n))

  pub after_marked : (v : ℕ) → at < length breaks → v ≡ cell marks at → eqb v 1 ≡ one pictographic (after_of breaks marks at)
  unfolding one pictographic
  after_marked v l e = ap (λ x. eqb x 1) e ∙ sym (ap (one pictographic) (some_after l))

  -- its class
  pub nearest_none : at ≡ 0 → None ≡ nearest (before_of breaks marks at)
  nearest_none e = sym (ap nearest (none_before e))

  pub nearest_some : (v : ℕ) → (at ≡ 0 → ⊥) → v ≡ cell breaks (at - 1) → Some v ≡ nearest (before_of breaks marks at)
  nearest_some v n e = rw e (sym (ap nearest (some_before n)))

  pub nearest_after : (o : Option (Bor ℕ)) → is_some o ≡ ltb at (length breaks) → ((d : ℕ) → unwrap_or (option_copied o) d ≡ get_or breaks at d)
      → option_copied o ≡ nearest (after_of breaks marks at)
  nearest_after None h f = sym (ap nearest (none_after (ltb-false _ _ (sym h))))
  nearest_after (Some x) h f = ap (λ v. Some v) (f 0) ∙ sym (ap nearest (some_after (ltb-true _ _ (sym h))))

  -- beyond the nearest character
  pub one_back : before_of breaks marks (at - 1) ≡ drop 1 (before_of breaks marks at)
  unfolding before_in
  one_back = go at
    where
      go : (i : ℕ) → before_of breaks marks (i - 1) ≡ drop 1 (before_of breaks marks i)
      go zero = refl
      go (suc i) = let e : suc i - 1 ≡ i = omega arith in ap (before_of breaks marks) e

pub ruleset cells = (before_not_there, after_not_there, before_marked, after_marked, nearest_none, nearest_some, one_back)

-- what the class of the nearest character, o, says of it
module _ (xs : List Item) (o : Option ℕ) (e : o ≡ nearest xs) where
  pub kind_is : (k : ℕ) (r : Bool) → r ≡ option_eq eqb o (Some k) → r ≡ one (is k) xs
  unfolding one is
  kind_is k r h = h ∙ rw e (go xs)
    where
      go : (ys : List Item) → option_eq eqb (nearest ys) (Some k) ≡ one (is k) ys
      go [] = refl
      go (y ∷ ys) = refl

  pub kind_among : (ks : List ℕ) (r : Bool) {P : ℕ → Type 0} → MatchOption o (r ≡ false) P → ((k : ℕ) → P k → r ≡ member ks k) → r ≡ one (among ks) xs
  unfolding one among
  kind_among ks r {P} h told = go xs (subst (λ p. MatchOption p (r ≡ false) P) e h)
    where
      go : (ys : List Item) → MatchOption (nearest ys) (r ≡ false) P → r ≡ one (among ks) ys
      go [] k = k
      go (y ∷ ys) k = told y.kind k

  pub none_is : (r : Bool) → r ≡ is_none o → r ≡ edge xs
  unfolding edge
  none_is r h = h ∙ rw e (go xs)
    where
      go : (ys : List Item) → is_none (nearest ys) ≡ edge ys
      go [] = refl
      go (y ∷ ys) = refl

pub ruleset kinds = (kind_is, none_is)

-- a character, and what stands beyond it
pub next_one : (p : Test) (q : Side) (xs : List Item) → next p q xs ≡ (one p xs && q (drop 1 xs))
unfolding next one
next_one p q [] = refl
next_one p q (x ∷ xs) = refl

pub one_other : (k : ℕ) (xs : List Item) → one (is_not k) xs ≡ (not (edge xs) && not (one (is k) xs))
unfolding one is_not edge
one_other k [] = refl
one_other k (x ∷ xs) = refl

-- a test of a character that holds has a character
pub there : (breaks marks : List ℕ) (at : ℕ) (p : Test) (t : Bool) → t ≡ one p (before_of breaks marks at) → t ≡ true → 0 < at
unfolding one before_in
there breaks marks zero p t e h = absurd (false≢true (sym e ∙ h))
there breaks marks (suc at) p t e h = omega arith

or-true : (a b : Bool) → a ≡ true → (a || b) ≡ true
or-true true b e = refl
or-true false b e = absurd (false≢true e)

-- A look back over p* for a character of which q holds: it is here, or one character on, or nowhere else.
module _ (p q : Test) where
  many_here : (xs : List Item) → one q xs ≡ true → many p (one q) xs ≡ true
  unfolding one many
  many_here [] h = h
  many_here (x ∷ xs) h = or-true _ _ h

  many_further : (x : Item) (xs : List Item) → p x ≡ true → q x ≡ false → many p (one q) (x ∷ xs) ≡ many p (one q) xs
  unfolding one many
  many_further x xs h k = rw (h, k)

  many_over : (xs : List Item) → one p xs ≡ false → many p (one q) xs ≡ one q xs
  unfolding one many
  many_over [] h = refl
  many_over (x ∷ xs) h = rw h (or-false (q x))

-- The loop: the place i goes down to where it is decided; t says that p holds of the character before it, u that q does not.
module _ (breaks marks : List ℕ) (i : ℕ) (p q : Test) (all : Bool) (inv : many p (one q) (before_of breaks marks i) ≡ all) (u : Bool) (eu : u ≡ one q (before_of breaks marks i)) where
  pub many_found : (v : Bool) → v ≡ one q (before_of breaks marks i) → v ≡ true → u ≡ all
  many_found v ev h = eu ∙ sym ev ∙ h ∙ sym (many_here p q (before_of breaks marks i) (sym ev ∙ h)) ∙ inv

  module _ (t : Bool) (et : t ≡ one p (before_of breaks marks i)) where
    pub many_ends : t ≡ false → u ≡ all
    many_ends h = eu ∙ sym (many_over p q (before_of breaks marks i) (sym et ∙ h)) ∙ inv

    pub many_turns : t ≡ true → u ≡ false → many p (one q) (before_of breaks marks (i - 1)) ≡ all
    unfolding one
    many_turns h k =
        let l : 0 < i = there breaks marks i p t et h in
        let s = some_before breaks marks i (λ e. omega arith) in
        sym (ap (many p (one q)) s ∙ many_further p q (item_at breaks marks (i - 1)) (before_of breaks marks (i - 1)) (sym (ap (one p) s) ∙ sym et ∙ h) (sym (ap (one q) s) ∙ sym eu ∙ k)) ∙ inv

-- A look back over (p p)*: q holds of no character of which p holds, so it is asked beyond all pairs.
module _ (p : Test) (q : Side) (apart : (x : Item) (xs : List Item) → p x ≡ true → q (x ∷ xs) ≡ false) where
  pairs_beyond : (xs : List Item) → pairs p q xs ≡ q (beyond p xs)
  unfolding pairs beyond
  pairs_beyond [] = refl
  pairs_beyond (x ∷ []) = refl
  pairs_beyond (x ∷ y ∷ xs) = go (p x) (p y) refl (pairs_beyond xs)
    where
      go : (a b : Bool) → p x ≡ a → pairs p q xs ≡ q (beyond p xs) → (q (x ∷ y ∷ xs) || (a && (b && pairs p q xs))) ≡ q (cond (a && b) (beyond p xs) (x ∷ y ∷ xs))
      go true true h e = rw (apart x (y ∷ xs) h) e
      go true false h e = rw (apart x (y ∷ xs) h)
      go false b h e = or-false (q (x ∷ y ∷ xs))

beyond_pair : (p : Test) (x y : Item) (xs : List Item) → next p (one p) (x ∷ y ∷ xs) ≡ true → beyond p (x ∷ y ∷ xs) ≡ beyond p xs
unfolding next one beyond
beyond_pair p x y xs h = rw h

-- The loop: the place i goes down by pairs.
module _ (breaks marks : List ℕ) (i : ℕ) (p : Test) (past : List Item) (inv : beyond p (before_of breaks marks i) ≡ past) (t : Bool) (et : t ≡ next p (one p) (before_of breaks marks i)) where
  pub pair_there : t ≡ true → 2 ≤ i
  unfolding next one before_in
  pair_there h = go i (sym et ∙ h)
    where
      go : (j : ℕ) → next p (one p) (before_of breaks marks j) ≡ true → 2 ≤ j
      go zero k = absurd (false≢true k)
      go (suc zero) k = absurd (false≢true (sym (and-false (p (item_at breaks marks 0))) ∙ k))
      go (suc (suc j)) k = omega arith

  pub pair_ends : t ≡ false → before_of breaks marks i ≡ past
  unfolding next one beyond
  pair_ends h = go (before_of breaks marks i) (sym et ∙ h) ∙ inv
    where
      go : (xs : List Item) → next p (one p) xs ≡ false → xs ≡ beyond p xs
      go [] k = refl
      go (x ∷ []) k = refl
      go (x ∷ y ∷ xs) k = rw k

  pub pair_turns : t ≡ true → beyond p (before_of breaks marks (i - 2)) ≡ past
  unfolding next one before_in
  pair_turns h = go i (sym et ∙ h) ∙ inv
    where
      go : (j : ℕ) → next p (one p) (before_of breaks marks j) ≡ true → beyond p (before_of breaks marks (j - 2)) ≡ beyond p (before_of breaks marks j)
      go zero k = absurd (false≢true k)
      go (suc zero) k = absurd (false≢true (sym (and-false (p (item_at breaks marks 0))) ∙ k))
      go (suc (suc j)) k = let e : suc (suc j) - 2 ≡ j = omega arith in
          ap (λ l. beyond p (before_of breaks marks l)) e ∙ sym (beyond_pair p (item_at breaks marks (suc j)) (item_at breaks marks j) (before_of breaks marks j) k)

-- beyond the pairs of a class: the start, or a character of another
module _ (k : ℕ) (xs : List Item) where
  pub pairs_from_start : pairs (is k) edge xs ≡ edge (beyond (is k) xs)
  unfolding edge
  pairs_from_start = pairs_beyond (is k) edge (λ x ys h. refl) xs

  pub pairs_after_other : pairs (is k) (one (is_not k)) xs ≡ one (is_not k) (beyond (is k) xs)
  unfolding one is_not
  pairs_after_other = pairs_beyond (is k) (one (is_not k)) (λ x ys d. rw d) xs

pub ruleset flags = (next_one, pairs_from_start, pairs_after_other, one_other)

-- past the end there is no place
module _ (breaks marks : List ℕ) (at : ℕ) where
  pub no_place : length breaks < at → leb at (length breaks) ≡ boundary_at breaks marks at
  unfolding boundary_at
  no_place h = rw (lt-ltb (length breaks) at h, lt-leb at (length breaks) h)

  pub a_place : (says : Bool) → at ≤ length breaks → says ≡ decide rules (before_of breaks marks at) (after_of breaks marks at) → says ≡ boundary_at breaks marks at
  unfolding boundary_at
  a_place says h e = rw (le-ltb (length breaks) at h) e
