-- What the GB rules say between two characters of a plain text: few of them ever apply, and only GB11 looks further back.
-- Assumes nothing.
use Prim.Native.Nat.{ℕ, zero, suc, ◌<◌}
use mathlib.Core.Path.{◌≡◌, refl, sym, ◌∙◌, ap}
use mathlib.Core.Bool.{Bool, true, false, cond, ◌&&◌, ◌||◌, and-false, false≢true}
use mathlib.Core.List.{List, [], ◌∷◌}
use native.Mathlib.Omega.{arith}
use lib.Dec.{eqb}
use lib.ListN.{length}
use borrow.Author.Tests.{le-ltb, eqb-true}
use Rattle.basics.proofs.Sets.{or_case}
use Rattle.basics.proofs.Tests.{by_test, both}
use Rattle.basics.specs.Sets.{member}
use Rattle.classes.specs.ClusterBreak.{XX, CN, CR, LF, EX, SM, ZWJ}
use Rattle.records.specs.Text.{cell}
use Rattle.uax29.specs.Clusters.{controls, Item, is, is_not, among, pictographic, anything, edge, any, one, next, many, applies, decide, rules, item_at, before_in, before_of, boundary_at, GB1, GB2, GB3, GB4, GB5, GB6, GB7, GB8, GB9, GB9a, GB9b, GB11, GB12, GB13, GB999}
use Rattle.uax29.proofs.ClustersSides.{some_after}
use Rattle.plain.specs.Clusters.{plain_kinds, extensions}

-- what holds of the seven plain kinds holds of every kind that is plain
pub kind_case : (P : ℕ → Type 0) → P XX → P EX → P SM → P ZWJ → P CR → P LF → P CN → (k : ℕ) → member plain_kinds k ≡ true → P k
kind_case P xx ex sm zwj cr lf cn k h =
    or_case P k XX h xx (λ h₁. or_case P k EX h₁ ex (λ h₂. or_case P k SM h₂ sm (λ h₃. or_case P k ZWJ h₃ zwj
    (λ h₄. or_case P k CR h₄ cr (λ h₅. or_case P k LF h₅ lf (λ h₆. or_case P k CN h₆ cn (λ h₇. absurd (false≢true h₇))))))))

-- the rules that are left, in their order: GB3, GB4, GB5, GB9, GB9a, GB11
unfoldable says : Bool → Bool → Bool → Bool → Bool → Bool → Bool
says crlf after before extends spaces joins =
    cond crlf false (cond after true (cond before true (cond extends false (cond spaces false (cond joins false true)))))

-- GB11's left side: P that a pictograph and Extend* stand before a place, Z that these and a ZWJ do
abbrev pub P : List ℕ → List ℕ → ℕ → Bool
P breaks marks j = many (is EX) (one pictographic) (before_of breaks marks j)

abbrev pub Z : List ℕ → List ℕ → ℕ → Bool
Z breaks marks j = next (is ZWJ) (many (is EX) (one pictographic)) (before_of breaks marks j)

-- the two columns of a plain text
pub record Columns (breaks marks : List ℕ) : Type 0 where
  pub kind : (i : ℕ) → i < length breaks → member plain_kinds (cell breaks i) ≡ true
  pub mark : (i : ℕ) → i < length breaks → eqb (cell marks i) 1 ≡ true → cell breaks i ≡ XX
  pub pair : (i : ℕ) → suc i < length breaks → member extensions (cell breaks (suc i)) ≡ true → member controls (cell breaks i) ≡ false

pub extension_case : (P : ℕ → Type 0) → P EX → P SM → P ZWJ → (k : ℕ) → member extensions k ≡ true → P k
extension_case P ex sm zwj k h =
    or_case P k EX h ex (λ h₁. or_case P k SM h₁ sm (λ h₂. or_case P k ZWJ h₂ zwj (λ h₃. absurd (false≢true h₃))))

module _ (crlf after before extends spaces joins : Bool) where
  says_newline : crlf ≡ true → says crlf after before extends spaces joins ≡ false
  unfolding says
  says_newline e = rw e

  says_extends : crlf ≡ false → after ≡ false → before ≡ false → (extends || spaces) ≡ true → says crlf after before extends spaces joins ≡ false
  unfolding says
  says_extends e f g h = rw (e, f, g) (go extends spaces h)
    where
      go : (a b : Bool) → (a || b) ≡ true → cond a false (cond b false (cond joins false true)) ≡ false
      go true b k = refl
      go false b k = rw k

  says_joins : crlf ≡ false → after ≡ false → before ≡ false → joins ≡ true → says crlf after before extends spaces joins ≡ false
  unfolding says
  says_joins e f g h = rw (e, f, g, h) (go extends spaces)
    where
      go : (a b : Bool) → cond a false (cond b false false) ≡ false
      go true b = refl
      go false true = refl
      go false false = refl

  says_parts : crlf ≡ false → extends ≡ false → spaces ≡ false → joins ≡ false → says crlf after before extends spaces joins ≡ true
  unfolding says
  says_parts e f g h = rw (e, f, g, h) (go after before)
    where
      go : (a b : Bool) → cond a true (cond b true true) ≡ true
      go true b = refl
      go false true = refl
      go false false = refl

module _ (breaks marks : List ℕ) (i : ℕ) where
  decide_plain : (y : Item) (ys : List Item) → member plain_kinds (cell breaks i) ≡ true →
      decide rules (before_of breaks marks (suc i)) (y ∷ ys)
      ≡ says (eqb (cell breaks i) CR && eqb y.kind LF) (member controls (cell breaks i)) (member controls y.kind)
      (member (EX ∷ ZWJ ∷ []) y.kind) (eqb y.kind SM) (Z breaks marks (suc i) && eqb y.mark 1)
  unfolding decide applies before_in GB1 GB2 GB3 GB4 GB5 GB6 GB7 GB8 GB9 GB9a GB9b GB11 GB12 GB13 GB999 is is_not among pictographic anything edge any one next says
  decide_plain y ys h = kind_case
      (λ k. decide rules (record { kind = k; mark = cell marks i; conjunct = 0 } ∷ before_of breaks marks i) (y ∷ ys)
      ≡ says (eqb k CR && eqb y.kind LF) (member controls k) (member controls y.kind)
      (member (EX ∷ ZWJ ∷ []) y.kind) (eqb y.kind SM) ((eqb k ZWJ && P breaks marks i) && eqb y.mark 1))
      refl refl refl refl refl refl refl (cell breaks i) h

  pub P_next : P breaks marks (suc i) ≡ (eqb (cell marks i) 1 || (eqb (cell breaks i) EX && P breaks marks i))
  unfolding many one is pictographic before_in
  P_next = refl

  pub Z_next : Z breaks marks (suc i) ≡ (eqb (cell breaks i) ZWJ && P breaks marks i)
  unfolding next is before_in
  Z_next = refl

pub P_start : (breaks marks : List ℕ) → P breaks marks 0 ≡ false
unfolding many one before_in
P_start breaks marks = refl

pub Z_start : (breaks marks : List ℕ) → Z breaks marks 0 ≡ false
unfolding next before_in
Z_start breaks marks = refl

-- no rule that the parser's last loop does not know joins the character at the place to those before it
pub record Calm (breaks marks : List ℕ) (j : ℕ) : Type 0 where
  pub joins : (Z breaks marks j && eqb (cell marks j) 1) ≡ false
  pub extends : P breaks marks j ≡ true → member (EX ∷ ZWJ ∷ []) (cell breaks j) ≡ true → ⊥
  pub newline : (i : ℕ) → j ≡ suc i → (eqb (cell breaks i) CR && eqb (cell breaks j) LF) ≡ false

module _ (breaks marks : List ℕ) (plain : Columns breaks marks) where
  -- a place inside the text
  module _ (i : ℕ) (h : suc i < length breaks) where
    abbrev here : ℕ
    here = cell breaks (suc i)

    boundary_says : boundary_at breaks marks (suc i)
        ≡ says (eqb (cell breaks i) CR && eqb here LF) (member controls (cell breaks i)) (member controls here)
        (member (EX ∷ ZWJ ∷ []) here) (eqb here SM) (Z breaks marks (suc i) && eqb (cell marks (suc i)) 1)
    unfolding boundary_at
    boundary_says = rw (le-ltb (length breaks) (suc i) (omega arith))
        (ap (decide rules (before_of breaks marks (suc i))) (some_after breaks marks (suc i) h)
        ∙ decide_plain breaks marks i (item_at breaks marks (suc i)) _ (plain.kind i (omega arith)))

    -- GB9, GB9a
    pub extension_joins : member extensions here ≡ true → boundary_at breaks marks (suc i) ≡ false
    extension_joins e = boundary_says ∙ says_extends _ _ _ _ _ _ told.0 (plain.pair i h e) told.1 told.2
      where
        told : ((eqb (cell breaks i) CR && eqb here LF) ≡ false) × (member controls here ≡ false) × ((member (EX ∷ ZWJ ∷ []) here || eqb here SM) ≡ true)
        told = extension_case (λ k. ((eqb (cell breaks i) CR && eqb k LF) ≡ false) × (member controls k ≡ false) × ((member (EX ∷ ZWJ ∷ []) k || eqb k SM) ≡ true))
            (and-false (eqb (cell breaks i) CR), refl, refl) (and-false (eqb (cell breaks i) CR), refl, refl) (and-false (eqb (cell breaks i) CR), refl, refl) here e

    -- GB3
    pub newline_joins : eqb (cell breaks i) CR ≡ true → eqb here LF ≡ true → boundary_at breaks marks (suc i) ≡ false
    newline_joins e f = boundary_says ∙ says_newline _ _ _ _ _ _ (rw (e, f))

    -- GB11
    pub emoji_joins : Z breaks marks (suc i) ≡ true → eqb (cell marks (suc i)) 1 ≡ true → boundary_at breaks marks (suc i) ≡ false
    emoji_joins z m =
        let zwj : cell breaks i ≡ ZWJ = eqb-true _ _ (both _ _ (sym (Z_next breaks marks i) ∙ z)).0 in
        let xx : here ≡ XX = plain.mark (suc i) h m in
        boundary_says ∙ says_joins _ _ _ _ _ _ (rw zwj) (rw zwj) (rw xx) (rw (z, m))

    -- GB4, GB5, GB999
    pub calm_parts : Calm breaks marks (suc i) → member extensions here ≡ false → boundary_at breaks marks (suc i) ≡ true
    calm_parts c e = boundary_says ∙ says_parts _ _ _ _ _ _ (c.newline i refl) told.0 told.1 c.joins
      where
        told : (member (EX ∷ ZWJ ∷ []) here ≡ false) × (eqb here SM ≡ false)
        told = kind_case (λ k. member extensions k ≡ false → (member (EX ∷ ZWJ ∷ []) k ≡ false) × (eqb k SM ≡ false))
            (λ q. (refl, refl)) (λ q. absurd (false≢true (sym q))) (λ q. absurd (false≢true (sym q))) (λ q. absurd (false≢true (sym q)))
            (λ q. (refl, refl)) (λ q. (refl, refl)) (λ q. (refl, refl)) here (plain.kind (suc i) h) e

  unmarked : (i : ℕ) → i < length breaks → (cell breaks i ≡ XX → ⊥) → eqb (cell marks i) 1 ≡ false
  unmarked i h n = by_test (eqb (cell marks i) 1) (λ e. absurd (n (plain.mark i h e))) (λ e. e)

  -- calm after a character that neither is a pictograph nor goes on with one
  calm_after : (i : ℕ) → P breaks marks (suc i) ≡ false → Z breaks marks (suc i) ≡ false → (eqb (cell breaks i) CR && eqb (cell breaks (suc i)) LF) ≡ false → Calm breaks marks (suc i)
  calm_after i p z c = record {
    joins = rw z;
    extends = λ q e. false≢true (sym p ∙ q);
    newline = λ k e. let q : k ≡ i = omega arith in rw q c;
  }

  -- after a character of kind k that is no extension, and no pictograph
  pub calm_other : (i k : ℕ) → cell breaks i ≡ k → eqb k EX ≡ false → eqb k ZWJ ≡ false → (eqb k CR && eqb (cell breaks (suc i)) LF) ≡ false → eqb (cell marks i) 1 ≡ false → Calm breaks marks (suc i)
  calm_other i k e ex zwj cr m = calm_after i (P_next breaks marks i ∙ rw (m, e, ex)) (Z_next breaks marks i ∙ rw (e, zwj)) (rw e cr)

  pub calm_control : (i k : ℕ) → i < length breaks → cell breaks i ≡ k → (k ≡ XX → ⊥) → eqb k EX ≡ false → eqb k ZWJ ≡ false → (eqb k CR && eqb (cell breaks (suc i)) LF) ≡ false → Calm breaks marks (suc i)
  calm_control i k h e n ex zwj cr = calm_other i k e ex zwj cr (unmarked i h (λ x. n (sym e ∙ x)))

  -- after an extension that a calm place has
  pub calm_extension : (i : ℕ) → i < length breaks → Calm breaks marks i → member extensions (cell breaks i) ≡ true → Calm breaks marks (suc i)
  calm_extension i h c e = by_test (P breaks marks i) (λ p. one_way p) (λ p. other_way p)
    where
      told : (cell breaks i ≡ XX → ⊥) × (eqb (cell breaks i) CR ≡ false) × (member (EX ∷ ZWJ ∷ []) (cell breaks i) ≡ false → (eqb (cell breaks i) EX ≡ false) × (eqb (cell breaks i) ZWJ ≡ false))
      told = extension_case (λ k. (k ≡ XX → ⊥) × (eqb k CR ≡ false) × (member (EX ∷ ZWJ ∷ []) k ≡ false → (eqb k EX ≡ false) × (eqb k ZWJ ≡ false)))
          (λ x. omega arith, refl, λ q. absurd (false≢true (sym q))) (λ x. omega arith, refl, λ q. (refl, refl)) (λ x. omega arith, refl, λ q. absurd (false≢true (sym q))) (cell breaks i) e

      cr : (eqb (cell breaks i) CR && eqb (cell breaks (suc i)) LF) ≡ false
      cr = rw told.1

      one_way : P breaks marks i ≡ true → Calm breaks marks (suc i)
      one_way p =
          let n : member (EX ∷ ZWJ ∷ []) (cell breaks i) ≡ false = by_test (member (EX ∷ ZWJ ∷ []) (cell breaks i)) (λ q. absurd (c.extends p q)) (λ q. q) in
          let t = told.2 n in
          calm_after i (P_next breaks marks i ∙ rw (unmarked i h told.0, t.0)) (Z_next breaks marks i ∙ rw t.1) cr

      other_way : P breaks marks i ≡ false → Calm breaks marks (suc i)
      other_way p = calm_after i (P_next breaks marks i ∙ rw (unmarked i h told.0, p) (and-false (eqb (cell breaks i) EX))) (Z_next breaks marks i ∙ rw p (and-false (eqb (cell breaks i) ZWJ))) cr

  -- at an extension that begins the text, or a cluster
  pub calm_start : (j : ℕ) → j < length breaks → boundary_at breaks marks j ≡ true → member extensions (cell breaks j) ≡ true → Calm breaks marks j
  calm_start zero h b e = record {
    joins = rw (unmarked zero h (λ x. let z : member extensions XX ≡ true = rw x at e in false≢true z)) (and-false (Z breaks marks zero));
    extends = λ p q. false≢true (sym (P_start breaks marks) ∙ p);
    newline = λ i q. absurd (omega arith);
  }
  calm_start (suc i) h b e = absurd (false≢true (sym (extension_joins i h e) ∙ b))

  -- after a pictograph and Extend*, at a character that is neither Extend nor ZWJ
  pub calm_stopped : (j : ℕ) → j < length breaks → P breaks marks j ≡ true → member (EX ∷ ZWJ ∷ []) (cell breaks j) ≡ false → Calm breaks marks j
  calm_stopped zero h p n = absurd (false≢true (sym (P_start breaks marks) ∙ p))
  calm_stopped (suc i) h p n = record {
    joins = rw (Z_next breaks marks i, told.0);
    extends = λ q e. false≢true (sym n ∙ e);
    newline = λ k e. let q : k ≡ i = omega arith in rw (q, told.1);
  }
    where
      never : (k : ℕ) → (k ≡ XX → ⊥) → (eqb (cell marks i) 1 || false) ≡ true → (eqb (cell marks i) 1 ≡ true → k ≡ XX) → (eqb k ZWJ ≡ false) × (eqb k CR ≡ false)
      never k n q f = by_test (eqb (cell marks i) 1) (λ e. absurd (n (f e))) (λ e. absurd (false≢true (rw e at q)))

      told : (eqb (cell breaks i) ZWJ ≡ false) × (eqb (cell breaks i) CR ≡ false)
      told = kind_case (λ k. (eqb (cell marks i) 1 || (eqb k EX && P breaks marks i)) ≡ true → (eqb (cell marks i) 1 ≡ true → k ≡ XX) → (eqb k ZWJ ≡ false) × (eqb k CR ≡ false))
          (λ q f. (refl, refl)) (λ q f. (refl, refl)) (never SM (λ x. omega arith)) (never ZWJ (λ x. omega arith)) (never CR (λ x. omega arith)) (never LF (λ x. omega arith)) (never CN (λ x. omega arith))
          (cell breaks i) (plain.kind i (omega arith)) (sym (P_next breaks marks i) ∙ p) (plain.mark i (omega arith))

  -- after a ZWJ behind these, at a character that is no pictograph
  pub calm_joined : (j : ℕ) → j < length breaks → Z breaks marks j ≡ true → eqb (cell marks j) 1 ≡ false → Calm breaks marks j
  calm_joined zero h z m = absurd (false≢true (sym (Z_start breaks marks) ∙ z))
  calm_joined (suc i) h z m =
      let zwj : cell breaks i ≡ ZWJ = eqb-true _ _ (both _ _ (sym (Z_next breaks marks i) ∙ z)).0 in
      record {
        joins = rw m (and-false (Z breaks marks (suc i)));
        extends = λ p q. false≢true (sym (P_next breaks marks i ∙ rw (unmarked i (omega arith) (λ x. omega arith), zwj)) ∙ p);
        newline = λ k e. let q : k ≡ i = omega arith in rw (q, zwj);
      }
