-- A token of class O by its case, and what its symbol says by one computed test over the six: one law for Myanmar, complex and Khmer. Assumes nothing.
use Prim.Native.Nat.{ℕ, ◌+◌, ◌<◌}
use mathlib.Core.Path.{◌≡◌, refl, sym, ◌∙◌, ap}
use mathlib.Core.Bool.{Bool, true, false, cond, false≢true}
use mathlib.Core.List.{[], ◌∷◌}
use native.Mathlib.Omega.{arith}
use lib.Dec.{eqb, ltb}
use lib.ListN.{get_or}
use borrow.Author.Tests.{eqb-true}
use Rattle.basics.proofs.Tests.{by_test}
use Rattle.basics.specs.Sets.{member}
use Rattle.classes.specs.declared.Shape.{Shape}
use Rattle.classes.specs.declared.Shape.TheVariants.{Base, Control as ControlShape, Zwnj, Zwj}
use Rattle.classes.specs.Category.{Format, Control}
use Rattle.classes.specs.Scalar.{CR, LF, ZWNJ, ZWJ}
use Rattle.token.specs.Token.{scalar_of, category_of}
use Rattle.parse.specs.Shared.{other_class}
use Rattle.tables.specs.Symbols.{special, emoji_symbol, other_in}
use Rattle.tables.proofs.Cells.{agree, tabulate}
use Rattle.tables.proofs.EmojiFine.{emoji_fits}

-- 0 CR, 1 LF, 2 Zwnj, 3 Zwj, 4 Control, 5 Base
abbrev pub case_of : ℕ → ℕ
case_of t = other_in 0 5 t

abbrev pub symbol_at : ℕ → ℕ → ℕ → ℕ
symbol_at first base c = get_or (first ∷ (first + 1) ∷ (first + 2) ∷ (first + 3) ∷ (first + 4) ∷ base ∷ []) c 0

abbrev pub class_of : ℕ → Shape
class_of c = get_or (Base ∷ Base ∷ Zwnj ∷ Zwj ∷ ControlShape ∷ Base ∷ []) c Base

-- the second symbols that a token of a case can have
abbrev pub feasible_in : ℕ → ℕ → Bool
feasible_in c e = cond (member (0 ∷ 1 ∷ 3 ∷ []) c) (cond (member (2 ∷ 3 ∷ 4 ∷ []) e) false true) (cond (eqb c 2) (cond (member (1 ∷ 3 ∷ 4 ∷ []) e) false true) true)

module _ (first base t : ℕ) where
  -- what holds of the case, the symbol and the class that a token of class O can have
  pub other_cases : (Q : ℕ → ℕ → Shape → Type 0)
      → (eqb (scalar_of t) CR ≡ true → Q 0 first (other_class t))
      → (eqb (scalar_of t) CR ≡ false → eqb (scalar_of t) LF ≡ true → Q 1 (first + 1) (other_class t))
      → (eqb (scalar_of t) CR ≡ false → eqb (scalar_of t) LF ≡ false → eqb (scalar_of t) ZWNJ ≡ true → Q 2 (first + 2) Zwnj)
      → (eqb (scalar_of t) CR ≡ false → eqb (scalar_of t) LF ≡ false → eqb (scalar_of t) ZWJ ≡ true → Q 3 (first + 3) Zwj)
      → (eqb (scalar_of t) CR ≡ false → eqb (scalar_of t) LF ≡ false → Q 4 (first + 4) ControlShape)
      → (eqb (scalar_of t) CR ≡ false → eqb (scalar_of t) LF ≡ false → Q 5 base Base)
      → Q (case_of t) (other_in first base t) (other_class t)
  unfolding other_in
  other_cases Q a b c d e f = by_test (eqb (scalar_of t) CR) (λ h. rw h (a h)) (λ h. by_test (eqb (scalar_of t) LF) (λ i. rw (h, i) (b h i))
      (λ i. by_test (eqb (category_of t) Format)
      (λ j. by_test (eqb (scalar_of t) ZWNJ) (λ k. rw (h, i, j, k) (c h i k)) (λ k. by_test (eqb (scalar_of t) ZWJ) (λ l. rw (h, i, j, k, l) (d h i l)) (λ l. rw (h, i, j, k, l) (e h i))))
      (λ j. by_test (eqb (category_of t) Control) (λ k. rw (h, i, j, k) (e h i)) (λ k. rw (h, i, j, k) (f h i)))))

  -- what the symbol says, computed over the cases
  pub by_case : {X : Type 0} (f g : ℕ → X) → tabulate (λ c. f (symbol_at first base c)) 0 6 ≡ tabulate g 0 6 → f (other_in first base t) ≡ g (case_of t)
  by_case f g e = ap f its_symbol ∙ agree (λ c. f (symbol_at first base c)) g 6 e (case_of t) below
    where
      its_symbol : other_in first base t ≡ symbol_at first base (case_of t)
      its_symbol = other_cases (λ c s k. s ≡ symbol_at first base c) (λ h. refl) (λ h i. refl) (λ h i j. refl) (λ h i j. refl) (λ h i. refl) (λ h i. refl)

      below : case_of t < 6
      below = other_cases (λ c s k. c < 6) (λ h. omega arith) (λ h i. omega arith) (λ h i j. omega arith) (λ h i j. omega arith) (λ h i. omega arith) (λ h i. omega arith)

-- what the case says of the token

module _ (t : ℕ) where
  pub case_CR : eqb (case_of t) 0 ≡ eqb (scalar_of t) CR
  case_CR = other_cases 0 5 t (λ c s k. eqb c 0 ≡ eqb (scalar_of t) CR) (λ h. sym h) (λ h i. sym h) (λ h i j. sym h) (λ h i j. sym h) (λ h i. sym h) (λ h i. sym h)

  pub case_LF : eqb (case_of t) 1 ≡ eqb (scalar_of t) LF
  case_LF = other_cases 0 5 t (λ c s k. eqb c 1 ≡ eqb (scalar_of t) LF) (λ h. sym (ap (λ x. eqb x LF) (eqb-true (scalar_of t) CR h))) (λ h i. sym i) (λ h i j. sym i) (λ h i j. sym i) (λ h i. sym i) (λ h i. sym i)

  pub case_ZWNJ : eqb (scalar_of t) ZWNJ ≡ false → eqb (case_of t) 2 ≡ false
  case_ZWNJ z = other_cases 0 5 t (λ c s k. eqb c 2 ≡ false) (λ h. refl) (λ h i. refl) (λ h i j. sym j ∙ z) (λ h i j. refl) (λ h i. refl) (λ h i. refl)

  -- of one that is no line's end
  module _ (cr : eqb (scalar_of t) CR ≡ false) (lf : eqb (scalar_of t) LF ≡ false) where
    pub case_inner : ltb 1 (case_of t) ≡ true
    case_inner = other_cases 0 5 t (λ c s k. ltb 1 c ≡ true) (λ h. sym cr ∙ h) (λ h i. sym lf ∙ i) (λ h i j. refl) (λ h i j. refl) (λ h i. refl) (λ h i. refl)

    pub case_class : other_class t ≡ class_of (case_of t)
    case_class = other_cases 0 5 t (λ c s k. k ≡ class_of c) (λ h. absurd (false≢true (sym cr ∙ h))) (λ h i. absurd (false≢true (sym lf ∙ i))) (λ h i j. refl) (λ h i j. refl) (λ h i. refl) (λ h i. refl)

  -- of one that is none of the scalars that a case says
  pub case_free : (x : ℕ) → scalar_of t ≡ x → eqb x CR ≡ false → eqb x LF ≡ false → eqb x ZWNJ ≡ false → eqb x ZWJ ≡ false → ltb (case_of t) 4 ≡ false
  case_free x e a b c d = other_cases 0 5 t (λ n s k. ltb n 4 ≡ false) (λ h. never CR h a) (λ h i. never LF i b) (λ h i j. never ZWNJ j c) (λ h i j. never ZWJ j d) (λ h i. refl) (λ h i. refl)
    where
      never : (y : ℕ) → eqb (scalar_of t) y ≡ true → eqb x y ≡ false → true ≡ false
      never y h f = sym h ∙ ap (λ z. eqb z y) e ∙ f

  pub case_joins : scalar_of t ≡ ZWNJ → cond (ltb (case_of t) 4) (eqb (case_of t) 2) true ≡ true
  case_joins e = other_cases 0 5 t (λ c s k. cond (ltb c 4) (eqb c 2) true ≡ true) (λ h. never CR h) (λ h i. never LF i) (λ h i j. refl) (λ h i j. never ZWJ j) (λ h i. refl) (λ h i. refl)
    where
      never : (y : ℕ) → eqb (scalar_of t) y ≡ true → eqb ZWNJ y ≡ true
      never y h = sym (ap (λ z. eqb z y) e) ∙ h

  pub case_feasible : feasible_in (case_of t) (emoji_symbol t) ≡ true
  unfolding special
  case_feasible = other_cases 0 5 t (λ c s k. feasible_in c (emoji_symbol t) ≡ true) (λ h. fits 0 CR h refl refl refl) (λ h i. fits 1 LF i refl refl refl) (λ h i j. fits 2 ZWNJ j refl refl refl) (λ h i j. fits 3 ZWJ j refl refl refl) (λ h i. refl) (λ h i. refl)
    where
      fits : (c x : ℕ) → eqb (scalar_of t) x ≡ true → feasible_in c (1 + special x) ≡ true → feasible_in c 5 ≡ true → feasible_in c 0 ≡ true → feasible_in c (emoji_symbol t) ≡ true
      fits c x h u v w = emoji_fits t (feasible_in c) (special x) u v w (ap special (eqb-true (scalar_of t) x h))
