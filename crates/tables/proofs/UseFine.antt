-- The symbols of a token answer every test of the complex grammar, with and without Khmer. Assumes nothing.
use Prim.Native.Nat.{ℕ, ◌+◌, ◌*◌, ◌/◌, ◌%◌, ◌<◌}
use mathlib.Core.Path.{◌≡◌, refl, sym, ◌∙◌, ap}
use mathlib.Core.Bool.{Bool, true, false, cond, false≢true}
use mathlib.Core.List.{List, [], ◌∷◌}
use native.Mathlib.Omega.{arith}
use lib.Dec.{eqb, ltb}
use lib.ListN.{get_or}
use borrow.Author.Tests.{eq-eqb, ltb-true, eqb-true}
use Rattle.basics.proofs.Tests.{if_intro, by_test, both_of}
use Rattle.basics.specs.Sets.{member}
use Rattle.classes.specs.declared.Shape.{Shape}
use Rattle.classes.specs.declared.Shape.TheVariants.{Base, Control as ControlShape, Zwnj, Zwj, Other, Vs, VPre as VPre-shape}
use Rattle.classes.specs.ClusterBreak.{EX, ZWJ as ZWJ-break}
use Rattle.classes.specs.UseClass.{B, CMAbv, CMBlw, CS, FAbv, FBlw, FM, FPst, GB, H, HN, IND, MAbv, MBlw, MPre, MPst, N, O, R, Rsv, S, SMAbv, SMBlw, SUB, VAbv, VBlw, VMAbv, VMBlw, VMPre, VMPst, VPre, VPst, VS, WJ}
use Rattle.classes.specs.Scalar.{CR, LF, ZWNJ, ZWJ, VS15, VS16, COENG}
use Rattle.token.specs.Token.{scalar_of, kind_of, break_of, emoji_of}
use Rattle.parse.specs.State.{token_at}
use Rattle.parse.specs.Rule.{Rule, Test, is, is_break, is_scalar, is_emoji, one_of, accept_as, many_as}
use Rattle.parse.specs.Shared.{emojis, newline, other_arm, other_class}
use Rattle.complex.specs.Grammar.{cluster, letter, symbol, number, halant_number, standard, standard_tail, is_symbol_mark, marked_syllable, syllable, finals, vowels, medials, vowel_modifier, is_vowel_modifier, halant_base, opens_halant, halant, is_coeng, consonant_marks, symbol_marks, base_vs, by_kind, given, to_shape_class}
use Rattle.tables.specs.Symbols.{special, use_other, emoji_symbol, use_in, is_khmer_coeng, use_symbol, implies, regular_use, use_regular}
use Rattle.residual.proofs.Residual.{Inside, Fine}
use Rattle.tables.proofs.Cells.{agree, tabulate}
use Rattle.tables.proofs.EmojiFine.{emoji_below, emoji_EX, emoji_ZWJ, emoji_ZWNJ, emoji_VS15, emoji_VS16, emoji_fits, fine_emojis as emojis-fine}
use Rattle.tables.proofs.OtherFine.{case_of, symbol_at, class_of, feasible_in, by_case, case_CR, case_LF, case_ZWNJ, case_inner, case_class, case_free, case_joins, case_feasible}
use Rattle.tables.proofs.ComplexRules.{sample_at, answer_at, feasible}

-- of the symbol, whatever the token

-- the symbols that say the scalar
abbrev fixed : ℕ → Bool
fixed a = member (38 ∷ 39 ∷ 40 ∷ 41 ∷ 43 ∷ []) a

-- the symbols of class O but those of a line's end, and their classes
abbrev inner : ℕ → Bool
inner a = member (17 ∷ 40 ∷ 41 ∷ 42 ∷ []) a

abbrev class_at : ℕ → Shape
class_at a = cond (eqb a 40) Zwnj (cond (eqb a 41) Zwj (cond (eqb a 42) ControlShape Base))

abbrev kind_at : ℕ → ℕ
kind_at a = get_or (0 ∷ 1 ∷ 2 ∷ 3 ∷ 4 ∷ 5 ∷ 6 ∷ 7 ∷ 8 ∷ 9 ∷ 10 ∷ 11 ∷ 12 ∷ 13 ∷ 14 ∷ 15 ∷ 16 ∷ 17 ∷ 18 ∷ 19 ∷ 20 ∷ 21 ∷ 22 ∷ 23 ∷ 24 ∷ 25 ∷ 26 ∷ 27 ∷ 28 ∷ 29 ∷ 30 ∷ 31 ∷ 32 ∷ 33 ∷ 34 ∷ 35 ∷ 36 ∷ 17 ∷ 17 ∷ 17 ∷ 17 ∷ 17 ∷ 17 ∷ 9 ∷ []) a 0

symbol_all : (Q : ℕ → Type 0) (e o : Bool) (c : ℕ) (z : Bool) (k : ℕ) → (e ≡ true → Q 37) → (e ≡ false → o ≡ true → Q c) → (z ≡ true → Q 43) → (o ≡ false → Q k) → Q (use_in e o c z k)
unfolding use_in
symbol_all Q e o c z k a b d g = if_intro Q e _ _ a (λ he. if_intro Q o _ _ (b he) (λ ho. if_intro Q z _ _ d (λ hz. g ho)))

imp : (a b : Bool) → implies a b ≡ true → a ≡ true → b ≡ true
imp true b h e = h
imp false b h e = absurd (false≢true e)

module _ (khmer : Bool) (text : List ℕ) (regular : (i : ℕ) → Inside text i → use_regular khmer (token_at text i) ≡ true) where
  abbrev tok : ℕ → ℕ
  tok i = token_at text i

  abbrev sa : ℕ → ℕ
  sa i = use_symbol khmer (tok i)

  abbrev eb : ℕ → ℕ
  eb i = emoji_symbol (tok i)

  abbrev pub pair : ℕ → ℕ
  pair i = sa i * 6 + eb i

  abbrev pub answer : ℕ → Test → Bool
  answer i p = answer_at (pair i) p

  abbrev pub sample : ℕ → ℕ
  sample i = sample_at (pair i)

  module _ (i : ℕ) (h : Inside text i) where
    abbrev k : ℕ
    k = kind_of (tok i)

    parts : (ltb k 37 ≡ true) × ((implies (eqb (emoji_of (tok i)) 1) (eqb k 17) ≡ true) × ((implies (is_khmer_coeng khmer (scalar_of (tok i))) (eqb k 9) ≡ true) × (implies (eqb (scalar_of (tok i)) LF) (cond (eqb k 17) (eqb (emoji_of (tok i)) 0) false) ≡ true)))
    unfolding use_regular regular_use
    parts = let a = both_of (ltb k 37) _ (regular i h) in let b = both_of (implies (eqb (emoji_of (tok i)) 1) (eqb k 17)) _ a.1 in let c = both_of (implies (is_khmer_coeng khmer (scalar_of (tok i))) (eqb k 9)) _ b.1 in (a.0, (b.0, (c.0, c.1)))

    kind_small : k < 37
    kind_small = ltb-true k 37 parts.0

    kind_emoji : eqb (emoji_of (tok i)) 1 ≡ true → k ≡ 17
    kind_emoji e = eqb-true k 17 (imp _ _ parts.1.0 e)

    kind_kinzi : is_khmer_coeng khmer (scalar_of (tok i)) ≡ true → k ≡ 9
    kind_kinzi e = eqb-true k 9 (imp _ _ parts.1.1.0 e)

    line_feed : eqb (scalar_of (tok i)) LF ≡ true → (eqb k 17 ≡ true) × (eqb (emoji_of (tok i)) 0 ≡ true)
    line_feed e = both_of (eqb k 17) (eqb (emoji_of (tok i)) 0) (imp _ _ parts.1.1.1 e)

    -- what holds of each symbol that the token can have
    its_symbol : (Q : ℕ → Type 0) → (eqb (emoji_of (tok i)) 1 ≡ true → Q 37) → (eqb (emoji_of (tok i)) 1 ≡ false → eqb k 17 ≡ true → Q (use_other (tok i))) → (is_khmer_coeng khmer (scalar_of (tok i)) ≡ true → Q 43) → (eqb k 17 ≡ false → Q k) → Q (sa i)
    unfolding use_symbol
    its_symbol Q a b c e = symbol_all Q (eqb (emoji_of (tok i)) 1) (eqb k 17) (use_other (tok i)) (is_khmer_coeng khmer (scalar_of (tok i))) k a b c e

    small : {X : Type 0} (f g : ℕ → X) → tabulate f 0 37 ≡ tabulate g 0 37 → f k ≡ g k
    small f g e = agree f g 37 e k kind_small

    -- what the symbol of one of class O says, by its case
    other : {X : Type 0} (f g : ℕ → X) → tabulate (λ c. f (symbol_at 38 17 c)) 0 6 ≡ tabulate g 0 6 → f (use_other (tok i)) ≡ g (case_of (tok i))
    other f g e = by_case 38 17 (tok i) f g e

    pub symbol_below : sa i < 44
    symbol_below = its_symbol (λ a. a < 44) (λ e. omega arith) (λ e o. ltb-true _ 44 (other (λ a. ltb a 44) (λ c. true) refl)) (λ e. omega arith) (λ e. let z = kind_small in omega arith)

    symbol_kind : kind_at (sa i) ≡ k
    symbol_kind = its_symbol (λ a. kind_at a ≡ k) (λ e. sym (kind_emoji e))
        (λ e o. other kind_at (λ c. 17) refl ∙ sym (eqb-true k 17 o))
        (λ e. sym (kind_kinzi e)) (λ e. small kind_at (λ a. a) refl)

    symbol_emoji : eqb (sa i) 37 ≡ eqb (emoji_of (tok i)) 1
    symbol_emoji = by_test (eqb (emoji_of (tok i)) 1)
        (λ e. its_symbol (λ a. eqb a 37 ≡ true) (λ z. refl) (λ z o. absurd (false≢true (sym z ∙ e))) (λ z. absurd (never e z)) (λ z. absurd (false≢true (sym z ∙ eq-eqb k 17 (kind_emoji e)))) ∙ sym e)
        (λ e. its_symbol (λ a. eqb a 37 ≡ false) (λ z. absurd (false≢true (sym e ∙ z))) (λ z o. other (λ a. eqb a 37) (λ c. false) refl) (λ z. refl) (λ z. small (λ a. eqb a 37) (λ a. false) refl) ∙ sym e)
      where
        never : eqb (emoji_of (tok i)) 1 ≡ true → is_khmer_coeng khmer (scalar_of (tok i)) ≡ true → ⊥
        never e z = let y : ◌≡◌ {A = ℕ} 17 9 = sym (kind_emoji e) ∙ kind_kinzi z in omega (arith, y)

    of_O : eqb (emoji_of (tok i)) 1 ≡ false → eqb k 17 ≡ true → sa i ≡ use_other (tok i)
    unfolding use_symbol use_in
    of_O e o = rw (e, o)

    no_emoji : eqb (scalar_of (tok i)) LF ≡ true → eqb (emoji_of (tok i)) 1 ≡ false
    no_emoji e = ap (λ x. eqb x 1) (eqb-true (emoji_of (tok i)) 0 (line_feed e).1)

    symbol_LF : eqb (sa i) 39 ≡ eqb (scalar_of (tok i)) LF
    symbol_LF = by_test (eqb (scalar_of (tok i)) LF)
        (λ e. ap (λ a. eqb a 39) (of_O (no_emoji e) (line_feed e).0) ∙ other_LF)
        (λ e. its_symbol (λ a. eqb a 39 ≡ false) (λ z. refl) (λ z o. other_LF ∙ e) (λ z. refl) (λ z. small (λ a. eqb a 39) (λ a. false) refl) ∙ sym e)
      where
        other_LF : eqb (use_other (tok i)) 39 ≡ eqb (scalar_of (tok i)) LF
        other_LF = other (λ a. eqb a 39) (λ c. eqb c 1) refl ∙ case_LF (tok i)

    signed : is_khmer_coeng khmer (scalar_of (tok i)) ≡ true → eqb (emoji_of (tok i)) 1 ≡ false → eqb k 17 ≡ false → sa i ≡ 43
    unfolding use_symbol use_in
    signed z e o = rw (e, o, z) refl

    symbol_sign : eqb (sa i) 43 ≡ is_khmer_coeng khmer (scalar_of (tok i))
    symbol_sign = by_test (is_khmer_coeng khmer (scalar_of (tok i)))
        (λ z. ap (λ a. eqb a 43) (signed z (no_face z) (ap (λ n. eqb n 17) (kind_kinzi z))) ∙ sym z)
        (λ z. its_symbol (λ a. eqb a 43 ≡ false) (λ e. refl) (λ e o. other (λ a. eqb a 43) (λ c. false) refl) (λ e. absurd (false≢true (sym z ∙ e))) (λ e. small (λ a. eqb a 43) (λ a. false) refl) ∙ sym z)
      where
        no_face : is_khmer_coeng khmer (scalar_of (tok i)) ≡ true → eqb (emoji_of (tok i)) 1 ≡ false
        no_face z = by_test (eqb (emoji_of (tok i)) 1) (λ e. absurd (let y : ◌≡◌ {A = ℕ} 17 9 = sym (kind_emoji e) ∙ kind_kinzi z in omega (arith, y))) (λ e. e)

    -- U+17D2 is none of the others
    not_kinzi : (x : ℕ) → scalar_of (tok i) ≡ x → eqb x COENG ≡ false → is_khmer_coeng khmer (scalar_of (tok i)) ≡ true → ⊥
    not_kinzi x e m z = false≢true (sym (ap (λ y. eqb y COENG) e ∙ m) ∙ (both_of khmer _ z).1)

    symbol_free : (x : ℕ) → scalar_of (tok i) ≡ x → eqb x CR ≡ false → eqb x LF ≡ false → eqb x ZWNJ ≡ false → eqb x ZWJ ≡ false → eqb x COENG ≡ false → fixed (sa i) ≡ false
    symbol_free x e a b c d m = its_symbol (λ s. fixed s ≡ false) (λ z. refl) (λ z o. other fixed (λ c. ltb c 4) refl ∙ case_free (tok i) x e a b c d) (λ z. absurd (not_kinzi x e m z)) (λ z. small fixed (λ a. false) refl)

    symbol_joins : scalar_of (tok i) ≡ ZWNJ → cond (fixed (sa i)) (eqb (sa i) 40) true ≡ true
    symbol_joins e = its_symbol (λ s. cond (fixed s) (eqb s 40) true ≡ true) (λ z. refl) (λ z o. other (λ s. cond (fixed s) (eqb s 40) true) (λ c. cond (ltb c 4) (eqb c 2) true) refl ∙ case_joins (tok i) e) (λ z. absurd (not_kinzi ZWNJ e refl z))
        (λ z. small (λ s. cond (fixed s) (eqb s 40) true) (λ a. true) refl)

    symbol_parts : eqb (scalar_of (tok i)) ZWNJ ≡ false → eqb (sa i) 40 ≡ false
    symbol_parts e = its_symbol (λ s. eqb s 40 ≡ false) (λ z. refl) (λ z o. other (λ s. eqb s 40) (λ c. eqb c 2) refl ∙ case_ZWNJ (tok i) e) (λ z. refl) (λ z. small (λ a. eqb a 40) (λ a. false) refl)

    -- the second symbol
    pub class_below : eb i < 6
    class_below = emoji_below (tok i)

    pub pair_symbol : pair i / 6 ≡ sa i
    pair_symbol = let z = class_below in omega arith

    pub pair_class : pair i % 6 ≡ eb i
    pair_class = let z = class_below in omega arith

    pub pair_below : pair i < 264
    pair_below = let z = class_below in let y = symbol_below in omega arith

    -- what the samples say, computed over all pairs
    says : {X : Type 0} (f : ℕ → X) (g : ℕ → ℕ → X) → tabulate f 0 264 ≡ tabulate (λ j. g (j / 6) (j % 6)) 0 264 → f (pair i) ≡ g (sa i) (eb i)
    says f g e = agree f (λ j. g (j / 6) (j % 6)) 264 e (pair i) pair_below ∙ ap (λ a. g a (pair i % 6)) pair_symbol ∙ ap (g (sa i)) pair_class

    sample_kind : kind_of (sample i) ≡ k
    sample_kind = says (λ j. kind_of (sample_at j)) (λ a e. kind_at a) refl ∙ symbol_kind

    pub good_is : (n : ℕ) → answer i (is n) ≡ is n text i
    good_is n = ap (λ x. eqb x n) sample_kind

    good_one : (ks : List ℕ) → answer i (one_of ks) ≡ one_of ks text i
    unfolding one_of
    good_one ks = ap (member ks) sample_kind

    pub good_emoji : answer i is_emoji ≡ is_emoji text i
    good_emoji = says (λ j. eqb (emoji_of (sample_at j)) 1) (λ a e. eqb a 37) refl ∙ symbol_emoji

    good_LF : answer i (is_scalar LF) ≡ is_scalar LF text i
    good_LF = says (λ j. eqb (scalar_of (sample_at j)) LF) (λ a e. eqb a 39) refl ∙ symbol_LF

    good_CR : is_emoji text i ≡ false → is O text i ≡ true → answer i (is_scalar CR) ≡ is_scalar CR text i
    good_CR e o = says (λ j. eqb (scalar_of (sample_at j)) CR) (λ a e. eqb a 38) refl ∙ ap (λ a. eqb a 38) (of_O e o) ∙ other (λ a. eqb a 38) (λ c. eqb c 0) refl ∙ case_CR (tok i)

    good_sign : answer i (is_coeng khmer) ≡ is_coeng khmer text i
    unfolding is_coeng given
    good_sign = ap (λ b. cond khmer b false) (says (λ j. eqb (scalar_of (sample_at j)) COENG) (λ a e. eqb a 43) refl ∙ symbol_sign) ∙ twice khmer (eqb (scalar_of (tok i)) COENG)
      where
        twice : (a b : Bool) → cond a (cond a b false) false ≡ cond a b false
        twice true b = refl
        twice false b = refl

    good_EX : answer i (is_break EX) ≡ is_break EX text i
    good_EX = says (λ j. eqb (break_of (sample_at j)) EX) (λ a e. member (1 ∷ 2 ∷ 3 ∷ 4 ∷ []) e) refl ∙ emoji_EX (tok i)

    good_ZWJ : answer i (is_break ZWJ-break) ≡ is_break ZWJ-break text i
    good_ZWJ = says (λ j. eqb (break_of (sample_at j)) ZWJ-break) (λ a e. eqb e 5) refl ∙ emoji_ZWJ (tok i)

    selector : (x n : ℕ) → eqb (eb i) n ≡ eqb (scalar_of (tok i)) x → (scalar_of (tok i) ≡ x → fixed (sa i) ≡ false) → cond (fixed (sa i)) false (eqb (eb i) n) ≡ eqb (scalar_of (tok i)) x
    selector x n e f = by_test (eqb (scalar_of (tok i)) x)
        (λ b. ap (λ z. cond z false (eqb (eb i) n)) (f (eqb-true (scalar_of (tok i)) x b)) ∙ e)
        (λ b. ap (cond (fixed (sa i)) false) (e ∙ b) ∙ go (fixed (sa i)) ∙ sym b)
      where
        go : (z : Bool) → cond z false false ≡ false
        go true = refl
        go false = refl

    good_VS16 : is_break EX text i ≡ true → answer i (is_scalar VS16) ≡ is_scalar VS16 text i
    good_VS16 e = says (λ j. eqb (scalar_of (sample_at j)) VS16) (λ a e. cond (fixed a) false (eqb e 4)) refl
        ∙ selector VS16 4 (emoji_VS16 (tok i) e) (λ z. symbol_free VS16 z refl refl refl refl refl)

    good_VS15 : is_break EX text i ≡ true → answer i (is_scalar VS15) ≡ is_scalar VS15 text i
    good_VS15 e = says (λ j. eqb (scalar_of (sample_at j)) VS15) (λ a e. cond (fixed a) false (eqb e 3)) refl
        ∙ selector VS15 3 (emoji_VS15 (tok i) e) (λ z. symbol_free VS15 z refl refl refl refl refl)

    good_ZWNJ : is_break EX text i ≡ true → answer i (is_scalar ZWNJ) ≡ is_scalar ZWNJ text i
    good_ZWNJ e = says (λ j. eqb (scalar_of (sample_at j)) ZWNJ) (λ a e. cond (fixed a) (eqb a 40) (eqb e 2)) refl
        ∙ by_test (eqb (scalar_of (tok i)) ZWNJ)
        (λ b. ap (cond (fixed (sa i)) (eqb (sa i) 40)) (emoji_ZWNJ (tok i) e ∙ b) ∙ symbol_joins (eqb-true (scalar_of (tok i)) ZWNJ b) ∙ sym b)
        (λ b. ap (cond (fixed (sa i)) (eqb (sa i) 40)) (emoji_ZWNJ (tok i) e ∙ b) ∙ ap (λ z. cond (fixed (sa i)) z false) (symbol_parts b) ∙ go (fixed (sa i)) ∙ sym b)
      where
        go : (z : Bool) → cond z false false ≡ false
        go true = refl
        go false = refl

    good_class : is_emoji text i ≡ false → is O text i ≡ true → is_scalar CR text i ≡ false → is_scalar LF text i ≡ false → other_class (tok i) ≡ other_class (sample i)
    good_class e o c l =
        case_class (tok i) c l
        ∙ sym (other class_at class_of refl)
        ∙ ap class_at (sym (of_O e o))
        ∙ sym (says (λ j. cond (inner (j / 6)) (other_class (sample_at j)) Base) (λ a e. class_at a) refl)
        ∙ ap (λ a. cond (inner a) (other_class (sample i)) Base) (pair_symbol ∙ of_O e o)
        ∙ ap (λ b. cond b (other_class (sample i)) Base) (other inner (ltb 1) refl ∙ case_inner (tok i) c l)

    -- the two symbols say the same of the scalar
    kinzi_special : is_khmer_coeng khmer (scalar_of (tok i)) ≡ true → special (scalar_of (tok i)) ≡ 0
    unfolding special
    kinzi_special z = ap special (eqb-true (scalar_of (tok i)) COENG (both_of khmer _ z).1)

    pub pair_feasible : feasible (sa i) (eb i) ≡ true
    pair_feasible = its_symbol (λ a. feasible a (eb i) ≡ true) (λ z. refl) (λ z o. ap (λ p. p (eb i)) (other feasible feasible_in refl) ∙ case_feasible (tok i)) (λ z. emoji_fits (tok i) (feasible 43) 0 refl refl refl (kinzi_special z)) (λ z. small (λ a. feasible a (eb i)) (λ a. true) refl)

  -- the grammar

  fine_many : (P : ℕ → Type 0) (n : ℕ) (c : Shape) → Fine text answer sample P (many_as n c)
  unfolding Fine
  fine_many P n c = (λ i h. good_is i h n, (refl, λ i h. refl))

  module _ (P : ℕ → Type 0) (into : (i : ℕ) → P i → Inside text i) where
    fine_accept : (n : ℕ) (c : Shape) → Fine text answer sample P (accept_as n c)
    unfolding Fine
    fine_accept n c = (λ i h. good_is i (into i h) n, (λ i h. refl, tt))

  fine_emojis : (P : ℕ → Type 0) → Fine text answer sample P emojis
  fine_emojis = emojis-fine text answer sample good_emoji good_EX good_ZWJ good_ZWNJ good_VS15 good_VS16

  abbrev In : (i : ℕ) → Inside text i → Inside text i
  In i h = h

  abbrev F : (ℕ → Type 0) → Rule → Type 0
  F = Fine text answer sample

  fine_base_vs : (P : ℕ → Type 0) → F P base_vs
  unfolding Fine base_vs
  fine_base_vs P = (λ i h. refl, fine_accept _ In VS Vs)

  fine_symbol_marks : (P : ℕ → Type 0) → F P symbol_marks
  unfolding Fine symbol_marks
  fine_symbol_marks P = (fine_many (Inside text) SMAbv Other, fine_many (Inside text) SMBlw Other)

  fine_consonant_marks : (P : ℕ → Type 0) → F P consonant_marks
  unfolding Fine consonant_marks
  fine_consonant_marks P = (fine_many (Inside text) CMAbv Other, fine_many (Inside text) CMBlw Other)

  fine_halant_base : (P : ℕ → Type 0) → ((i : ℕ) → P i → Inside text i) → F P (halant_base khmer)
  unfolding Fine halant_base halant base_vs
  fine_halant_base P into = (
    λ i h. good_is i (into i h) SUB,
    (
      (λ i h. refl, fine_consonant_marks _),
      ((λ i h. good_sign i (into i h.0), (λ i h. refl, λ i h. refl)), (λ i h. good_is i h B, ((fine_base_vs _, fine_consonant_marks _), tt))),
    ),
  )

  fine_medials : F (Inside text) medials
  unfolding Fine medials
  fine_medials = (fine_accept _ In MPre Other, (fine_accept _ In MAbv Other, (fine_accept _ In MBlw Other, (fine_accept _ In MBlw Other, fine_accept _ In MPst Other))))

  fine_vowels : F (Inside text) vowels
  unfolding Fine vowels
  fine_vowels = (fine_many (Inside text) VPre VPre-shape, (fine_many (Inside text) VAbv Other, (fine_many (Inside text) VBlw Other, fine_many (Inside text) VPst Other)))

  fine_finals : F (Inside text) finals
  unfolding Fine finals
  fine_finals = (fine_many (Inside text) FAbv Other, (fine_many (Inside text) FBlw Other, (fine_many (Inside text) FPst Other, fine_accept _ In FM Other)))

  fine_syllable : F (Inside text) (syllable khmer)
  unfolding Fine syllable opens_halant is_vowel_modifier vowel_modifier medials vowels halant_base halant
  fine_syllable = (
    (λ i h. good_one i h (SUB ∷ H ∷ []), (refl, fine_halant_base _ (λ i h. h.0))),
    (
      fine_medials,
      (
        fine_vowels,
        ((λ i h. good_one i h (VMPre ∷ VMAbv ∷ VMBlw ∷ VMPst ∷ H ∷ []), (refl, (λ i h. good_is i h.0 VMPre, (λ i h. refl, λ i h. refl)))), fine_finals),
      ),
    ),
  )

  good_mark : (s : Bool) (i : ℕ) → Inside text i → answer i (is_symbol_mark s) ≡ is_symbol_mark s text i
  unfolding is_symbol_mark given
  good_mark s i h = ap (λ b. cond s b false) (good_one i h (SMAbv ∷ SMBlw ∷ []))

  fine_tail : (s : Bool) → F (Inside text) (standard_tail khmer s)
  unfolding Fine standard_tail marked_syllable consonant_marks
  fine_tail s = (fine_accept _ In VS Vs, (λ i h. good_mark s i h, (fine_symbol_marks _, ((fine_many (Inside text) CMAbv Other, fine_many (Inside text) CMBlw Other), fine_syllable))))

  fine_standard : (s : Bool) (P : ℕ → Type 0) → ((i : ℕ) → P i → Inside text i) → F P (standard khmer s)
  unfolding Fine standard by_kind
  fine_standard s P into = (λ i h. good_one i (into i h) (B ∷ GB ∷ []), ((λ i h. refl, fine_tail s), (tt, λ i h. ap to_shape_class (sym (sample_kind i (into i h.0))))))

  fine_letter : (P : ℕ → Type 0) → ((i : ℕ) → P i → Inside text i) → F P (letter khmer)
  unfolding Fine letter number symbol halant_number base_vs
  fine_letter P into = (
    λ i h. good_is i (into i h) B,
    (
      fine_standard false _ (λ i h. into i h.0),
      (
        λ i h. good_is i (into i h.0) GB,
        (
          fine_standard true _ (λ i h. into i h.0.0),
          (
            λ i h. good_is i (into i h.0.0) N,
            (
              (fine_base_vs _, (λ i h. good_is i h HN, (refl, (λ i h. refl, (λ i h. good_is i h N, (fine_base_vs _, tt)))))),
              (λ i h. good_is i (into i h.0.0.0) S, ((fine_base_vs _, fine_symbol_marks _), fine_standard false _ (λ i h. into i h.0.0.0.0))),
            ),
          ),
        ),
      ),
    ),
  )

  pub fine_complex : F (Inside text) (cluster khmer)
  unfolding Fine cluster other_arm newline
  fine_complex = (
    λ i h. good_emoji i h,
    (
      fine_emojis _,
      (
        λ i h. good_is i h.0 O,
        (
          (
            λ i h. good_CR i h.0.0 h.0.1 h.1,
            (
              ((tt, λ i h. refl), (λ i h. good_LF i h, (λ i h. refl, tt))),
              (λ i h. good_LF i h.0.0.0, ((tt, λ i h. refl), (tt, λ i h. good_class i h.0.0.0.0 h.0.0.0.1 h.0.0.1 h.0.1 h.1))),
            ),
          ),
          (
            λ i h. good_one i h.0.0 (IND ∷ Rsv ∷ WJ ∷ []),
            (
              fine_base_vs _,
              (
                λ i h. good_is i h.0.0.0 R,
                (
                  (λ i h. refl, fine_standard false _ In),
                  (
                    λ i h. good_is i h.0.0.0.0 CS,
                    (
                      (λ i h. refl, fine_standard false _ In),
                      fine_letter _ (λ i h. h.0.0.0.0.0),
                    ),
                  ),
                ),
              ),
            ),
          ),
        ),
      ),
    ),
  )
