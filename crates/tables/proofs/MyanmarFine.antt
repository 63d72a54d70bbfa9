-- The symbols of a token answer every test of the Myanmar grammar. Assumes nothing.
use Prim.Native.Nat.{ℕ, ◌+◌, ◌*◌, ◌/◌, ◌%◌, ◌<◌}
use mathlib.Core.Path.{◌≡◌, refl, sym, ◌∙◌, ap}
use mathlib.Core.Bool.{Bool, true, false, cond, false≢true}
use mathlib.Core.List.{List, [], ◌∷◌}
use native.Mathlib.Omega.{arith}
use lib.Dec.{eqb, ltb}
use lib.ListN.{get_or}
use borrow.Author.Tests.{eq-eqb, ltb-true, eqb-true}
use Rattle.basics.proofs.Tests.{if_intro, by_test, both_of}
use Rattle.basics.specs.Sets.{member}
use Rattle.classes.specs.declared.Mode.{Mode}
use Rattle.classes.specs.declared.Shape.{Shape}
use Rattle.classes.specs.declared.Shape.TheVariants.{Base, Control as ControlShape, Zwnj, Zwj, Other, Vs, VPre as VPre-shape, VBlw as VBlw-shape, MedialRa, Anusvara}
use Rattle.classes.specs.ClusterBreak.{EX, ZWJ as ZWJ-break}
use Rattle.classes.specs.MyanmarClass.{A, As, C, D, D0, DB, H, IV, J, MH, MR, MW, MY, O, P, PT, R, S, «V», VAbv, VBlw, VPre, VPst, VS, WJ}
use Rattle.classes.specs.Scalar.{CR, LF, ZWNJ, ZWJ, VS15, VS16, kinzi_firsts, ASAT, VIRAMA}
use Rattle.token.specs.Token.{scalar_of, kind_of, break_of, emoji_of}
use Rattle.records.specs.declared.Parser.TheVariants.{Myanmar}
use Rattle.parse.specs.State.{token_at}
use Rattle.parse.specs.Rule.{Test, is, is_break, is_scalar, is_emoji, one_of, accept_as, many_as}
use Rattle.parse.specs.Shared.{emojis, newline, other_arm, other_class}
use Rattle.myanmar.specs.Grammar.{cluster, is_alone, kinzi, syllable, base, finals, vowels, medials, pwo_tone_mark, post_base_vowel, stacked, accept_with_as, is_kinzi, scalar_at}
use Rattle.tables.specs.Symbols.{special, other_symbol, emoji_symbol, ends_at, myanmar_in, myanmar_symbol, implies, regular_myanmar, myanmar_regular, Regular}
use Rattle.residual.proofs.Residual.{Inside, Fine}
use Rattle.tables.proofs.Cells.{agree, tabulate}
use Rattle.tables.proofs.EmojiFine.{emoji_below, emoji_EX, emoji_ZWJ, emoji_ZWNJ, emoji_VS15, emoji_VS16, emoji_fits, fine_emojis as emojis-fine}
use Rattle.tables.proofs.OtherFine.{case_of, symbol_at, class_of, feasible_in, by_case, case_CR, case_LF, case_ZWNJ, case_inner, case_class, case_free, case_joins, case_feasible}
use Rattle.tables.proofs.MyanmarRules.{sample_at, answer_at, feasible}

-- of the symbol, whatever the token

-- the symbols that say the scalar
abbrev fixed : ℕ → Bool
fixed a = member (27 ∷ 28 ∷ 29 ∷ 30 ∷ 32 ∷ 33 ∷ []) a

-- the symbols of class O but those of a line's end, and their classes
abbrev inner : ℕ → Bool
inner a = member (13 ∷ 29 ∷ 30 ∷ 31 ∷ []) a

abbrev class_at : ℕ → Shape
class_at a = cond (eqb a 29) Zwnj (cond (eqb a 30) Zwj (cond (eqb a 31) ControlShape Base))

abbrev kind_at : ℕ → ℕ
kind_at a = get_or (0 ∷ 1 ∷ 2 ∷ 3 ∷ 4 ∷ 5 ∷ 6 ∷ 7 ∷ 8 ∷ 9 ∷ 10 ∷ 11 ∷ 12 ∷ 13 ∷ 14 ∷ 15 ∷ 16 ∷ 17 ∷ 18 ∷ 19 ∷ 20 ∷ 21 ∷ 22 ∷ 23 ∷ 24 ∷ 25 ∷ 13 ∷ 13 ∷ 13 ∷ 13 ∷ 13 ∷ 13 ∷ 2 ∷ 2 ∷ []) a 0

symbol_all : (Q : ℕ → Type 0) (e o : Bool) (c : ℕ) (z w : Bool) (k : ℕ) → (e ≡ true → Q 26) → (e ≡ false → o ≡ true → Q c) → (z ≡ true → Q 33) → (z ≡ true → Q 32) → (o ≡ false → Q k) → Q (myanmar_in e o c z w k)
unfolding myanmar_in
symbol_all Q e o c z w k a b d f g = if_intro Q e _ _ a (λ he. if_intro Q o _ _ (b he) (λ ho. if_intro Q z _ _ (λ hz. if_intro Q w _ _ (λ hw. d hz) (λ hw. f hz)) (λ hz. g ho)))

imp : (a b : Bool) → implies a b ≡ true → a ≡ true → b ≡ true
imp true b h e = h
imp false b h e = absurd (false≢true e)

-- a kinzi begins with a letter that can begin one
kinzi_begins : (text : List ℕ) (i : ℕ) (b : Bool) → implies (member kinzi_firsts (scalar_at text i)) b ≡ true → implies (is_kinzi text i) b ≡ true
unfolding is_kinzi
kinzi_begins text i b h = go (member kinzi_firsts (scalar_at text i)) (cond (eqb (scalar_at text (i + 1)) ASAT) (eqb (scalar_at text (i + 2)) VIRAMA) false) h
  where
    go : (m w : Bool) → implies m b ≡ true → implies (cond m w false) b ≡ true
    go true true e = e
    go true false e = refl
    go false w e = refl

module _ (mode : Mode) (text : List ℕ) (regular : Regular Myanmar text) where
  abbrev tok : ℕ → ℕ
  tok i = token_at text i

  abbrev sa : ℕ → ℕ
  sa i = myanmar_symbol mode text i

  abbrev eb : ℕ → ℕ
  eb i = emoji_symbol (tok i)

  abbrev pub pair : ℕ → ℕ
  pair i = sa i * 6 + eb i

  abbrev pub answer : ℕ → Test → Bool
  answer i p = answer_at (pair i) p

  abbrev pub sample : ℕ → ℕ
  sample i = sample_at (pair i)

  module _ (i : ℕ) (h : Inside text i) where
    abbrev k : ℕ
    k = kind_of (tok i)

    parts : (ltb k 26 ≡ true) × ((implies (eqb (emoji_of (tok i)) 1) (eqb k 13) ≡ true) × ((implies (is_kinzi text i) (eqb k 2) ≡ true) × (implies (eqb (scalar_of (tok i)) LF) (cond (eqb k 13) (eqb (emoji_of (tok i)) 0) false) ≡ true)))
    unfolding myanmar_regular regular_myanmar
    parts = let a = both_of (ltb k 26) _ (regular i h) in let b = both_of (implies (eqb (emoji_of (tok i)) 1) (eqb k 13)) _ a.1 in let c = both_of (implies (member kinzi_firsts (scalar_of (tok i))) (eqb k 2)) _ b.1 in (a.0, (b.0, (kinzi_begins text i (eqb k 2) c.0, c.1)))

    kind_small : k < 26
    kind_small = ltb-true k 26 parts.0

    kind_emoji : eqb (emoji_of (tok i)) 1 ≡ true → k ≡ 13
    kind_emoji e = eqb-true k 13 (imp _ _ parts.1.0 e)

    kind_kinzi : is_kinzi text i ≡ true → k ≡ 2
    kind_kinzi e = eqb-true k 2 (imp _ _ parts.1.1.0 e)

    line_feed : eqb (scalar_of (tok i)) LF ≡ true → (eqb k 13 ≡ true) × (eqb (emoji_of (tok i)) 0 ≡ true)
    line_feed e = both_of (eqb k 13) (eqb (emoji_of (tok i)) 0) (imp _ _ parts.1.1.1 e)

    -- what holds of each symbol that the token can have
    its_symbol : (Q : ℕ → Type 0) → (eqb (emoji_of (tok i)) 1 ≡ true → Q 26) → (eqb (emoji_of (tok i)) 1 ≡ false → eqb k 13 ≡ true → Q (other_symbol (tok i))) → (is_kinzi text i ≡ true → Q 33) → (is_kinzi text i ≡ true → Q 32) → (eqb k 13 ≡ false → Q k) → Q (sa i)
    unfolding myanmar_symbol
    its_symbol Q a b c d e = symbol_all Q (eqb (emoji_of (tok i)) 1) (eqb k 13) (other_symbol (tok i)) (is_kinzi text i) (ends_at mode text i) k a b c d e

    small : {X : Type 0} (f g : ℕ → X) → tabulate f 0 26 ≡ tabulate g 0 26 → f k ≡ g k
    small f g e = agree f g 26 e k kind_small

    -- what the symbol of one of class O says, by its case
    other : {X : Type 0} (f g : ℕ → X) → tabulate (λ c. f (symbol_at 27 13 c)) 0 6 ≡ tabulate g 0 6 → f (other_symbol (tok i)) ≡ g (case_of (tok i))
    other f g e = by_case 27 13 (tok i) f g e

    pub symbol_below : sa i < 34
    symbol_below = its_symbol (λ a. a < 34) (λ e. omega arith) (λ e o. ltb-true _ 34 (other (λ a. ltb a 34) (λ c. true) refl)) (λ e. omega arith) (λ e. omega arith) (λ e. let z = kind_small in omega arith)

    symbol_kind : kind_at (sa i) ≡ k
    symbol_kind = its_symbol (λ a. kind_at a ≡ k) (λ e. sym (kind_emoji e))
        (λ e o. other kind_at (λ c. 13) refl ∙ sym (eqb-true k 13 o))
        (λ e. sym (kind_kinzi e)) (λ e. sym (kind_kinzi e)) (λ e. small kind_at (λ a. a) refl)

    symbol_emoji : eqb (sa i) 26 ≡ eqb (emoji_of (tok i)) 1
    symbol_emoji = by_test (eqb (emoji_of (tok i)) 1)
        (λ e. its_symbol (λ a. eqb a 26 ≡ true) (λ z. refl) (λ z o. absurd (false≢true (sym z ∙ e))) (λ z. absurd (never e z)) (λ z. absurd (never e z)) (λ z. absurd (false≢true (sym z ∙ eq-eqb k 13 (kind_emoji e)))) ∙ sym e)
        (λ e. its_symbol (λ a. eqb a 26 ≡ false) (λ z. absurd (false≢true (sym e ∙ z))) (λ z o. other (λ a. eqb a 26) (λ c. false) refl) (λ z. refl) (λ z. refl) (λ z. small (λ a. eqb a 26) (λ a. false) refl) ∙ sym e)
      where
        never : eqb (emoji_of (tok i)) 1 ≡ true → is_kinzi text i ≡ true → ⊥
        never e z = let y : ◌≡◌ {A = ℕ} 13 2 = sym (kind_emoji e) ∙ kind_kinzi z in omega (arith, y)

    of_O : eqb (emoji_of (tok i)) 1 ≡ false → eqb k 13 ≡ true → sa i ≡ other_symbol (tok i)
    unfolding myanmar_symbol myanmar_in
    of_O e o = rw (e, o)

    no_emoji : eqb (scalar_of (tok i)) LF ≡ true → eqb (emoji_of (tok i)) 1 ≡ false
    no_emoji e = ap (λ x. eqb x 1) (eqb-true (emoji_of (tok i)) 0 (line_feed e).1)

    symbol_LF : eqb (sa i) 28 ≡ eqb (scalar_of (tok i)) LF
    symbol_LF = by_test (eqb (scalar_of (tok i)) LF)
        (λ e. ap (λ a. eqb a 28) (of_O (no_emoji e) (line_feed e).0) ∙ other_LF)
        (λ e. its_symbol (λ a. eqb a 28 ≡ false) (λ z. refl) (λ z o. other_LF ∙ e) (λ z. refl) (λ z. refl) (λ z. small (λ a. eqb a 28) (λ a. false) refl) ∙ sym e)
      where
        other_LF : eqb (other_symbol (tok i)) 28 ≡ eqb (scalar_of (tok i)) LF
        other_LF = other (λ a. eqb a 28) (λ c. eqb c 1) refl ∙ case_LF (tok i)

    symbol_kinzi : eqb (emoji_of (tok i)) 1 ≡ false → eqb k 13 ≡ false → ltb 31 (sa i) ≡ is_kinzi text i
    unfolding myanmar_symbol myanmar_in
    symbol_kinzi e o = rw (e, o) (by_test (is_kinzi text i)
        (λ z. rw z (if_intro (λ a. ltb 31 a ≡ true) (ends_at mode text i) _ _ (λ w. refl) (λ w. refl)))
        (λ z. rw z (small (λ a. ltb 31 a) (λ a. false) refl)))

    -- a kinzi's first letter is none of the others
    not_kinzi : (x : ℕ) → scalar_of (tok i) ≡ x → member kinzi_firsts x ≡ false → is_kinzi text i ≡ true → ⊥
    unfolding is_kinzi
    not_kinzi x e m z = false≢true (sym (ap (member kinzi_firsts) e ∙ m) ∙ (both_of (member kinzi_firsts (scalar_at text i)) _ z).0)

    symbol_free : (x : ℕ) → scalar_of (tok i) ≡ x → eqb x CR ≡ false → eqb x LF ≡ false → eqb x ZWNJ ≡ false → eqb x ZWJ ≡ false → member kinzi_firsts x ≡ false → fixed (sa i) ≡ false
    symbol_free x e a b c d m = its_symbol (λ s. fixed s ≡ false) (λ z. refl) (λ z o. other fixed (λ c. ltb c 4) refl ∙ case_free (tok i) x e a b c d) (λ z. absurd (not_kinzi x e m z)) (λ z. absurd (not_kinzi x e m z)) (λ z. small fixed (λ a. false) refl)

    symbol_joins : scalar_of (tok i) ≡ ZWNJ → cond (fixed (sa i)) (eqb (sa i) 29) true ≡ true
    symbol_joins e = its_symbol (λ s. cond (fixed s) (eqb s 29) true ≡ true) (λ z. refl) (λ z o. other (λ s. cond (fixed s) (eqb s 29) true) (λ c. cond (ltb c 4) (eqb c 2) true) refl ∙ case_joins (tok i) e) (λ z. absurd (not_kinzi ZWNJ e refl z)) (λ z. absurd (not_kinzi ZWNJ e refl z))
        (λ z. small (λ s. cond (fixed s) (eqb s 29) true) (λ a. true) refl)

    symbol_parts : eqb (scalar_of (tok i)) ZWNJ ≡ false → eqb (sa i) 29 ≡ false
    symbol_parts e = its_symbol (λ s. eqb s 29 ≡ false) (λ z. refl) (λ z o. other (λ s. eqb s 29) (λ c. eqb c 2) refl ∙ case_ZWNJ (tok i) e) (λ z. refl) (λ z. refl) (λ z. small (λ a. eqb a 29) (λ a. false) refl)

    -- the second symbol
    pub class_below : eb i < 6
    class_below = emoji_below (tok i)

    pub pair_symbol : pair i / 6 ≡ sa i
    pair_symbol = let z = class_below in omega arith

    pub pair_class : pair i % 6 ≡ eb i
    pair_class = let z = class_below in omega arith

    pub pair_below : pair i < 204
    pair_below = let z = class_below in let y = symbol_below in omega arith

    -- what the samples say, computed over all pairs
    says : {X : Type 0} (f : ℕ → X) (g : ℕ → ℕ → X) → tabulate f 0 204 ≡ tabulate (λ j. g (j / 6) (j % 6)) 0 204 → f (pair i) ≡ g (sa i) (eb i)
    says f g e = agree f (λ j. g (j / 6) (j % 6)) 204 e (pair i) pair_below ∙ ap (λ a. g a (pair i % 6)) pair_symbol ∙ ap (g (sa i)) pair_class

    sample_kind : kind_of (sample i) ≡ k
    sample_kind = says (λ j. kind_of (sample_at j)) (λ a e. kind_at a) refl ∙ symbol_kind

    pub good_is : (n : ℕ) → answer i (is n) ≡ is n text i
    good_is n = ap (λ x. eqb x n) sample_kind

    good_one : (ks : List ℕ) → answer i (one_of ks) ≡ one_of ks text i
    unfolding one_of
    good_one ks = ap (member ks) sample_kind

    pub good_emoji : answer i is_emoji ≡ is_emoji text i
    good_emoji = says (λ j. eqb (emoji_of (sample_at j)) 1) (λ a e. eqb a 26) refl ∙ symbol_emoji

    good_LF : answer i (is_scalar LF) ≡ is_scalar LF text i
    good_LF = says (λ j. eqb (scalar_of (sample_at j)) LF) (λ a e. eqb a 28) refl ∙ symbol_LF

    good_CR : is_emoji text i ≡ false → is O text i ≡ true → answer i (is_scalar CR) ≡ is_scalar CR text i
    good_CR e o = says (λ j. eqb (scalar_of (sample_at j)) CR) (λ a e. eqb a 27) refl ∙ ap (λ a. eqb a 27) (of_O e o) ∙ other (λ a. eqb a 27) (λ c. eqb c 0) refl ∙ case_CR (tok i)

    pub good_kinzi : is_emoji text i ≡ false → is O text i ≡ false → answer i is_kinzi ≡ is_kinzi text i
    unfolding is_kinzi
    good_kinzi e o = says (λ j. answer_at j is_kinzi) (λ a e. ltb 31 a) refl ∙ symbol_kinzi e o

    good_EX : answer i (is_break EX) ≡ is_break EX text i
    good_EX = says (λ j. eqb (break_of (sample_at j)) EX) (λ a e. member (1 ∷ 2 ∷ 3 ∷ 4 ∷ []) e) refl ∙ emoji_EX (tok i)

    good_ZWJ : answer i (is_break ZWJ-break) ≡ is_break ZWJ-break text i
    good_ZWJ = says (λ j. eqb (break_of (sample_at j)) ZWJ-break) (λ a e. eqb e 5) refl ∙ emoji_ZWJ (tok i)

    selector : (x n : ℕ) → eqb (eb i) n ≡ eqb (scalar_of (tok i)) x → (scalar_of (tok i) ≡ x → fixed (sa i) ≡ false) → cond (fixed (sa i)) false (eqb (eb i) n) ≡ eqb (scalar_of (tok i)) x
    selector x n e f = by_test (eqb (scalar_of (tok i)) x)
        (λ b. ap (λ z. cond z false (eqb (eb i) n)) (f (eqb-true (scalar_of (tok i)) x b)) ∙ e)
        (λ b. ap (cond (fixed (sa i)) false) (e ∙ b) ∙ go (fixed (sa i)) ∙ sym b)
      where
        go : (z : Bool) → cond z false false ≡ false
        go true = refl
        go false = refl

    good_VS16 : is_break EX text i ≡ true → answer i (is_scalar VS16) ≡ is_scalar VS16 text i
    good_VS16 e = says (λ j. eqb (scalar_of (sample_at j)) VS16) (λ a e. cond (fixed a) false (eqb e 4)) refl
        ∙ selector VS16 4 (emoji_VS16 (tok i) e) (λ z. symbol_free VS16 z refl refl refl refl refl)

    good_VS15 : is_break EX text i ≡ true → answer i (is_scalar VS15) ≡ is_scalar VS15 text i
    good_VS15 e = says (λ j. eqb (scalar_of (sample_at j)) VS15) (λ a e. cond (fixed a) false (eqb e 3)) refl
        ∙ selector VS15 3 (emoji_VS15 (tok i) e) (λ z. symbol_free VS15 z refl refl refl refl refl)

    good_ZWNJ : is_break EX text i ≡ true → answer i (is_scalar ZWNJ) ≡ is_scalar ZWNJ text i
    good_ZWNJ e = says (λ j. eqb (scalar_of (sample_at j)) ZWNJ) (λ a e. cond (fixed a) (eqb a 29) (eqb e 2)) refl
        ∙ by_test (eqb (scalar_of (tok i)) ZWNJ)
        (λ b. ap (cond (fixed (sa i)) (eqb (sa i) 29)) (emoji_ZWNJ (tok i) e ∙ b) ∙ symbol_joins (eqb-true (scalar_of (tok i)) ZWNJ b) ∙ sym b)
        (λ b. ap (cond (fixed (sa i)) (eqb (sa i) 29)) (emoji_ZWNJ (tok i) e ∙ b) ∙ ap (λ z. cond (fixed (sa i)) z false) (symbol_parts b) ∙ go (fixed (sa i)) ∙ sym b)
      where
        go : (z : Bool) → cond z false false ≡ false
        go true = refl
        go false = refl

    good_class : is_emoji text i ≡ false → is O text i ≡ true → is_scalar CR text i ≡ false → is_scalar LF text i ≡ false → other_class (tok i) ≡ other_class (sample i)
    good_class e o c l =
        case_class (tok i) c l
        ∙ sym (other class_at class_of refl)
        ∙ ap class_at (sym (of_O e o))
        ∙ sym (says (λ j. cond (inner (j / 6)) (other_class (sample_at j)) Base) (λ a e. class_at a) refl)
        ∙ ap (λ a. cond (inner a) (other_class (sample i)) Base) (pair_symbol ∙ of_O e o)
        ∙ ap (λ b. cond b (other_class (sample i)) Base) (other inner (ltb 1) refl ∙ case_inner (tok i) c l)

    -- the two symbols say the same of the scalar
    one_of_lem : (x : ℕ) → member kinzi_firsts x ≡ true → special x ≡ 0
    unfolding special
    one_of_lem x m = by_test (eqb x 0x1004) (λ e. ap special (eqb-true x 0x1004 e))
        (λ e. by_test (eqb x 0x101B) (λ f. ap special (eqb-true x 0x101B f))
        (λ f. by_test (eqb x 0x105A) (λ g. ap special (eqb-true x 0x105A g)) (λ g. absurd (false≢true (sym (rw (e, f, g) refl) ∙ m)))))

    kinzi_special : is_kinzi text i ≡ true → special (scalar_of (tok i)) ≡ 0
    unfolding is_kinzi
    kinzi_special z = one_of_lem (scalar_of (tok i)) (both_of (member kinzi_firsts (scalar_at text i)) _ z).0

    pub pair_feasible : feasible (sa i) (eb i) ≡ true
    pair_feasible = its_symbol (λ a. feasible a (eb i) ≡ true) (λ z. refl) (λ z o. ap (λ p. p (eb i)) (other feasible feasible_in refl) ∙ case_feasible (tok i)) (λ z. emoji_fits (tok i) (feasible 33) 0 refl refl refl (kinzi_special z)) (λ z. emoji_fits (tok i) (feasible 32) 0 refl refl refl (kinzi_special z)) (λ z. small (λ a. feasible a (eb i)) (λ a. true) refl)

  -- the grammar

  fine_many : (P : ℕ → Type 0) (n : ℕ) (c : Shape) → Fine text answer sample P (many_as n c)
  unfolding Fine
  fine_many P n c = (λ i h. good_is i h n, (refl, λ i h. refl))

  module _ (P : ℕ → Type 0) (into : (i : ℕ) → P i → Inside text i) where
    fine_accept : (n : ℕ) (c : Shape) → Fine text answer sample P (accept_as n c)
    unfolding Fine
    fine_accept n c = (λ i h. good_is i (into i h) n, (λ i h. refl, tt))

  fine_emojis : (P : ℕ → Type 0) → Fine text answer sample P emojis
  fine_emojis = emojis-fine text answer sample good_emoji good_EX good_ZWJ good_ZWNJ good_VS15 good_VS16

  abbrev In : (i : ℕ) → Inside text i → Inside text i
  In i h = h

  module _ (P : ℕ → Type 0) (into : (i : ℕ) → P i → Inside text i) where
    fine_with : (n : ℕ) → Fine text answer sample P (accept_with_as n)
    unfolding Fine accept_with_as
    fine_with n = (λ i h. good_is i (into i h) n, ((λ i h. refl, fine_accept _ In As Other), tt))

  fine_stacked : (P : ℕ → Type 0) → Fine text answer sample P stacked
  unfolding Fine stacked
  fine_stacked P = (λ i h. refl, (λ i h. good_one i h (C ∷ IV ∷ []), ((λ i h. refl, fine_accept _ In VS Vs), tt)))

  fine_post : (P : ℕ → Type 0) → Fine text answer sample P post_base_vowel
  unfolding Fine post_base_vowel accept_with_as
  fine_post P = (λ i h. refl, (fine_accept _ In MH Other, (fine_many (Inside text) As Other, (fine_many (Inside text) VAbv Other, (fine_many (Inside text) A Anusvara, fine_with _ In DB)))))

  fine_pwo : (P : ℕ → Type 0) → Fine text answer sample P pwo_tone_mark
  unfolding Fine pwo_tone_mark
  fine_pwo P = (λ i h. refl, (λ i h. good_is i h As, ((λ i h. refl, fine_accept _ In A Anusvara), (fine_many (Inside text) A Anusvara, (fine_accept _ In DB Other, fine_accept _ In As Other)))))

  fine_medials : Fine text answer sample (Inside text) medials
  unfolding Fine medials accept_with_as
  fine_medials = (
    fine_many (Inside text) As Other,
    (
      fine_with _ In MY,
      (
        fine_accept _ In MR MedialRa,
        (λ i h. good_is i h MW, ((λ i h. refl, (fine_accept _ In MH Other, fine_accept _ In As Other)), fine_with _ (λ i h. h.0) MH)),
      ),
    ),
  )

  fine_vowels : Fine text answer sample (Inside text) vowels
  unfolding Fine vowels accept_with_as
  fine_vowels = (fine_many (Inside text) VPre VPre-shape, (fine_many (Inside text) VAbv Other, (fine_many (Inside text) VBlw VBlw-shape, (fine_many (Inside text) A Anusvara, fine_with _ In DB))))

  fine_finals : Fine text answer sample (Inside text) finals
  unfolding Fine finals post_base_vowel pwo_tone_mark
  fine_finals = ((λ i h. good_is i h VPst, (refl, fine_post _)), ((λ i h. good_is i h PT, (refl, fine_pwo _)), (fine_many (Inside text) «V» Other, fine_accept _ In J Other)))

  fine_base : (P : ℕ → Type 0) → Fine text answer sample P base
  unfolding Fine base stacked medials vowels finals
  fine_base P = (λ i h. refl, (fine_accept _ In VS Vs, ((λ i h. good_is i h H, (refl, fine_stacked _)), (fine_medials, (fine_vowels, fine_finals)))))

  pub fine_myanmar : Fine text answer sample (Inside text) cluster
  unfolding Fine cluster is_alone kinzi syllable other_arm newline
  fine_myanmar = (
    λ i h. good_emoji i h,
    (
      fine_emojis _,
      (
        λ i h. good_is i h.0 O,
        (
          (
            λ i h. good_CR i h.0.0 h.0.1 h.1,
            (
              ((tt, λ i h. refl), (λ i h. good_LF i h, (λ i h. refl, tt))),
              (λ i h. good_LF i h.0.0.0, ((tt, λ i h. refl), (tt, λ i h. good_class i h.0.0.0.0 h.0.0.0.1 h.0.0.1 h.0.1 h.1))),
            ),
          ),
          (
            λ i h. good_one i h.0.0 (P ∷ S ∷ R ∷ WJ ∷ D0 ∷ []),
            (
              λ i h. refl,
              (
                (λ i h. good_kinzi i h.0.0.0 h.0.0.1 h.0.1, (tt, tt)),
                (λ i h. good_one i h (C ∷ IV ∷ D ∷ DB ∷ []), (fine_base _, (tt, λ i h. refl))),
              ),
            ),
          ),
        ),
      ),
    ),
  )
