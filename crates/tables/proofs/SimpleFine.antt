-- The symbol of a token answers every test of the simple grammar. Assumes nothing.
use Prim.Native.Nat.{ℕ, ◌+◌, ◌*◌, ◌/◌, ◌%◌, ◌<◌}
use mathlib.Core.Path.{◌≡◌, refl, sym, ◌∙◌, ap}
use mathlib.Core.Bool.{Bool, true, cond}
use mathlib.Core.List.{List, [], ◌∷◌}
use native.Mathlib.Omega.{arith}
use lib.Dec.{eqb, ltb}
use borrow.Author.Tests.{ltb-true, eqb-true}
use Rattle.basics.proofs.Tests.{both_of}
use Rattle.basics.specs.Sets.{member}
use Rattle.classes.specs.ClusterBreak.{CN, CR, LF, L, «V», T, LV, LVT, RI, EX, SM, ZWJ, PP}
use Rattle.classes.specs.Scalar.{ZWNJ, VS15, VS16}
use Rattle.token.specs.Token.{scalar_of, kind_of, break_of, emoji_of, selector_of}
use Rattle.parse.specs.State.{token_at}
use Rattle.parse.specs.Rule.{Test, is, is_break, is_scalar, is_emoji, is_selector, one_of}
use Rattle.parse.specs.Shared.{emojis, newline, newline_with}
use Rattle.simple.specs.Grammar.{cluster, start, control, syllable, leading, vowel, trailing, other, is_extension, extension, extend, combining}
use Rattle.tables.specs.Symbols.{special, simple_in, simple_symbol, simple_regular, Regular}
use Rattle.records.specs.declared.Parser.TheVariants.{Simple}
use Rattle.residual.proofs.Residual.{Inside, Fine}
use Rattle.tables.proofs.Cells.{agree, tabulate}
use Rattle.tables.proofs.EmojiFine.{special_below, special_ZWNJ, special_VS15, special_VS16, fine_emojis as emojis-fine}
use Rattle.tables.proofs.SimpleRules.{sample_at, answer_at}

-- what a token is asked, as one number below 224, and the symbol of each
abbrev feature : ℕ → ℕ
feature t = kind_of t + 14 * (emoji_of t + 2 * (selector_of t + 2 * special (scalar_of t)))

abbrev symbol_at : ℕ → ℕ
symbol_at f = simple_in (f % 14) (f / 14 % 2) (f / 28)

module _ (k e s x : ℕ) (hk : k < 14) (he : e < 2) (hs : s < 2) where
  digit_kind : (k + 14 * (e + 2 * (s + 2 * x))) % 14 ≡ k
  digit_kind = omega arith

  digit_emoji : (k + 14 * (e + 2 * (s + 2 * x))) / 14 % 2 ≡ e
  digit_emoji = let z : (k + 14 * (e + 2 * (s + 2 * x))) / 14 ≡ e + 2 * (s + 2 * x) = omega arith in omega arith

  digit_rare : (k + 14 * (e + 2 * (s + 2 * x))) / 28 ≡ s + 2 * x
  digit_rare = omega arith

  digit_selector : (k + 14 * (e + 2 * (s + 2 * x))) / 28 % 2 ≡ s
  digit_selector = let z = digit_rare in omega arith

  digit_special : (k + 14 * (e + 2 * (s + 2 * x))) / 56 ≡ x
  digit_special = omega arith

bit : (n : ℕ) → n % 2 < 2
bit n = omega arith

module _ (t : ℕ) (h : kind_of t < 14) where
  feature_below : feature t < 224
  feature_below = let c = special_below (scalar_of t) in omega arith

  its_kind : feature t % 14 ≡ kind_of t
  its_kind = digit_kind (kind_of t) (emoji_of t) (selector_of t) (special (scalar_of t)) h (bit _) (bit _)

  its_emoji : feature t / 14 % 2 ≡ emoji_of t
  its_emoji = digit_emoji (kind_of t) (emoji_of t) (selector_of t) (special (scalar_of t)) h (bit _) (bit _)

  its_rare : feature t / 28 ≡ selector_of t + 2 * special (scalar_of t)
  its_rare = digit_rare (kind_of t) (emoji_of t) (selector_of t) (special (scalar_of t)) h (bit _) (bit _)

  its_selector : feature t / 28 % 2 ≡ selector_of t
  its_selector = digit_selector (kind_of t) (emoji_of t) (selector_of t) (special (scalar_of t)) h (bit _) (bit _)

  its_special : feature t / 56 ≡ special (scalar_of t)
  its_special = digit_special (kind_of t) (emoji_of t) (selector_of t) (special (scalar_of t)) h (bit _) (bit _)

  its_symbol : simple_symbol t ≡ symbol_at (feature t)
  unfolding simple_symbol
  its_symbol = sym (ap (λ k. simple_in k (feature t / 14 % 2) (feature t / 28)) its_kind ∙ ap (λ e. simple_in (kind_of t) e (feature t / 28)) its_emoji ∙ ap (simple_in (kind_of t) (emoji_of t)) its_rare)

module _ (text : List ℕ) (regular : Regular Simple text) where
  abbrev tok : ℕ → ℕ
  tok i = token_at text i

  abbrev pub answer : ℕ → Test → Bool
  answer i p = answer_at (simple_symbol (tok i)) p

  abbrev pub sample : ℕ → ℕ
  sample i = sample_at (simple_symbol (tok i))

  kind_below : (i : ℕ) → Inside text i → kind_of (tok i) < 14
  unfolding simple_regular
  kind_below i h = ltb-true (kind_of (tok i)) 14 (both_of (ltb (kind_of (tok i)) 14) _ (regular i h)).0

  kind_break : (i : ℕ) → Inside text i → kind_of (tok i) ≡ break_of (tok i)
  unfolding simple_regular
  kind_break i h = eqb-true (kind_of (tok i)) (break_of (tok i)) (both_of (ltb (kind_of (tok i)) 14) _ (regular i h)).1

  -- a number that the sample says is one that the feature says, computed over all of them
  says : {A : Type 0} (f g : ℕ → A) → tabulate (λ n. f (sample_at (symbol_at n))) 0 224 ≡ tabulate g 0 224 → (i : ℕ) → Inside text i → f (sample i) ≡ g (feature (tok i))
  says f g e i h = ap (λ j. f (sample_at j)) (its_symbol (tok i) (kind_below i h)) ∙ agree (λ n. f (sample_at (symbol_at n))) g 224 e (feature (tok i)) (feature_below (tok i) (kind_below i h))

  pub symbol_below : (i : ℕ) → Inside text i → simple_symbol (tok i) < 42
  unfolding simple_in
  symbol_below i h = ltb-true (simple_symbol (tok i)) 42 (ap (λ j. ltb j 42) (its_symbol (tok i) (kind_below i h)) ∙ agree (λ n. ltb (symbol_at n) 42) (λ n. true) 224 refl (feature (tok i)) (feature_below (tok i) (kind_below i h)))

  sample_kind : (i : ℕ) → Inside text i → kind_of (sample i) ≡ kind_of (tok i)
  unfolding simple_in
  sample_kind i h = says kind_of (λ n. n % 14) refl i h ∙ its_kind (tok i) (kind_below i h)

  sample_break : (i : ℕ) → Inside text i → break_of (sample i) ≡ break_of (tok i)
  unfolding simple_in
  sample_break i h = says break_of (λ n. n % 14) refl i h ∙ its_kind (tok i) (kind_below i h) ∙ kind_break i h

  pub good_is : (k : ℕ) (i : ℕ) → Inside text i → answer i (is k) ≡ is k text i
  good_is k i h = ap (λ x. eqb x k) (sample_kind i h)

  good_one : (ks : List ℕ) (i : ℕ) → Inside text i → answer i (one_of ks) ≡ one_of ks text i
  unfolding one_of
  good_one ks i h = ap (member ks) (sample_kind i h)

  good_break : (k : ℕ) (i : ℕ) → Inside text i → answer i (is_break k) ≡ is_break k text i
  good_break k i h = ap (λ x. eqb x k) (sample_break i h)

  pub good_emoji : (i : ℕ) → Inside text i → answer i is_emoji ≡ is_emoji text i
  unfolding simple_in
  good_emoji i h = ap (λ x. eqb x 1) (says emoji_of (λ n. n / 14 % 2) refl i h ∙ its_emoji (tok i) (kind_below i h))

  -- the rare ones, where the kind is EX
  at_EX : (f g : ℕ → Bool) → tabulate (λ n. cond (eqb (n % 14) EX) (f (sample_at (symbol_at n))) (g n)) 0 224 ≡ tabulate g 0 224 → (i : ℕ) → Inside text i → is EX text i ≡ true → f (sample i) ≡ g (feature (tok i))
  at_EX f g e i h k =
      let z : eqb (feature (tok i) % 14) EX ≡ true = ap (λ x. eqb x EX) (its_kind (tok i) (kind_below i h)) ∙ k in
      ap (λ j. f (sample_at j)) (its_symbol (tok i) (kind_below i h))
      ∙ ap (λ b. cond b (f (sample_at (symbol_at (feature (tok i))))) (g (feature (tok i)))) (sym z)
      ∙ agree (λ n. cond (eqb (n % 14) EX) (f (sample_at (symbol_at n))) (g n)) g 224 e (feature (tok i)) (feature_below (tok i) (kind_below i h))

  good_selector : (i : ℕ) → Inside text i → is EX text i ≡ true → answer i is_selector ≡ is_selector text i
  unfolding simple_in
  good_selector i h k = at_EX (λ t. eqb (selector_of t) 1) (λ n. eqb (n / 28 % 2) 1) refl i h k ∙ ap (λ x. eqb x 1) (its_selector (tok i) (kind_below i h))

  good_ZWNJ : (i : ℕ) → Inside text i → is EX text i ≡ true → answer i (is_scalar ZWNJ) ≡ is_scalar ZWNJ text i
  unfolding simple_in
  good_ZWNJ i h k = at_EX (λ t. eqb (scalar_of t) ZWNJ) (λ n. eqb (n / 56) 1) refl i h k ∙ ap (λ x. eqb x 1) (its_special (tok i) (kind_below i h)) ∙ special_ZWNJ (scalar_of (tok i))

  good_VS15 : (i : ℕ) → Inside text i → is EX text i ≡ true → answer i (is_scalar VS15) ≡ is_scalar VS15 text i
  unfolding simple_in
  good_VS15 i h k = at_EX (λ t. eqb (scalar_of t) VS15) (λ n. eqb (n / 56) 2) refl i h k ∙ ap (λ x. eqb x 2) (its_special (tok i) (kind_below i h)) ∙ special_VS15 (scalar_of (tok i))

  good_VS16 : (i : ℕ) → Inside text i → is EX text i ≡ true → answer i (is_scalar VS16) ≡ is_scalar VS16 text i
  unfolding simple_in
  good_VS16 i h k = at_EX (λ t. eqb (scalar_of t) VS16) (λ n. eqb (n / 56) 3) refl i h k ∙ ap (λ x. eqb x 3) (its_special (tok i) (kind_below i h)) ∙ special_VS16 (scalar_of (tok i))

  break_EX : (i : ℕ) → Inside text i → is_break EX text i ≡ true → is EX text i ≡ true
  break_EX i h e = ap (λ x. eqb x EX) (kind_break i h) ∙ e

  fine_emojis : (P : ℕ → Type 0) → Fine text answer sample P emojis
  fine_emojis = emojis-fine text answer sample good_emoji (good_break EX) (good_break ZWJ) (λ i h e. good_ZWNJ i h (break_EX i h e)) (λ i h e. good_VS15 i h (break_EX i h e)) (λ i h e. good_VS16 i h (break_EX i h e))

  module _ (P : ℕ → Type 0) (into : (i : ℕ) → P i → Inside text i) where
    fine_extension : Fine text answer sample P extension
    unfolding Fine extension extend combining
    fine_extension = (
      λ i h. good_is EX i (into i h),
      (
        (λ i h. good_ZWNJ i (into i h.0) h.1, (λ i h. refl, (λ i h. good_selector i (into i h.0.0) h.0.1, (λ i h. refl, (tt, λ i h. refl))))),
        (λ i h. good_is SM i (into i h.0), ((tt, λ i h. refl), λ i h. refl)),
      ),
    )

    fine_other : Fine text answer sample P other
    unfolding Fine other is_extension
    fine_other = (
      λ i h. good_is RI i (into i h),
      (
        (λ i h. good_is RI i (into i h.0), (λ i h. refl, tt)),
        (λ i h. good_one (EX ∷ SM ∷ ZWJ ∷ []) i (into i h.0), (tt, (tt, λ i h. refl))),
      ),
    )

  module _ (P : ℕ → Type 0) (into : (i : ℕ) → P i → Inside text i) where
    fine_syllable : Fine text answer sample P syllable
    unfolding Fine syllable leading vowel trailing
    fine_syllable = (
      λ i h. good_is L i (into i h),
      (
        (λ i h. refl, (λ i h. good_one (L ∷ «V» ∷ LV ∷ LVT ∷ []) i h, (λ i h. refl, tt))),
        (
          λ i h. good_one (LV ∷ «V» ∷ []) i (into i h.0),
          (
            (λ i h. refl, (λ i h. good_one («V» ∷ T ∷ []) i h, (λ i h. refl, tt))),
            (
              λ i h. good_one (LVT ∷ T ∷ []) i (into i h.0.0),
              (
                (λ i h. refl, (λ i h. good_is T i h, (λ i h. refl, tt))),
                fine_other _ (λ i h. into i h.0.0.0),
              ),
            ),
          ),
        ),
      ),
    )

  module _ (P : ℕ → Type 0) (into : (i : ℕ) → P i → Inside text i) where
    fine_control : Fine text answer sample P control
    unfolding Fine control newline newline_with
    fine_control = (
      λ i h. good_is CN i (into i h),
      (
        λ i h. refl,
        (
          λ i h. good_is LF i (into i h.0),
          (
            (tt, λ i h. refl),
            (
              λ i h. good_is CR i (into i h.0.0),
              (
                (λ i h. refl, (λ i h. good_is LF i h, (λ i h. refl, tt))),
                fine_syllable _ (λ i h. into i h.0.0.0),
              ),
            ),
          ),
        ),
      ),
    )

  pub fine_simple : Fine text answer sample (Inside text) cluster
  unfolding Fine cluster start is_extension extension extend combining
  fine_simple = ((λ i h. good_is PP i h, (refl, λ i h. refl)), ((λ i h. good_emoji i h, (fine_emojis _, fine_control _ (λ i h. h.0))), (λ i h. good_one (EX ∷ SM ∷ ZWJ ∷ []) i h, (refl, fine_extension _ (λ i h. h.0)))))
