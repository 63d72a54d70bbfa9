-- What an emoji's extension asks of a token: its tests, and the second symbol that answers them in Myanmar, complex and Khmer. Assumes nothing.
use Prim.Native.Nat.{ℕ, ◌+◌, ◌<◌}
use mathlib.Core.Path.{◌≡◌, refl, sym, ◌∙◌, ap}
use mathlib.Core.Bool.{Bool, true, false, cond}
use mathlib.Core.List.{List, [], ◌∷◌}
use native.Mathlib.Omega.{arith}
use lib.Dec.{eqb}
use borrow.Author.Tests.{eqb-true}
use Rattle.basics.proofs.Tests.{if_intro, by_test}
use Rattle.basics.specs.Sets.{member}
use Rattle.classes.specs.ClusterBreak.{EX, ZWJ}
use Rattle.classes.specs.Scalar.{ZWNJ, VS15, VS16}
use Rattle.token.specs.Token.{scalar_of, break_of}
use Rattle.parse.specs.Rule.{Test, is_break, is_scalar, is_emoji}
use Rattle.parse.specs.Shared.{emojis, emoji_turn, emoji_extension, emoji_mark}
use Rattle.tables.specs.Symbols.{special, emoji_symbol}
use Rattle.residual.proofs.Residual.{Inside, Fine}
use Rattle.tables.proofs.Cells.{agree, tabulate}

-- the scalars that are looked at

pub special_below : (x : ℕ) → special x < 4
unfolding special
special_below x = go (eqb x ZWNJ) (eqb x VS15) (eqb x VS16)
  where
    go : (a b c : Bool) → cond a 1 (cond b 2 (cond c 3 0)) < 4
    go true b c = omega arith
    go false true c = omega arith
    go false false true = omega arith
    go false false false = omega arith

pub special_ZWNJ : (x : ℕ) → eqb (special x) 1 ≡ eqb x ZWNJ
unfolding special
special_ZWNJ x = go (eqb x ZWNJ) (eqb x VS15) (eqb x VS16)
  where
    go : (a b c : Bool) → eqb (cond a 1 (cond b 2 (cond c 3 0))) 1 ≡ a
    go true b c = refl
    go false true c = refl
    go false false true = refl
    go false false false = refl

pub special_VS15 : (x : ℕ) → eqb (special x) 2 ≡ eqb x VS15
unfolding special
special_VS15 x = by_test (eqb x ZWNJ) (λ e. rw e (sym (ap (λ y. eqb y VS15) (eqb-true x ZWNJ e)))) (λ e. rw e (go (eqb x VS15) (eqb x VS16)))
  where
    go : (b c : Bool) → eqb (cond b 2 (cond c 3 0)) 2 ≡ b
    go true c = refl
    go false true = refl
    go false false = refl

pub special_VS16 : (x : ℕ) → eqb (special x) 3 ≡ eqb x VS16
unfolding special
special_VS16 x = by_test (eqb x ZWNJ) (λ e. rw e (sym (ap (λ y. eqb y VS16) (eqb-true x ZWNJ e))))
    (λ e. rw e (by_test (eqb x VS15) (λ f. rw f (sym (ap (λ y. eqb y VS16) (eqb-true x VS15 f)))) (λ f. rw f (go (eqb x VS16)))))
  where
    go : (c : Bool) → eqb (cond c 3 0) 3 ≡ c
    go true = refl
    go false = refl

-- the second symbol

module _ (t : ℕ) where
  pub emoji_below : emoji_symbol t < 6
  unfolding emoji_symbol
  emoji_below = if_intro (λ e. e < 6) (eqb (break_of t) EX) _ _ (λ e. let z = special_below (scalar_of t) in omega arith)
      (λ e. if_intro (λ e. e < 6) (eqb (break_of t) ZWJ) _ _ (λ e. omega arith) (λ e. omega arith))

  pub emoji_EX : member (1 ∷ 2 ∷ 3 ∷ 4 ∷ []) (emoji_symbol t) ≡ eqb (break_of t) EX
  unfolding emoji_symbol
  emoji_EX = by_test (eqb (break_of t) EX)
      (λ e. rw e (agree (λ s. member (1 ∷ 2 ∷ 3 ∷ 4 ∷ []) (1 + s)) (λ s. true) 4 refl (special (scalar_of t)) (special_below (scalar_of t))))
      (λ e. rw e (if_intro (λ z. member (1 ∷ 2 ∷ 3 ∷ 4 ∷ []) z ≡ false) (eqb (break_of t) ZWJ) _ _ (λ e. refl) (λ e. refl)))

  pub emoji_ZWJ : eqb (emoji_symbol t) 5 ≡ eqb (break_of t) ZWJ
  unfolding emoji_symbol
  emoji_ZWJ = by_test (eqb (break_of t) EX)
      (λ e. rw e (agree (λ s. eqb (1 + s) 5) (λ s. false) 4 refl (special (scalar_of t)) (special_below (scalar_of t)) ∙ sym (ap (λ b. eqb b ZWJ) (eqb-true (break_of t) EX e))))
      (λ e. rw e (by_test (eqb (break_of t) ZWJ) (λ z. rw z refl) (λ z. rw z refl)))

  -- of one that extends, the scalars that are looked at
  module _ (e : eqb (break_of t) EX ≡ true) where
    extends : (n : ℕ) (g : ℕ → Bool) → tabulate (λ s. eqb (1 + s) n) 0 4 ≡ tabulate g 0 4 → eqb (emoji_symbol t) n ≡ g (special (scalar_of t))
    unfolding emoji_symbol
    extends n g f = rw e (agree (λ s. eqb (1 + s) n) g 4 f (special (scalar_of t)) (special_below (scalar_of t)))

    pub emoji_ZWNJ : eqb (emoji_symbol t) 2 ≡ eqb (scalar_of t) ZWNJ
    emoji_ZWNJ = extends 2 (λ s. eqb s 1) refl ∙ special_ZWNJ (scalar_of t)

    pub emoji_VS15 : eqb (emoji_symbol t) 3 ≡ eqb (scalar_of t) VS15
    emoji_VS15 = extends 3 (λ s. eqb s 2) refl ∙ special_VS15 (scalar_of t)

    pub emoji_VS16 : eqb (emoji_symbol t) 4 ≡ eqb (scalar_of t) VS16
    emoji_VS16 = extends 4 (λ s. eqb s 3) refl ∙ special_VS16 (scalar_of t)

  -- what holds of each that a token can have whose scalar is known
  pub emoji_fits : (p : ℕ → Bool) (s : ℕ) → p (1 + s) ≡ true → p 5 ≡ true → p 0 ≡ true → special (scalar_of t) ≡ s → p (emoji_symbol t) ≡ true
  unfolding emoji_symbol
  emoji_fits p s x y z e = if_intro (λ n. p n ≡ true) (eqb (break_of t) EX) _ _ (λ h. ap (λ n. p (1 + n)) e ∙ x) (λ h. if_intro (λ n. p n ≡ true) (eqb (break_of t) ZWJ) _ _ (λ h. y) (λ h. z))

-- the rule, where what answers its tests answers as the token

module _ (text : List ℕ) (answer : ℕ → Test → Bool) (sample : ℕ → ℕ)
    (at-emoji : (i : ℕ) → Inside text i → answer i is_emoji ≡ is_emoji text i)
    (at_EX : (i : ℕ) → Inside text i → answer i (is_break EX) ≡ is_break EX text i)
    (at-ZWJ : (i : ℕ) → Inside text i → answer i (is_break ZWJ) ≡ is_break ZWJ text i)
    (at-ZWNJ : (i : ℕ) → Inside text i → is_break EX text i ≡ true → answer i (is_scalar ZWNJ) ≡ is_scalar ZWNJ text i)
    (at-VS15 : (i : ℕ) → Inside text i → is_break EX text i ≡ true → answer i (is_scalar VS15) ≡ is_scalar VS15 text i)
    (at-VS16 : (i : ℕ) → Inside text i → is_break EX text i ≡ true → answer i (is_scalar VS16) ≡ is_scalar VS16 text i) where
  pub fine_emojis : (P : ℕ → Type 0) → Fine text answer sample P emojis
  unfolding Fine emojis emoji_turn emoji_extension emoji_mark
  fine_emojis P = (
    tt,
    (
      λ i h. at-emoji i h,
      (
        refl,
        (
          λ i h. refl,
          (
            (
              λ i h. at_EX i h,
              (
                refl,
                (
                  λ i h. at-ZWNJ i h.0 h.1,
                  (
                    λ i h. refl,
                    (λ i h. at-VS16 i h.0.0 h.0.1, ((tt, tt), (λ i h. at-VS15 i h.0.0.0 h.0.0.1, ((tt, tt), λ i h. refl)))),
                  ),
                ),
              ),
            ),
            (λ i h. at-ZWJ i h, (λ i h. refl, tt)),
          ),
        ),
      ),
    ),
  )
