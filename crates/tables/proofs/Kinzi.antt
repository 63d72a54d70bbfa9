-- A kinzi that does not end the text: in crate mode too it is three pushes and no more. Assumes nothing.
use Prim.Native.Nat.{ℕ, ◌+◌, ◌<◌}
use mathlib.Core.Path.{◌≡◌, refl, ◌∙◌, ap, subst}
use mathlib.Core.Bool.{Bool, true, false}
use mathlib.Core.List.{List}
use native.Mathlib.Omega.{arith}
use lib.Dec.{eqb}
use lib.ListN.{length}
use Rattle.classes.specs.Scalar.{CGJ}
use Rattle.classes.specs.declared.Mode.{Mode}
use Rattle.classes.specs.declared.Shape.{Shape}
use Rattle.token.specs.Token.{scalar_of}
use Rattle.parse.specs.declared.Parse.{Parse}
use Rattle.parse.specs.State.{token_at, begin, going, with_place, retried_of}
use Rattle.parse.specs.Rule.{take_of, thrice_of}
use Rattle.myanmar.specs.Grammar.{is_kinzi}
use Rattle.myanmar.proofs.Kinzi.{kinzi_second}
use Rattle.parse.proofs.Steps.{plus, take_next, retried_going}
use Rattle.residual.proofs.Residual.{Marks, marked}

module _ (text : List ℕ) where
  -- three tokens, none of which is U+034F, and one more that is not
  thrice_going : (c : Shape) (s : Parse) → going s ≡ true → s.len ≡ 0 → s.at + 3 < length text
      → eqb (scalar_of (token_at text (s.at + 1))) CGJ ≡ false → eqb (scalar_of (token_at text (s.at + 2))) CGJ ≡ false → eqb (scalar_of (token_at text (s.at + 3))) CGJ ≡ false
      → going (thrice_of text c s) ≡ true
  unfolding thrice_of
  thrice_going c s g z h a b d =
      let s₁ : Parse = with_place (s.at + 1) (plus (token_at text s.at) c s) in
      let s₂ : Parse = with_place (s₁.at + 1) (plus (token_at text s₁.at) c s₁) in
      let s₃ : Parse = with_place (s₂.at + 1) (plus (token_at text s₂.at) c s₂) in
      let n₂ : s.at + 2 ≡ s₁.at + 1 = omega arith in
      let n₃ : s.at + 3 ≡ s₂.at + 1 = omega arith in
      let e₁ : take_of text c s ≡ s₁ = take_next text c s g (omega arith) (omega arith) a in
      let e₂ : take_of text c s₁ ≡ s₂ = take_next text c s₁ g (omega arith) (omega arith) (subst (λ i. eqb (scalar_of (token_at text i)) CGJ ≡ false) n₂ b) in
      let e₃ : take_of text c s₂ ≡ s₃ = take_next text c s₂ g (omega arith) (omega arith) (subst (λ i. eqb (scalar_of (token_at text i)) CGJ ≡ false) n₃ d) in
      ap going (ap (λ q. take_of text c (take_of text c q)) e₁ ∙ ap (take_of text c) e₂ ∙ e₃) ∙ g

  -- a kinzi at the start of a call, with a token behind it that is no U+034F
  pub kinzi_calm : (i : ℕ) (mode : Mode) (j : Bool) (c : Shape) → is_kinzi text i ≡ true → i + 3 < length text → eqb (scalar_of (token_at text (i + 3))) CGJ ≡ false
      → (m : Marks) → retried_of (thrice_of text c (marked text m (begin (record { at = i }) mode j))) ≡ thrice_of text c (marked text m (begin (record { at = i }) mode j))
  kinzi_calm i mode j c k h e m = let z = kinzi_second text i k in
      retried_going _ (thrice_going c (marked text m (begin (record { at = i }) mode j)) refl refl h
      (ap (λ x. eqb x CGJ) z.0) (ap (λ x. eqb x CGJ) z.1) e)
