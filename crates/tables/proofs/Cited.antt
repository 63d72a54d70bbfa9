-- What the functions of the symbols cite. Assumes nothing.
use Prim.Native.Nat.{ℕ, ◌+◌, ◌*◌}
use mathlib.Core.Path.{◌≡◌, refl, ◌∙◌, ap}
use lib.Dec.{eqb}
use borrow.Author.Tests.{ne_eqb}
use Rattle.basics.proofs.Tests.{by_test}
use Rattle.token.specs.Token.{scalar_of, kind_of, emoji_of, selector_of}
use Rattle.tables.specs.Symbols.{special, simple_in, simple_symbol}

-- with EX what is rare is looked at
pub rare_made : (t k e v x sc r : ℕ) → k ≡ kind_of t → e ≡ emoji_of t → sc ≡ scalar_of t → x ≡ special sc → v ≡ selector_of t → r ≡ simple_in k e (v + 2 * x) → r ≡ simple_symbol t
unfolding simple_symbol
rare_made t k e v x sc r ek ee es ex ev er =
    er ∙ ap (λ k. simple_in k e (v + 2 * x)) ek ∙ ap (λ e. simple_in (kind_of t) e (v + 2 * x)) ee
    ∙ ap (λ v. simple_in (kind_of t) (emoji_of t) (v + 2 * x)) ev ∙ ap (λ x. simple_in (kind_of t) (emoji_of t) (selector_of t + 2 * x)) (ex ∙ ap special es)

-- and without it is not
pub plain_made : (t k e : ℕ) → k ≡ kind_of t → e ≡ emoji_of t → (k ≡ 10 → ⊥) → k + 14 * e ≡ simple_symbol t
unfolding simple_symbol simple_in
plain_made t k e ek ee n =
    ap (λ k. k + 14 * e) ek ∙ ap (λ e. kind_of t + 14 * e) ee
    ∙ by_test (eqb (selector_of t + 2 * special (scalar_of t)) 0) (λ z. rw z refl) (λ z. rw (z, ne_eqb (kind_of t) 10 (λ y. n (ek ∙ y))) refl)
