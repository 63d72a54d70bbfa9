-- The row behind prepended characters: its rule is calm where CR and LF find room. Assumes nothing.
use Prim.Native.Nat.{ℕ}
use mathlib.Core.Path.{◌≡◌, refl}
use mathlib.Core.Bool.{Bool, true, false}
use mathlib.Core.List.{List}
use Rattle.classes.specs.ClusterBreak.{CR, LF}
use Rattle.parse.specs.declared.Parse.{Parse}
use Rattle.parse.specs.Rule.{Test, while, crowded, is, next_is, is_emoji}
use Rattle.parse.specs.Shared.{emojis, emoji_turn, emoji_extension, emoji_mark, newline, newline_with}
use Rattle.simple.specs.Grammar.{cluster, start, control, syllable, leading, vowel, trailing, other, is_extension, extension, extend, combining}
use Rattle.residual.proofs.Residual.{Calm, spare, calm_free}

emojis_spare : spare false emojis ≡ true
unfolding emojis emoji_turn emoji_extension emoji_mark
emojis_spare = refl

syllable_spare : spare false syllable ≡ true
unfolding syllable leading vowel trailing other
syllable_spare = refl

extensions_spare : spare false (while is_extension extension) ≡ true
unfolding extension extend combining
extensions_spare = refl

pub calm_simple : (text : List ℕ) (ask : Test → Bool) (s : Parse) → (ask is_emoji ≡ false → ask (is CR) ≡ true → crowded text (next_is LF) s ≡ false) → Calm text ask s cluster
unfolding Calm cluster start control newline newline_with
calm_simple text ask s roomy = (
  tt,
  (
    (
      λ e. calm_free text ask s emojis emojis_spare,
      λ e. (
        λ a. tt,
        λ a. (
          λ b. (tt, tt),
          λ b. (λ c. (roomy e c, (λ d. tt, λ d. tt)), λ c. calm_free text ask s syllable syllable_spare),
        ),
      ),
    ),
    calm_free text ask s (while is_extension extension) extensions_spare,
  ),
)
