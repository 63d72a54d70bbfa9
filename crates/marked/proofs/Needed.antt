-- Refusal 6 is needed (SCOPE 6.6): the texts on which, without it, going on behind the first CMAbv or CMBlw run would push more
-- (complex: `needed`) are texts that it refuses. The checker computes both sides.
-- Assumes nothing.
use Rattle.std.specs.Prelude.{Err}
use Prim.Native.Nat.{ℕ}
use mathlib.Core.Path.{◌≡◌, refl}
use mathlib.Core.List.{[], ◌∷◌, map}
use Rattle.classes.specs.declared.Mode.TheVariants.{Crate}
use Rattle.classes.specs.Scalar.{CGJ}
use Rattle.classes.specs.UseClass.{B, CMAbv, CMBlw}
use Rattle.records.specs.Text.{Text}
use Rattle.records.specs.Refusals as Refusals
use Rattle.records.specs.declared.Parser.{Parser}
use Rattle.records.specs.declared.Parser.TheVariants.{Complex, Khmer}
use Rattle.records.specs.declared.Side.TheVariants.{Record}
use Rattle.stream.specs.Stream as Tokens
use Rattle.complex.specs.Ignored.{barred_text}
use Rattle.marked.specs.Cases.{character, text_for}

-- a base, a consonant mark of a kind, and a U+034F of a class
abbrev joined : Parser → ℕ → ℕ → Text
joined parser kind class = text_for parser (character 0x1780 B ∷ character 0x17C9 kind ∷ character CGJ class ∷ []) []

-- for each class that refusal 6 bars, the text is refused at its U+034F, and its tokens are those of `needed`
abbrev Barred : Parser → ℕ → Type 0
Barred parser kind =
    (map (λ class. Refusals.verdict parser (joined parser kind class)) Refusals.barred_classes ≡ map (λ _. Err (Refusals.refusal 6 Record 2)) Refusals.barred_classes)
    × (map (λ class. Tokens.stream_of Crate parser (joined parser kind class)) Refusals.barred_classes ≡ map (barred_text kind) Refusals.barred_classes)

pub barred : (Barred Complex CMAbv × Barred Complex CMBlw) × (Barred Khmer CMAbv × Barred Khmer CMBlw)
unfolding text_for Refusals.over Refusals.bad_scalar Refusals.bad_run Refusals.barred Refusals.judge_record Refusals.judge_parts Refusals.judge_records Refusals.judge_lengths Refusals.verdict Tokens.itself Tokens.split Tokens.gather Tokens.stream_of
barred = (((refl, refl), (refl, refl)), ((refl, refl), (refl, refl)))
