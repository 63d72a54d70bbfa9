-- A call of the Myanmar grammar that the table takes passes over no end of the text. Assumes nothing.
use Prim.Native.Nat.{ℕ, ◌+◌}
use mathlib.Core.Path.{◌≡◌, refl, sym, ◌∙◌, ap}
use mathlib.Core.Bool.{Bool, true, false, cond, false≢true}
use mathlib.Core.List.{List}
use lib.Dec.{eqb, ltb}
use lib.ListN.{length}
use borrow.Author.Tests.{ltb-true}
use Rattle.classes.specs.MyanmarClass.{O}
use Rattle.classes.specs.declared.Mode.{Mode}
use Rattle.classes.specs.declared.Mode.TheVariants.{Crate, Whole}
use Rattle.classes.specs.declared.Shape.TheVariants.{Kinzi}
use Rattle.records.specs.declared.Parser.TheVariants.{Myanmar}
use Rattle.parse.specs.declared.Parse.{Parse}
use Rattle.parse.specs.State.{begin}
use Rattle.parse.specs.Rule.{Test, is_emoji, is}
use Rattle.parse.specs.Shared.{emojis, emoji_turn, emoji_extension, emoji_mark, newline, other_arm}
use Rattle.myanmar.specs.Grammar.{cluster, is_alone, kinzi, syllable, base, finals, vowels, medials, pwo_tone_mark, post_base_vowel, stacked, accept_with_as, is_kinzi}
use Rattle.tables.specs.Symbols.{ends_at, myanmar_in, myanmar_symbol, Regular}
use Rattle.residual.proofs.Residual.{Inside, Calm, spare, calm_free, calm_whole}
use Rattle.tables.proofs.Kinzi.{kinzi_calm}
use Rattle.tables.proofs.MyanmarFine as fine

ends_parts : (a b : Bool) → cond a b true ≡ false → (a ≡ true) × (b ≡ false)
ends_parts true b e = (refl, e)
ends_parts false b e = absurd (false≢true (sym e))

not_left : (w : Bool) → eqb (cond w 33 32) 33 ≡ false → w ≡ false
not_left true e = e
not_left false e = refl

module _ (text : List ℕ) (mode : Mode) (regular : Regular Myanmar text) (i : ℕ) (h : Inside text i) (stays : eqb (myanmar_symbol mode text i) 33 ≡ false) where
  not_ended : is_emoji text i ≡ false → is O text i ≡ false → is_kinzi text i ≡ true → ends_at mode text i ≡ false
  unfolding myanmar_symbol myanmar_in
  not_ended e o z = not_left (ends_at mode text i) (sym (ap (λ a. eqb a 33) symbol) ∙ stays)
    where
      symbol : myanmar_symbol mode text i ≡ cond (ends_at mode text i) 33 32
      symbol = rw (e, o, z)

-- no rule has a `fit` in it
emojis_spare : spare false emojis ≡ true
unfolding emojis emoji_turn emoji_extension emoji_mark
emojis_spare = refl

other_spare : spare false other_arm ≡ true
unfolding other_arm newline
other_spare = refl

syllable_spare : spare false syllable ≡ true
unfolding syllable base finals vowels medials pwo_tone_mark post_base_vowel stacked accept_with_as
syllable_spare = refl

cluster_spare : spare true cluster ≡ true
unfolding cluster kinzi emojis emoji_turn emoji_extension emoji_mark other_arm newline syllable base finals vowels medials pwo_tone_mark post_base_vowel stacked accept_with_as
cluster_spare = refl

pub calm_myanmar : (text : List ℕ) (mode : Mode) (regular : Regular Myanmar text) (i : ℕ) → Inside text i → eqb (myanmar_symbol mode text i) 33 ≡ false → (j : Bool)
    → Calm text (fine.answer mode text regular i) (begin (record { at = i }) mode j) cluster
unfolding Calm cluster is_alone kinzi ends_at
calm_myanmar text Whole regular i h stays j = calm_whole text (fine.answer Whole text regular i) (begin (record { at = i }) Whole j) cluster refl cluster_spare
calm_myanmar text Crate regular i h stays j =
    let s : Parse = begin (record { at = i }) Crate j in
    let ask : Test → Bool = fine.answer Crate text regular i in (
      λ e. calm_free text ask s emojis emojis_spare,
      λ e. (
        λ o. calm_free text ask s other_arm other_spare,
        λ o. (
          λ a. tt,
          λ a. (
            (
              λ z.
                  let e' = sym (fine.good_emoji Crate text regular i h) ∙ e in
                  let o' = sym (fine.good_is Crate text regular i h O) ∙ o in
                  let z' = sym (fine.good_kinzi Crate text regular i h e' o') ∙ z in
                  let w = ends_parts (ltb (i + 3) (length text)) _ (not_ended text Crate regular i h stays e' o' z') in
                  kinzi_calm text i Crate j Kinzi z' (ltb-true (i + 3) (length text) w.0) w.1,
              λ z. tt,
            ),
            calm_free text ask s syllable syllable_spare,
          ),
        ),
      ),
    )
