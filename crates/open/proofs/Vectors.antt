-- Readings of Req 09, computed: which calls want more, and where the others stop. Assumes nothing.
use Prim.Native.Nat.{ℕ}
use mathlib.Core.Path.{◌≡◌, refl}
use mathlib.Core.Bool.{true, false}
use mathlib.Core.List.{List, [], ◌∷◌, ◌++◌}
use lib.ListN.{replicate}
use Rattle.classes.specs.declared.Mode.TheVariants.{Crate, Whole}
use Rattle.classes.specs.ClusterBreak as ClusterBreak
use Rattle.classes.specs.MyanmarClass as MyanmarClass
use Rattle.records.specs.declared.Parser.TheVariants.{Simple, Myanmar}
use Rattle.token.specs.Token.{packed}
use Rattle.parse.specs.State as State
use Rattle.parse.specs.Rule as Rule
use Rattle.parse.specs.Shared as Shared
use Rattle.simple.specs.Grammar as Simple-rules
use Rattle.myanmar.specs.Grammar as Myanmar-rules
use Rattle.segment.specs.Calls as Calls
use Rattle.open.specs.Calls.{peeks, awaits, looks, wants}

-- a token of a scalar and a kind
abbrev tok : ℕ → ℕ → ℕ
tok scalar kind = packed scalar kind 0 0 0 0 0

abbrev full : List ℕ
full = tok 0x61 0 ∷ replicate 31 (tok 0x300 ClusterBreak.EX)

-- 31 prepended characters and a CR, with an emoji mark
abbrev prepended_and : ℕ → List ℕ
prepended_and emoji = replicate 31 (tok 0x600 ClusterBreak.PP) ++ (packed 0x0D ClusterBreak.CR ClusterBreak.CR 0 emoji 0 0 ∷ [])

abbrev kinzi_and : ℕ → List ℕ
kinzi_and n = tok 0x105A MyanmarClass.REST ∷ tok 0x103A MyanmarClass.As ∷ tok 0x1039 MyanmarClass.H ∷ replicate n (tok 0x34F MyanmarClass.REST)

-- `a` alone, and LF alone, want more; a cluster of 32 does not, and is passed but for its last token in crate mode
pub simple_vectors : (wants Simple Crate (tok 0x61 0 ∷ []) 0 ≡ true) × ((wants Simple Whole (tok 0x0A ClusterBreak.LF ∷ []) 0 ≡ true)
    × ((wants Simple Crate full 0 ≡ false) × ((wants Simple Whole full 0 ≡ false) × ((State.place_of full (Calls.called Simple Crate full 0) ≡ 31) × (State.place_of full (Calls.called Simple Whole full 0) ≡ 32)))))
unfolding awaits looks wants Calls.called Calls.grammar State.at_most State.loop State.step_of State.push_of State.note_of Rule.thrice_of Rule.run Rule.either Rule.one_of Shared.emoji_mark Shared.emoji_extension Shared.emoji_turn Shared.emojis Shared.newline Shared.newline_with Simple-rules.is_extension Simple-rules.combining Simple-rules.extend Simple-rules.extension Simple-rules.leading Simple-rules.vowel Simple-rules.trailing Simple-rules.other Simple-rules.syllable Simple-rules.control Simple-rules.start Simple-rules.cluster
simple_vectors = (refl, (refl, (refl, (refl, (refl, refl)))))

-- 31 × PP, CR wants more in whole mode; crate mode hands out 32, and with the emoji mark on CR both do
pub newline_vectors : (wants Simple Whole (prepended_and 0) 0 ≡ true) × ((wants Simple Crate (prepended_and 0) 0 ≡ false)
    × ((wants Simple Whole (prepended_and 1) 0 ≡ false) × ((wants Simple Crate (prepended_and 1) 0 ≡ false) × ((Calls.called Simple Crate (prepended_and 0) 0).len ≡ 32))))
unfolding awaits looks wants Calls.called Calls.grammar State.at_most State.loop State.step_of State.push_of State.note_of Rule.thrice_of Rule.run Rule.either Rule.one_of Shared.emoji_mark Shared.emoji_extension Shared.emoji_turn Shared.emojis Shared.newline Shared.newline_with Simple-rules.is_extension Simple-rules.combining Simple-rules.extend Simple-rules.extension Simple-rules.leading Simple-rules.vowel Simple-rules.trailing Simple-rules.other Simple-rules.syllable Simple-rules.control Simple-rules.start Simple-rules.cluster
newline_vectors = (refl, (refl, (refl, (refl, refl))))

-- U+105A (rest), U+103A wants more, since the third token decides; U+105A (rest), U+1000 does not; kinzi and 28 × U+034F wants more, 29 do not
pub kinzi_vectors : (wants Myanmar Whole (tok 0x105A MyanmarClass.REST ∷ tok 0x103A MyanmarClass.As ∷ []) 0 ≡ true)
    × (((Calls.called Myanmar Whole (tok 0x105A MyanmarClass.REST ∷ tok 0x103A MyanmarClass.As ∷ []) 0).done ≡ false)
    × ((wants Myanmar Whole (tok 0x105A MyanmarClass.REST ∷ tok 0x1000 MyanmarClass.C ∷ []) 0 ≡ false)
    × ((wants Myanmar Crate (kinzi_and 28) 0 ≡ true) × (wants Myanmar Crate (kinzi_and 29) 0 ≡ false))))
unfolding wants looks peeks Calls.called Calls.grammar State.at_most State.loop State.step_of State.push_of State.note_of Rule.thrice_of Rule.run Rule.either Rule.one_of Shared.emoji_mark Shared.emoji_extension Shared.emoji_turn Shared.emojis Shared.newline Shared.other_arm Myanmar-rules.is_kinzi Myanmar-rules.accept_with_as Myanmar-rules.stacked Myanmar-rules.post_base_vowel Myanmar-rules.pwo_tone_mark Myanmar-rules.medials Myanmar-rules.vowels Myanmar-rules.finals Myanmar-rules.base Myanmar-rules.kinzi Myanmar-rules.syllable Myanmar-rules.is_alone Myanmar-rules.cluster
kinzi_vectors = (refl, (refl, (refl, (refl, refl))))
