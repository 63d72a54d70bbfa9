-- "One statement over one table says that the definitions give them all" (SCOPE 9.1). The checker computes both sides.
-- Assumes nothing.
use Rattle.std.specs.Prelude.{Ok}
use Prim.Native.Nat.{ℕ}
use mathlib.Core.Path.{◌≡◌, refl, sym, ◌∙◌, ap}
use mathlib.Core.List.{List, [], ◌∷◌, ◌++◌, map}
use native.Mathlib.Omega.{arith}
use lib.ListN.{length, replicate}
use Rattle.basics.specs.Columns.{cells}
use Rattle.classes.specs.declared.Mode.{Mode}
use Rattle.classes.specs.declared.Mode.TheVariants.{Crate, Whole}
use Rattle.records.specs.Text.{Text}
use Rattle.records.specs.Refusals as Refusals
use Rattle.records.specs.declared.Parser.{Parser}
use Rattle.records.specs.declared.Parser.TheVariants.{Simple, Myanmar, Complex, Khmer}
use Rattle.stream.specs.Stream as Tokens
use Rattle.parse.specs.State as State
use Rattle.parse.specs.Rule as Rule
use Rattle.parse.specs.Shared as Shared
use Rattle.simple.specs.Grammar as Simple-rules
use Rattle.myanmar.specs.Grammar as Myanmar-rules
use Rattle.complex.specs.Grammar as Complex-rules
use Rattle.segment.specs.Calls as Calls
use Rattle.segment.specs.declared.Answer.{Answer}
use Rattle.segment.specs.declared.Segmenter.{Segmenter}
use Rattle.words.specs.Rules as Rules
use Rattle.words.specs.Run as Run
use Rattle.marked.specs.Cases.{Outcome, table, pair, standing, text_for, stepping, answers_of, chars, given, told}
use Rattle.marked.specs.Readings.{readings}

-- an accepted text of two tokens, of which the first call takes one
abbrev Parted : Parser → Mode → Type 0
Parted parser mode =
    (Refusals.verdict parser (pair parser) ≡ Ok tt)
    × (length (Tokens.stream_of mode parser (pair parser)) ≡ 2)
    × ((Calls.next_of (standing parser mode 0) (pair parser)).state.place.at ≡ 1)

computed : (map (map given) (readings ∷ table) ≡ map (map told) (readings ∷ table)) × ((parser : Parser) (mode : Mode) → Parted parser mode)
unfolding given told text_for stepping answers_of chars Refusals.over Refusals.bad_scalar Refusals.bad_run Refusals.barred Refusals.is_split Refusals.bad_sign Refusals.judge_part Refusals.judge_record Refusals.judge_sign Refusals.judge_parts Refusals.judge_records Refusals.judge_signs Refusals.judge_lengths Refusals.verdict Refusals.judge_marked Refusals.marked_verdict Tokens.part_tokens Tokens.itself Tokens.split Tokens.gather Tokens.stream_of Tokens.fetch_in Tokens.piece_count Tokens.count_from State.empty_cluster State.at_most State.loop State.step_of State.push_of State.note_of Rule.thrice_of Rule.run Rule.either Rule.one_of Shared.emoji_mark Shared.emoji_extension Shared.emoji_turn Shared.emojis Shared.newline Shared.newline_with Shared.other_arm Simple-rules.is_extension Simple-rules.combining Simple-rules.extend Simple-rules.extension Simple-rules.leading Simple-rules.vowel Simple-rules.trailing Simple-rules.other Simple-rules.syllable Simple-rules.control Simple-rules.start Simple-rules.cluster Myanmar-rules.is_kinzi Myanmar-rules.accept_with_as Myanmar-rules.stacked Myanmar-rules.post_base_vowel Myanmar-rules.pwo_tone_mark Myanmar-rules.medials Myanmar-rules.vowels Myanmar-rules.finals Myanmar-rules.base Myanmar-rules.kinzi Myanmar-rules.syllable Myanmar-rules.is_alone Myanmar-rules.cluster Complex-rules.given Complex-rules.by_kind Complex-rules.base_vs Complex-rules.symbol_marks Complex-rules.consonant_marks Complex-rules.is_coeng Complex-rules.halant Complex-rules.opens_halant Complex-rules.halant_base Complex-rules.is_vowel_modifier Complex-rules.vowel_modifier Complex-rules.medials Complex-rules.vowels Complex-rules.finals Complex-rules.syllable Complex-rules.marked_syllable Complex-rules.is_symbol_mark Complex-rules.standard_tail Complex-rules.standard Complex-rules.halant_number Complex-rules.number Complex-rules.symbol Complex-rules.letter Complex-rules.cluster Calls.grammar Calls.called Calls.refused Calls.end Calls.found Calls.answer_in Calls.next_of Rules.pair_rules Rules.letter_rules Rules.number_rules Rules.flag_rules Rules.exit_of Rules.leaves Run.next_at Run.state_at Run.answer_at cells Run.run_verdict
computed = (refl, parted)
  where
    parted : (parser : Parser) (mode : Mode) → Parted parser mode
    parted Simple Crate = (refl, refl, refl)
    parted Simple Whole = (refl, refl, refl)
    parted Myanmar Crate = (refl, refl, refl)
    parted Myanmar Whole = (refl, refl, refl)
    parted Complex Crate = (refl, refl, refl)
    parted Complex Whole = (refl, refl, refl)
    parted Khmer Crate = (refl, refl, refl)
    parted Khmer Whole = (refl, refl, refl)

abbrev first : List (List Outcome) → List Outcome
first [] = []
first (o ∷ os) = o

abbrev later : List (List Outcome) → List (List Outcome)
later [] = []
later (o ∷ os) = os

-- with the number of the cases, and of the texts of each, so that none goes unnoticed: P15 and P16 have two
pub marked : (length table ≡ 16) × ((map {B = ℕ} length table ≡ replicate 14 1 ++ (2 ∷ 2 ∷ [])) × (map (map given) table ≡ map (map told) table))
marked = (refl, (refl, ap later computed.0))

-- and so the corners of SCOPE 6
pub read : (length readings ≡ 10) × (map given readings ≡ map told readings)
read = (refl, ap first computed.0)

-- Ruled out is "one whose first call swallows the text and whose others find nothing" (SCOPE 10): it does not meet the stepping call's
-- contract, for each parser and mode.
pub takes_text : (f : Segmenter → Text → Answer) → ((s : Segmenter) (t : Text) → f s t ≡ Calls.next_of s t) → (parser : Parser) (mode : Mode) → ((t : Text) → Refusals.verdict parser t ≡ Ok tt → (f (standing parser mode 0) t).state.place.at ≡ length (Tokens.stream_of mode parser t)) → ⊥
takes_text f meets parser mode h =
    let (accepted, two, one) = computed.1 parser mode in
    let e = sym one ∙ sym (ap (λ (a : Answer). a.state.place.at) (meets (standing parser mode 0) (pair parser))) ∙ h (pair parser) accepted ∙ two in
    omega (arith, e)
