-- The word step: one record, with its refusals.
use Rattle.std.specs.Prelude.{ℕ, Bool, true, false, ◌||◌, List, [], ◌∷◌, leb, ltb, Ok, Err, Some, None}
use Rattle.classes.specs.WordBreak as WordBreak
use Rattle.records.specs.Refusals.{refuse, ◌⊳◌, Coded, coded, mark, outside}
use Rattle.records.specs.declared.Side.TheVariants.{Record, Neither}
use Rattle.records.specs.Verdict.{Verdict}
use Rattle.words.specs.declared.WordState.{WordState}
use Rattle.words.specs.declared.WordStep.{WordStep}
use Rattle.words.specs.Next.{Next}
use Rattle.words.specs.Rules.{ruled}

-- "`WordState::START` is first, Other, no, 0." (SCOPE 7.1)
abbrev pub start_state : WordState
start_state = record { first = true; previous = WordBreak.Other; prevent = false; count = 0 }

-- the next record's class, if there is one, has to be in the list too
abbrev pub next_codes : Next → List Coded
next_codes (Some c) = coded c WordBreak.len ∷ []
next_codes None = []

-- a class or a mark outside its list
abbrev pub bad_record : ℕ → ℕ → Next → Bool
bad_record class pictograph next = outside (coded class WordBreak.len ∷ mark pictograph ∷ next_codes next)

-- "of a word state: its class is not in the list, or its count is 3 or more" (SCOPE 5.1)
abbrev pub bad_state : WordState → Bool
bad_state s = leb WordBreak.len s.previous || ltb 2 s.count

-- "4 (record, index 0) for the record's class, its mark or the class of the next record, then 8" (SCOPE 5.5)
unfoldable pub step_verdict : WordState → ℕ → ℕ → Next → Verdict
step_verdict s class pictograph next =
    refuse (bad_record class pictograph next) 4 Record 0 ⊳ refuse (bad_state s) 8 Neither 0

-- with a refusal "the state that it was given and the answer 0" (SCOPE 5.4)
abbrev pub step_under : Verdict → WordState → ℕ → ℕ → Next → WordStep
step_under (Ok _) s class pictograph next = ruled s class pictograph next
step_under (Err r) s class pictograph next = record { state = s; answer = 0; verdict = Err r }

abbrev pub step_of : WordState → ℕ → ℕ → Next → WordStep
step_of s class pictograph next = step_under (step_verdict s class pictograph next) s class pictograph next
