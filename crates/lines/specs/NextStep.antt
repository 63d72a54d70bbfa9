-- The step of `next`: `check_line` and `check_word` at one record, and the two answers as one (SCOPE 12.1).
use Rattle.std.specs.Prelude.{ℕ, Bool, ◌||◌, List, ◌∷◌, Ok, Err}
use Rattle.classes.specs.WordBreak as WordBreak
use Rattle.records.specs.Refusals.{coded, mark, outside}
use Rattle.records.specs.Verdict.{Verdict}
use Rattle.words.specs.Rules.{ruled}
use Rattle.words.specs.Step as Words
use Rattle.words.specs.Next.{Next}
use Rattle.lines.specs.LineBreak as LineBreak
use Rattle.lines.specs.Rules as Rules
use Rattle.lines.specs.Rules.{line_answer, line_after, or_word}
use Rattle.lines.specs.Refusals.{bad_state, judged}
use Rattle.lines.specs.declared.Strength.{Strength}
use Rattle.lines.specs.declared.Boundary.TheVariants as Boundary
use Rattle.lines.specs.declared.BoundaryState.{BoundaryState}
use Rattle.lines.specs.declared.BoundaryStep.{BoundaryStep}

-- `BoundaryState::new`
abbrev pub start_state : BoundaryState
start_state = record { line = Rules.start_state; word = Words.start_state }

-- 4: "any of its four codes", the fourth being the class of the next record, if there is one
abbrev pub bad_record : ℕ → ℕ → ℕ → Next → Bool
bad_record line word pictograph next =
    outside (coded line LineBreak.len ∷ coded word WordBreak.len ∷ mark pictograph ∷ Words.next_codes next)

-- 8: "either state"
abbrev pub bad_states : List ℕ → BoundaryState → Bool
bad_states table s = bad_state table s.line || Words.bad_state s.word

-- 10, then 4, then 8
unfoldable pub next_verdict : List ℕ → BoundaryState → ℕ → ℕ → ℕ → Next → Verdict
next_verdict table s line word pictograph next = judged table (bad_record line word pictograph next) (bad_states table s)

-- `next` itself: both machines take their step, whatever the other one answers
unfoldable pub next_ruled : Strength → List ℕ → BoundaryState → ℕ → ℕ → ℕ → Next → BoundaryStep
next_ruled strength table s line word pictograph next =
    let w = ruled s.word word pictograph next in
    record {
      state = record { line = line_after table s.line line; word = w.state };
      answer = or_word (line_answer strength table s.line line) w.answer;
      verdict = Ok tt;
    }

-- with a refusal "the states that it was given and none"
abbrev pub next_under : Verdict → Strength → List ℕ → BoundaryState → ℕ → ℕ → ℕ → Next → BoundaryStep
next_under (Ok _) strength table s line word pictograph next = next_ruled strength table s line word pictograph next
next_under (Err r) strength table s line word pictograph next =
    record { state = s; answer = Boundary.None; verdict = Err r }

abbrev pub next_of : Strength → List ℕ → BoundaryState → ℕ → ℕ → ℕ → Next → BoundaryStep
next_of strength table s line word pictograph next =
    next_under (next_verdict table s line word pictograph next) strength table s line word pictograph next
