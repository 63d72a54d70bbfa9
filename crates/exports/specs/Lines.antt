-- What the calls over lines tell, and what stands in the lent columns afterwards.
use Rattle.std.specs.Prelude.{ℕ, ◌-◌, Bool, cond, ◌||◌, List, [], ◌∷◌, ltb, length, Err, Some, None, Option}
use Rattle.records.specs.Text.{cell}
use Rattle.records.specs.Refusals.{◌⊳◌}
use Rattle.records.specs.Verdict.{Verdict}
use Rattle.words.specs.Run.{next_at}
use Rattle.words.specs.Next.{Next}
use Rattle.lines.specs.Rules.{boundary_code}
use Rattle.lines.specs.Refusals.{step_of}
use Rattle.lines.specs.NextStep.{next_of}
use Rattle.lines.specs.Run.{run_verdict, cells_under}
use Rattle.lines.specs.declared.Boundary.TheVariants as Boundary
use Rattle.lines.specs.Previous.{Previous}
use Rattle.lines.specs.declared.LineState.{LineState}
use Rattle.lines.specs.declared.LineStep.{LineStep}
use Rattle.lines.specs.declared.BoundaryState.{BoundaryState}
use Rattle.lines.specs.declared.BoundaryStep.{BoundaryStep}
use Rattle.lines.specs.declared.Strength.{Strength}
use Rattle.exports.specs.declared.Given.{Given}
use Rattle.exports.specs.Requests.{asked_by, unlisted}
use Rattle.exports.specs.Results.{check_room, line_room, next_room, tight, mark_code, Answered}
use Rattle.exports.specs.States.{narrow, judged, SteppedIn}
use Rattle.exports.specs.Words.{state_of, bad_marks}

-- # The run

abbrev pub run_for : Option Strength → List ℕ → List ℕ → List ℕ → List ℕ → ℕ → Verdict
run_for (Some strength) table lines words pictographs cells = run_verdict table lines words pictographs cells
run_for None table lines words pictographs cells = Err unlisted

abbrev pub cells_for : Option Strength → Verdict → List ℕ → List ℕ → List ℕ → List ℕ → List ℕ → List ℕ
cells_for (Some strength) v table lines words pictographs out = cells_under v strength table lines words pictographs out
cells_for None v table lines words pictographs out = out

abbrev pub LinesRan : ℕ → List ℕ → List ℕ → List ℕ → List ℕ → List ℕ → List ℕ → ℕ → List ℕ → List ℕ → Type 0
LinesRan strength table lines words pictographs out results =
    Answered (tight (length results) check_room ⊳ run_for (asked_by strength) table lines words pictographs (length out))
    (λ v. cells_for (asked_by strength) v table lines words pictographs out) results

-- # The line step

-- the class before is the last cell of the line classes before, and none where that is empty
unfoldable pub previous_of : List ℕ → Previous
previous_of before = cond (ltb 0 (length before)) (Some (cell before (length before - 1))) None

abbrev pub line_state_of : ℕ → List ℕ → LineState
line_state_of row before = record { row = narrow row; previous = previous_of before }

-- a row above 255: a table may have it, but no state
abbrev pub bad_row : ℕ → Bool
bad_row row = ltb 255 row

abbrev pub line_for : Option Strength → List ℕ → LineState → ℕ → LineStep
line_for (Some strength) table s class = step_of strength table s class
line_for None table s class = record { state = s; answer = Boundary.None; verdict = Err unlisted }

abbrev pub line_from : ℕ → List ℕ → ℕ → List ℕ → ℕ → LineStep
line_from strength table row before class = line_for (asked_by strength) table (line_state_of row before) (narrow class)

unfoldable pub line_judged : ℕ → LineStep → Verdict
line_judged row s = judged s.verdict (bad_row row)

-- the results after the first three: row, answer
abbrev pub line_after : LineStep → List ℕ
line_after s = s.state.row ∷ boundary_code s.answer ∷ []

abbrev pub line_given : ℕ → List ℕ
line_given row = row ∷ 0 ∷ []

abbrev pub LineStepFor : ℕ → List ℕ → ℕ → List ℕ → ℕ → List ℕ → ℕ → List ℕ → Type 0
LineStepFor strength table row before class =
    let s = line_from strength table row before class in SteppedIn line_room (line_judged row s) (line_given row) (line_after s)

-- # The step of `next`

abbrev pub next_for : Option Strength → List ℕ → BoundaryState → ℕ → ℕ → ℕ → Next → BoundaryStep
next_for (Some strength) table s line word pictograph next = next_of strength table s line word pictograph next
next_for None table s line word pictograph next = record { state = s; answer = Boundary.None; verdict = Err unlisted }

abbrev pub next_from : ℕ → List ℕ → ℕ → List ℕ → Given → ℕ → ℕ → ℕ → List ℕ → BoundaryStep
next_from strength table row before g line word pictograph rest =
    next_for (asked_by strength) table (record { line = line_state_of row before; word = state_of g }) (narrow line) (narrow word) (narrow pictograph)
    (next_at rest 0)

unfoldable pub next_judged : ℕ → Given → BoundaryStep → Verdict
next_judged row g s = judged s.verdict (bad_row row || bad_marks g)

-- the results after the first three: row, first, previous, prevent, count, answer
abbrev pub next_after : BoundaryStep → List ℕ
next_after s =
    s.state.line.row ∷ mark_code s.state.word.first ∷ s.state.word.previous ∷ mark_code s.state.word.prevent ∷ s.state.word.count
    ∷ boundary_code s.answer
    ∷ []

abbrev pub next_given : ℕ → Given → List ℕ
next_given row g = row ∷ g.first ∷ g.previous ∷ g.prevent ∷ g.count ∷ 0 ∷ []

abbrev pub NextStepFor : ℕ → List ℕ → ℕ → List ℕ → Given → ℕ → ℕ → ℕ → List ℕ → List ℕ → ℕ → List ℕ → Type 0
NextStepFor strength table row before g line word pictograph rest =
    let s = next_from strength table row before g line word pictograph rest in
    SteppedIn next_room (next_judged row g s) (next_given row g) (next_after s)
