-- A strength by number, and the calls over lines for it. Assumes nothing.
use Rattle.std.specs.Prelude.{Err, Some, Option, None}
use Prim.Native.Nat.{ℕ, ◌<◌, ◌≤◌}
use mathlib.Core.Path.{◌≡◌, refl}
use mathlib.Core.List.{List, []}
use lib.ListN.{length}
use Rattle.records.specs.declared.Refusal.{Refusal}
use Rattle.records.specs.Verdict.{Verdict}
use Rattle.words.specs.Next.{Next}
use Rattle.lines.specs.Refusals.{step_of}
use Rattle.lines.specs.NextStep.{next_of}
use Rattle.lines.specs.Run.{run_verdict, run_cells}
use Rattle.lines.specs.declared.Strength.{Strength}
use Rattle.lines.specs.declared.Boundary.TheVariants as Boundary
use Rattle.lines.specs.declared.LineState.{LineState}
use Rattle.lines.specs.declared.LineStep.{LineStep}
use Rattle.lines.specs.declared.BoundaryState.{BoundaryState}
use Rattle.lines.specs.declared.BoundaryStep.{BoundaryStep}
use Rattle.exports.specs.Requests.{asked_by, unlisted}
use Rattle.exports.specs.Results.{Told}
use Rattle.exports.specs.Lines.{cells_for, line_for, next_for, LinesRan}
use Rattle.exports.proofs.Runs.{answered_tight, answered_told}

-- with a refusal the output column stays as it was, whatever is asked
kept : (q : Option Strength) (r : Refusal) (table lines words pictographs out : List ℕ) → out ≡ cells_for q (Err r) table lines words pictographs out
kept (Some strength) r table lines words pictographs out = refl
kept None r table lines words pictographs out = refl

pub lines_tight : (n : ℕ) (table lines words pictographs out results : List ℕ) → length results < 3 → LinesRan n table lines words pictographs out results 9 out results
lines_tight n table lines words pictographs out results h =
    answered_tight _ _ results out h (kept (asked_by n) _ table lines words pictographs out)

module _ (n : ℕ) (q : Option Strength) (e : q ≡ asked_by n) where
  -- the run
  module _ (table lines words pictographs out results : List ℕ) (v : Verdict) (r : ℕ) (results' : List ℕ) (h : 3 ≤ length results) (told : Told v [] results r results') where
    pub lines_outside : q ≡ None → v ≡ Err unlisted → LinesRan n table lines words pictographs out results r out results'
    lines_outside k ev = rw (← e, k) (answered_told _ _ results v r out results' h ev refl told)

    pub lines_listed : (strength : Strength) (out' : List ℕ) → q ≡ Some strength → v ≡ run_verdict table lines words pictographs (length out) → out' ≡ run_cells strength table lines words pictographs out → LinesRan n table lines words pictographs out results r out' results'
    lines_listed strength out' k ev eo = rw (← e, k) (answered_told _ _ results v r out' results' h ev eo told)

  -- the line step
  module _ (table : List ℕ) (s : LineState) (class : ℕ) where
    pub line_outside : (u : Refusal) → q ≡ None → u ≡ unlisted → record { state = s; answer = Boundary.None; verdict = Err u } ≡ line_for (asked_by n) table s class
    line_outside u k eu = rw (← e, k, eu) refl

    pub line_listed : (strength : Strength) (r : LineStep) → q ≡ Some strength → r ≡ step_of strength table s class → r ≡ line_for (asked_by n) table s class
    line_listed strength r k er = rw (← e, k) er

  -- the step of `next`
  module _ (table : List ℕ) (s : BoundaryState) (line word pictograph : ℕ) (next : Next) where
    pub next_outside : (u : Refusal) → q ≡ None → u ≡ unlisted → record { state = s; answer = Boundary.None; verdict = Err u } ≡ next_for (asked_by n) table s line word pictograph next
    next_outside u k eu = rw (← e, k, eu) refl

    pub next_listed : (strength : Strength) (r : BoundaryStep) → q ≡ Some strength → r ≡ next_of strength table s line word pictograph next → r ≡ next_for (asked_by n) table s line word pictograph next
    next_listed strength r k er = rw (← e, k) er
