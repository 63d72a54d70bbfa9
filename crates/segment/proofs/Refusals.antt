-- The refusals of the stepping call and of the full run: each says what the table of SCOPE 5.1 says, the check's lines and its own.
-- Assumes nothing.
use Rattle.std.specs.Prelude.{Ok, Err}
use Prim.Native.Nat.{ℕ, ◌≤◌}
use mathlib.Core.Path.{◌≡◌, refl, sym, ◌∙◌, ap}
use mathlib.Core.List.{List, [], ◌∷◌}
use native.Mathlib.Omega.{arith}
use lib.ListN.{length}
use borrow.Author.Tests.{lt-ltb, le-ltb}
use Rattle.classes.specs.declared.Mode.{Mode}
use Rattle.records.specs.Text.{Text}
use Rattle.records.specs.Refusals.{◌⊳◌, verdict}
use Rattle.records.specs.Offences.{table_of, ByTable, Asks}
use Rattle.records.specs.declared.Parser.{Parser}
use Rattle.records.specs.declared.Side.TheVariants.{Neither}
use Rattle.records.specs.Verdict.{Verdict}
use Rattle.records.proofs.Tables.{first_line}
use Rattle.records.proofs.Judged.{alone, call_by_table}
use Rattle.stream.specs.Stream.{stream_of}
use Rattle.parse.specs.declared.Parse.{Parse}
use Rattle.segment.specs.declared.Segmenter.{Segmenter}
use Rattle.segment.specs.declared.RunAnswer.{RunAnswer}
use Rattle.segment.specs.Calls.{refused, end, found, next_of}
use Rattle.segment.specs.Met.{refusal_in, Met, place_line, room_line}
use Rattle.segment.specs.Runs.{calls_of, shortest, room_for, run_verdict, run_under, RanOf}
use Rattle.segment.proofs.Coverage.{tokens, next_case}

-- # The stepping call

module _ (s : Segmenter) (t : Text) where
  -- What it met, and the answer that goes with it.
  pub step_met : Met s (tokens s t) (next_of s t) (next_of s t).what
  unfolding refused end found
  step_met = next_case s t (λ a. Met s (tokens s t) a a.what) (λ r e. refl) (λ e l. refl) (λ e l. (l, refl)) (λ e l. (l, refl))

  -- the check's verdict, then 8
  met_verdict : refusal_in (next_of s t).what ≡ verdict s.parser t ⊳ first_line (place_line s t ∷ []) Neither 0
  unfolding refused end found
  met_verdict = next_case s t (λ a. refusal_in a.what ≡ verdict s.parser t ⊳ first_line (place_line s t ∷ []) Neither 0)
      (λ r e. rw e)
      (λ e l. rw (e, lt-ltb (length (tokens s t)) s.place.at l))
      (λ e l. let h : s.place.at ≤ length (tokens s t) = omega arith in rw (e, le-ltb (length (tokens s t)) s.place.at h))
      (λ e l. let h : s.place.at ≤ length (tokens s t) = omega arith in rw (e, le-ltb (length (tokens s t)) s.place.at h))

  -- Its refusals: 1 to 8, by the table.
  pub step_by_table : ByTable (1 ∷ 2 ∷ 3 ∷ 4 ∷ 5 ∷ 6 ∷ 7 ∷ 8 ∷ []) (table_of s.parser t (place_line s t ∷ [])) (refusal_in (next_of s t).what) × Asks s.parser (refusal_in (next_of s t).what)
  step_by_table =
      call_by_table _ s.parser t (place_line s t ∷ []) (record { before = refl; parts = λ i. refl; records = λ i. refl; after = refl })
      (refusal_in (next_of s t).what) met_verdict

-- # The full run

pub under_verdict : (v : Verdict) (calls : List Parse) → (run_under v calls).verdict ≡ v
under_verdict (Ok _) calls = refl
under_verdict (Err r) calls = refl

module _ (parser : Parser) (mode : Mode) (t : Text) (scalars classes clusters : List ℕ) (r : RunAnswer) (scalars' classes' clusters' : List ℕ) (ran : RanOf parser mode t scalars classes clusters r scalars' classes' clusters') where
  abbrev room : ℕ
  room = shortest scalars classes clusters

  pub ran_verdict : r.verdict ≡ run_verdict parser mode t room
  ran_verdict = ap (λ (a : RunAnswer). a.verdict) ran.answer ∙ under_verdict (run_verdict parser mode t room) (calls_of parser mode (stream_of mode parser t))

  -- the check's verdict, then 9
  ran_lines : r.verdict ≡ verdict parser t ⊳ first_line (room_line parser mode t room ∷ []) Neither 0
  unfolding run_verdict
  ran_lines = ran_verdict ∙ ap (λ v. verdict parser t ⊳ v) (sym (alone (room_for (length (stream_of mode parser t)) room)))

  -- Its refusals: 1 to 7 and 9, by the table.
  pub run_by_table : ByTable (1 ∷ 2 ∷ 3 ∷ 4 ∷ 5 ∷ 6 ∷ 7 ∷ 9 ∷ []) (table_of parser t (room_line parser mode t room ∷ [])) r.verdict × Asks parser r.verdict
  run_by_table =
      call_by_table _ parser t (room_line parser mode t room ∷ []) (record { before = refl; parts = λ i. refl; records = λ i. refl; after = refl })
      r.verdict ran_lines
