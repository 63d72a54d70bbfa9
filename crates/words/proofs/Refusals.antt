-- The refusals of the word run and of the word step: each says what the table of SCOPE 5.1 says. Assumes nothing.
use Rattle.std.specs.Prelude.{Ok, Err}
use Prim.Native.Nat.{ℕ}
use mathlib.Core.Path.{◌≡◌, refl, ◌∙◌}
use mathlib.Core.Bool.{Bool, true, false}
use mathlib.Core.List.{List, [], ◌∷◌}
use Rattle.classes.specs.WordBreak as WordBreak
use Rattle.records.specs.Refusals.{refuse, ◌⊳◌, over}
use Rattle.records.specs.Offences.{word_table_of, room_line, ByTable}
use Rattle.records.specs.declared.Side.TheVariants.{Record, Neither}
use Rattle.records.specs.Verdict.{Verdict}
use Rattle.records.proofs.Tables.{first_of, by_table}
use Rattle.records.proofs.Judged.{marked_run_by_table}
use Rattle.words.specs.declared.WordState.{WordState}
use Rattle.words.specs.Next.{Next}
use Rattle.words.specs.Refusals.{step_table}
use Rattle.words.specs.Rules.{exit_of}
use Rattle.words.specs.Step.{bad_record, bad_state, step_verdict, step_under, step_of}
use Rattle.words.specs.Run.{run_verdict}
use Rattle.words.proofs.Effects.{leaves_accepts}

-- The run's refusals: 1, 2, 4 and 9.
pub word_run_by_table : (words pictographs : List ℕ) (cells : ℕ) → ByTable (1 ∷ 2 ∷ 4 ∷ 9 ∷ []) (word_table_of words pictographs (room_line words cells ∷ [])) (run_verdict words pictographs cells)
unfolding run_verdict
word_run_by_table words pictographs cells = marked_run_by_table WordBreak.len words pictographs cells

module _ (s : WordState) (class pictograph : ℕ) (next : Next) where
  step_lines : step_verdict s class pictograph next ≡ first_of (step_table s class pictograph next)
  unfolding step_verdict over
  step_lines = go (bad_record class pictograph next) (bad_state s)
    where
      go : (a b : Bool) → refuse a 4 Record 0 ⊳ refuse b 8 Neither 0 ≡ ((refuse a 4 Record 0 ⊳ (Ok tt)) ⊳ (Ok tt)) ⊳ refuse b 8 Neither 0 ⊳ (Ok tt)
      go true b = refl
      go false true = refl
      go false false = refl

  step_says : (v : Verdict) → (step_under v s class pictograph next).verdict ≡ v
  step_says (Ok _) = leaves_accepts s class (exit_of s class pictograph next)
  step_says (Err r) = refl

  -- The step's refusals: 4 of the record, index 0, and 8.
  pub word_step_by_table : ByTable (4 ∷ 8 ∷ []) (step_table s class pictograph next) (step_of s class pictograph next).verdict
  word_step_by_table =
      by_table _ (step_table s class pictograph next) (record { before = refl; parts = λ i. refl; records = λ i. refl; after = refl })
      (step_of s class pictograph next).verdict
      (step_says (step_verdict s class pictograph next) ∙ step_lines)
