-- The refusals of the line step, of the step of `next` and of the run: each says what the table of SCOPE 5.1 and 12.1 says. Assumes
-- nothing.
use Rattle.std.specs.Prelude.{Ok, Err}
use Prim.Native.Nat.{ℕ}
use mathlib.Core.Path.{◌≡◌, refl, sym, ◌∙◌, ap}
use mathlib.Core.Bool.{Bool, true, false, ◌||◌}
use mathlib.Core.List.{List, [], ◌∷◌}
use lib.Dec.{leb, ltb}
use lib.ListN.{length}
use Rattle.records.specs.Text.{cell}
use Rattle.records.specs.Refusals.{refuse, ◌⊳◌, over, too_long, uneven, judge_lengths, judge_three}
use Rattle.records.specs.Offences.{line, ByTable}
use Rattle.records.specs.declared.Side.TheVariants.{Record, Neither}
use Rattle.records.specs.Verdict.{Verdict}
use Rattle.records.proofs.Tables.{first_of, by_table}
use Rattle.records.proofs.Judged.{alone, over_same}
use Rattle.words.specs.Next.{Next}
use Rattle.lines.specs.LineBreak as LineBreak
use Rattle.lines.specs.Refusals.{bad_table, bad_state, judged, step_verdict, step_under, step_of}
use Rattle.lines.specs.NextStep.{bad_record, bad_states, next_verdict, next_ruled, next_under, next_of}
use Rattle.lines.specs.Run.{judge_record, check_verdict, run_verdict}
use Rattle.lines.specs.Offences.{step_table, line_table, next_table, run_table}
use Rattle.lines.specs.declared.Strength.{Strength}
use Rattle.lines.specs.declared.LineState.{LineState}
use Rattle.lines.specs.declared.BoundaryState.{BoundaryState}

-- # The two steps

-- their three lines one after the other
three : (table : List ℕ) (four eight : Bool) → judged table four eight ≡ first_of (step_table table (line 4 four) (line 8 eight))
unfolding judged over
three table four eight = go (bad_table table) four eight
  where
    go : (a b c : Bool) → refuse a 10 Neither 0 ⊳ refuse b 4 Record 0 ⊳ refuse c 8 Neither 0 ≡ (refuse a 10 Neither 0 ⊳ (Ok tt)) ⊳ (Ok tt) ⊳ ((refuse b 4 Record 0 ⊳ (Ok tt)) ⊳ (Ok tt)) ⊳ refuse c 8 Neither 0 ⊳ (Ok tt)
    go true b c = refl
    go false true c = refl
    go false false true = refl
    go false false false = refl

step_by_table : (table : List ℕ) (four eight : Bool) (v : Verdict) → v ≡ judged table four eight → ByTable (10 ∷ 4 ∷ 8 ∷ []) (step_table table (line 4 four) (line 8 eight)) v
step_by_table table four eight v e =
    by_table _ (step_table table (line 4 four) (line 8 eight)) (record { before = refl; parts = λ i. refl; records = λ i. refl; after = refl }) v (e ∙ three table four eight)

-- The line step's refusals: 10, 4 of the record at index 0, and 8, in this order.
pub line_step_by_table : (strength : Strength) (table : List ℕ) (s : LineState) (class : ℕ) → ByTable (10 ∷ 4 ∷ 8 ∷ []) (line_table table s class) (step_of strength table s class).verdict
line_step_by_table strength table s class =
    step_by_table table (leb LineBreak.len class) (bad_state table s) (step_of strength table s class).verdict (unfold step_verdict in says (step_verdict table s class))
  where
    says : (v : Verdict) → (step_under v strength table s class).verdict ≡ v
    says (Ok _) = refl
    says (Err r) = refl

-- The same of the step of `next`.
pub next_by_table : (strength : Strength) (table : List ℕ) (s : BoundaryState) (class word pictograph : ℕ) (next : Next) → ByTable (10 ∷ 4 ∷ 8 ∷ []) (next_table table s class word pictograph next) (next_of strength table s class word pictograph next).verdict
unfolding next_ruled
next_by_table strength table s class word pictograph next =
    step_by_table table (bad_record class word pictograph next) (bad_states table s) (next_of strength table s class word pictograph next).verdict (unfold next_verdict in says (next_verdict table s class word pictograph next))
  where
    says : (v : Verdict) → (next_under v strength table s class word pictograph next).verdict ≡ v
    says (Ok _) = refl
    says (Err r) = refl

-- # The run

-- its lines one after the other, where o is what is said of the records
five : (a b c d : Bool) (o : Verdict) → ((refuse a 1 Neither 0 ⊳ refuse b 2 Neither 0) ⊳ refuse c 10 Neither 0 ⊳ o) ⊳ refuse d 9 Neither 0 ≡ (refuse a 1 Neither 0 ⊳ refuse b 2 Neither 0 ⊳ refuse c 10 Neither 0 ⊳ (Ok tt)) ⊳ (Ok tt) ⊳ o ⊳ refuse d 9 Neither 0 ⊳ (Ok tt)
five true b c d o = refl
five false true c d o = refl
five false false true d o = refl
five false false false d (Err r) = refl
five false false false d (Ok _) = sym (alone (refuse d 9 Neither 0))

-- The run's refusals: 1, 2, 10, 4 and 9, in this order.
pub line_run_by_table : (table lines words pictographs : List ℕ) (room : ℕ) → ByTable (1 ∷ 2 ∷ 10 ∷ 4 ∷ 9 ∷ []) (run_table table lines words pictographs room) (run_verdict table lines words pictographs room)
unfolding run_verdict check_verdict judge_lengths judge_three over
line_run_by_table table lines words pictographs room =
    by_table _ (run_table table lines words pictographs room) (record { before = refl; parts = λ i. refl; records = λ i. refl; after = refl })
    (run_verdict table lines words pictographs room)
    (ap (λ o. ((refuse (too_long lengths || false) 1 Neither 0 ⊳ refuse (uneven lengths || false) 2 Neither 0) ⊳ refuse (bad_table table) 10 Neither 0 ⊳ o) ⊳ refuse (ltb room (length lines)) 9 Neither 0)
    (over_same judge (λ i. judge i ⊳ (Ok tt)) (λ i. sym (alone (judge i))) (length lines) 0)
    ∙ five (too_long lengths || false) (uneven lengths || false) (bad_table table) (ltb room (length lines)) (over (λ i. judge i ⊳ (Ok tt)) 0 (length lines)))
  where
    lengths : List ℕ
    lengths = length lines ∷ length words ∷ length pictographs ∷ []

    judge : ℕ → Verdict
    judge i = judge_record (cell lines i) (cell words i) (cell pictographs i) i
