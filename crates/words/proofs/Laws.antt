-- What is true of every word run.
-- Assumes nothing.
use Rattle.std.specs.Prelude.{Ok, Err, Some, None}
use Prim.Native.Nat.{ℕ, zero, suc, ◌+◌, ◌<◌, ◌≤◌}
use mathlib.Core.Path.{◌≡◌, refl, sym, ◌∙◌, ap}
use mathlib.Core.Bool.{Bool, true, false, cond}
use mathlib.Core.List.{List}
use native.Mathlib.Omega.{arith}
use native.Mathlib.Numerals.{add-one}
use lib.Dec.{ltb}
use lib.ListN.{length, get_or-eq_default}
use borrow.Author.Tests.{lt-leb, le-ltb, ltb-false}
use Rattle.classes.specs.WordBreak as WordBreak
use Rattle.records.specs.Text.{cell}
use Rattle.records.specs.Refusals.{word_verdict}
use Rattle.records.specs.declared.Refusal.{Refusal}
use Rattle.records.specs.Verdict.{Verdict}
use Rattle.records.proofs.Unique.{unique}
use Rattle.records.proofs.Written as Written
use Rattle.words.specs.declared.WordState.{WordState}
use Rattle.words.specs.declared.WordStep.{WordStep}
use Rattle.words.specs.Next.{Next}
use Rattle.words.specs.Rules.{exit_of, leaves, ruled}
use Rattle.words.specs.Step.{bad_state, step_verdict, step_of}
use Rattle.words.specs.Run.{next_at, step_from, state_at, answer_at, run_verdict, run_cells}
use Rattle.records.proofs.Marks.{fine, fine_class}
use Rattle.words.proofs.Accepted.{fine_next}
use Rattle.words.proofs.Effects.{leaves_bit, leaves_class, leaves_accepts, leaves_small, exit_small}

-- WB1: the answer is 1, of any state that is first, whatever comes, and so of every run.
pub first_answers : (s : WordState) (b pictograph : ℕ) (next : Next) → s.first ≡ true → (ruled s b pictograph next).answer ≡ 1
unfolding exit_of leaves
first_answers s b pictograph next h = rw h

pub run_begins : (words pictographs : List ℕ) → answer_at words pictographs 0 ≡ 1
unfolding answer_at state_at exit_of leaves
run_begins words pictographs = refl

-- Every answer is 0 or 1.
pub answer_bit : (words pictographs : List ℕ) (i : ℕ) → answer_at words pictographs i ≤ 1
unfolding answer_at
answer_bit words pictographs i = leaves_bit _ _ _

-- "A count of RI from 0 to 2" (SCOPE 7.1): it stays so over one record, and so it is before every record of every run.
pub rule_small : (s : WordState) (b pictograph : ℕ) (next : Next) → s.count ≤ 2 → (ruled s b pictograph next).state.count ≤ 2
rule_small s b pictograph next h = leaves_small s b h (exit_small s b pictograph next)

pub count_small : (words pictographs : List ℕ) (i : ℕ) → (state_at words pictographs i).count ≤ 2
unfolding state_at
count_small words pictographs zero = omega arith
count_small words pictographs (suc i) = rule_small (state_at words pictographs i) _ _ _ (count_small words pictographs i)

step_is : (r : WordStep) (state : WordState) (answer : ℕ) (verdict : Verdict) → r.state ≡ state → r.answer ≡ answer → r.verdict ≡ verdict → r ≡ record { state = state; answer = answer; verdict = verdict }
step_is r state answer verdict e f g = rw (← e, ← f, ← g)

-- a text that the check accepts
module _ (words pictographs : List ℕ) (accepted : word_verdict words pictographs ≡ Ok tt) where
  state_class : (i : ℕ) → i ≤ length words → (state_at words pictographs i).previous < WordBreak.len
  unfolding state_at
  state_class zero h = omega arith
  state_class (suc i) h =
      leaves_class WordBreak.len (state_at words pictographs i) (cell words i) _ (state_class i (omega arith)) (fine_class WordBreak.len words pictographs accepted i (omega arith))

  -- The run never meets refusal 8: its state is never a bad one.
  pub state_good : (i : ℕ) → i ≤ length words → bad_state (state_at words pictographs i) ≡ false
  state_good i h = rw (lt-leb _ _ (state_class i h), le-ltb _ _ (count_small words pictographs i))

  step_accepts : (i : ℕ) → i < length words → step_verdict (state_at words pictographs i) (cell words i) (cell pictographs i) (next_at words (i + 1)) ≡ Ok tt
  unfolding step_verdict
  step_accepts i h = rw ((fine WordBreak.len words pictographs accepted i h).0, (fine WordBreak.len words pictographs accepted i h).1, fine_next words pictographs accepted (i + 1), state_good i (omega arith))

  -- The run is the fold of the step: the public step, refusals and all, leads from the state before a record to the one after it
  -- and gives the run's answer.
  pub run_folds : (i : ℕ) → i < length words
      → step_of (state_at words pictographs i) (cell words i) (cell pictographs i) (next_at words (i + 1))
      ≡ record { state = state_at words pictographs (i + 1); answer = answer_at words pictographs i; verdict = Ok tt }
  unfolding answer_at state_at
  run_folds i h =
      rw (step_accepts i h) (step_is _ _ _ _ (ap (state_at words pictographs) (sym (add-one i))) refl (leaves_accepts (state_at words pictographs i) _ _))

class_or : Next → ℕ
class_or (Some c) = c
class_or None = 0

class_under : (words : List ℕ) (k : ℕ) (there : Bool) → ltb k (length words) ≡ there → cell words k ≡ class_or (cond there (Some (cell words k)) None)
unfolding class_or
class_under words k true e = refl
class_under words k false e = get_or-eq_default words 0 (ltb-false _ _ e)

agree_cell : (words words' : List ℕ) (i j : ℕ) → next_at words i ≡ next_at words' j → cell words i ≡ cell words' j
unfolding next_at
agree_cell words words' i j e =
    class_under words i (ltb i (length words)) refl ∙ ap class_or e ∙ sym (class_under words' j (ltb j (length words')) refl)

module _ (words words' pictographs pictographs' : List ℕ) where
  steps_agree : (i j : ℕ) → state_at words pictographs i ≡ state_at words' pictographs' j → next_at words i ≡ next_at words' j
      → cell pictographs i ≡ cell pictographs' j → next_at words (i + 1) ≡ next_at words' (j + 1)
      → step_from words pictographs (state_at words pictographs i) i ≡ step_from words' pictographs' (state_at words' pictographs' j) j
  steps_agree i j s w p n = rw (s, agree_cell words words' i j w, p, n)

  -- The answer at a record depends on the state, the record and at most the next one: where these are the same, in any two texts and
  -- at any two places, so is the answer.
  pub answers_agree : (i j : ℕ) → state_at words pictographs i ≡ state_at words' pictographs' j → next_at words i ≡ next_at words' j
      → cell pictographs i ≡ cell pictographs' j → next_at words (i + 1) ≡ next_at words' (j + 1)
      → answer_at words pictographs i ≡ answer_at words' pictographs' j
  unfolding answer_at
  answers_agree i j s w p n = ap (λ (r : WordStep). r.answer) (steps_agree i j s w p n)

  -- The state before a record depends on the records up to that one, and on the marks before it.
  pub states_alike : (i : ℕ) → ((k : ℕ) → k ≤ i → next_at words k ≡ next_at words' k) → ((k : ℕ) → k < i → cell pictographs k ≡ cell pictographs' k)
      → state_at words pictographs i ≡ state_at words' pictographs' i
  unfolding state_at
  states_alike zero w p = refl
  states_alike (suc i) w p =
      ap (λ (r : WordStep). r.state)
      (steps_agree i i (states_alike i (λ k h. w k (omega arith)) (λ k h. p k (omega arith))) (w i (omega arith)) (p i (omega arith)) (w (i + 1) (omega arith)))

  -- The step "looks no further ahead" than the next record (SCOPE 7.2): two texts have the same answer at a record where their classes
  -- agree up to the next record (they are the same, or both texts have ended) and their marks up to the record itself, whatever follows.
  pub answers_alike : (i : ℕ) → ((k : ℕ) → k ≤ i + 1 → next_at words k ≡ next_at words' k) → ((k : ℕ) → k ≤ i → cell pictographs k ≡ cell pictographs' k)
      → answer_at words pictographs i ≡ answer_at words' pictographs' i
  answers_alike i w p =
      answers_agree i i (states_alike i (λ k h. w k (omega arith)) (λ k h. p k (omega arith))) (w i (omega arith)) (p i (omega arith)) (w (i + 1) (omega arith))

-- The cells after a run: with a refusal as they were, else a record's cell has its answer, and a cell past the records is as it was.
module _ (words pictographs out : List ℕ) where
  pub refused_keeps : (r : Refusal) → run_verdict words pictographs (length out) ≡ Err r → run_cells words pictographs out ≡ out
  refused_keeps r e = Written.refused_keeps (answer_at words pictographs) (length words) out (run_verdict words pictographs (length out)) r e

  pub record_cell : (i : ℕ) → i < length words → run_verdict words pictographs (length out) ≡ Ok tt → cell (run_cells words pictographs out) i ≡ answer_at words pictographs i
  record_cell i h e = Written.record_cell (answer_at words pictographs) (length words) out (run_verdict words pictographs (length out)) i h e

  pub later_cell : (k : ℕ) → run_verdict words pictographs (length out) ≡ Ok tt → cell (run_cells words pictographs out) (length words + k) ≡ cell out (length words + k)
  later_cell k e = Written.later_cell (answer_at words pictographs) (length words) out (run_verdict words pictographs (length out)) k e

-- no two results fulfil the contracts (SCOPE 10)
pub word_step_unique : (s : WordState) (class pictograph : ℕ) (next : Next) (a b : WordStep) → a ≡ step_of s class pictograph next → b ≡ step_of s class pictograph next → a ≡ b
word_step_unique s class pictograph next = unique (step_of s class pictograph next)

module _ (words pictographs out : List ℕ) where
  -- a run's contract: its verdict, and the lent column afterwards
  abbrev WordRan : Verdict → List ℕ → Type 0
  WordRan r out' = (r ≡ run_verdict words pictographs (length out)) × (out' ≡ run_cells words pictographs out)

  pub word_run_unique : (r q : Verdict) (out' out'' : List ℕ) → WordRan r out' → WordRan q out'' → (r ≡ q) × (out' ≡ out'')
  word_run_unique r q out' out'' a b = Written.ran_unique (answer_at words pictographs) (length words) out (run_verdict words pictographs (length out)) r q out' out'' a b
