-- What is true of every run of clusters (SCOPE 12.5), and of its step. Assumes nothing.
use Rattle.std.specs.Prelude.{Ok, Err}
use Prim.Native.Nat.{ℕ, ◌+◌, ◌<◌, ◌≤◌}
use mathlib.Core.Path.{◌≡◌, refl, ◌∙◌, ap}
use mathlib.Core.Bool.{Bool, true, false, cond}
use mathlib.Core.List.{List, [], ◌∷◌}
use native.Mathlib.Omega.{arith}
use lib.ListN.{length}
use Rattle.basics.specs.Columns.{cells}
use Rattle.classes.specs.ClusterBreak.{XX, CN, RI, EX, ZWJ, len}
use Rattle.records.specs.Text.{cell}
use Rattle.records.specs.Refusals.{refuse, ◌⊳◌, over}
use Rattle.records.specs.Offences.{marked_table_of, room_line, ByTable}
use Rattle.records.specs.declared.Refusal.{Refusal}
use Rattle.records.specs.declared.Side.TheVariants.{Record, Neither}
use Rattle.records.specs.Verdict.{Verdict}
use Rattle.records.proofs.Judged.{marked_by_table, marked_run_by_table}
use Rattle.records.proofs.Marks.{fine}
use Rattle.records.proofs.Tables.{first_of, by_table}
use Rattle.records.proofs.Unique.{unique}
use Rattle.records.proofs.Written as Written
use Rattle.uax29.specs.Clusters.{is, is_not, among, pictographic, anything, edge, any, one, next, many, pairs, applies, decide, item_at, before_in, items_from, boundary_at, GB1, GB2, GB3, GB4, GB5, GB6, GB7, GB8, GB9, GB9a, GB9b, GB11, GB12, GB13, GB999}
use Rattle.uax29.specs.Graphemes.{start_at, grapheme_check, grapheme_verdict, grapheme_cells}
use Rattle.uax29.specs.GraphemeStep.{start_state, summary, advance, kept_rules, near, starts, item, bad_record, bad_state, step_verdict, step_under, step_of}
use Rattle.uax29.specs.GraphemeRefusals.{step_table}
use Rattle.uax29.specs.declared.graphemes.GraphemeState.{GraphemeState}
use Rattle.uax29.specs.declared.graphemes.GraphemeStep.{GraphemeStep}
use Rattle.uax29.proofs.GraphemeSummary.{summary_none, state_at, state_more, start_is}
use Rattle.uax29.proofs.GraphemeStanding.{states_stand, text_to, reaches}

-- # The two engines

module _ (breaks marks out : List ℕ) where
  -- the contract of both: the verdict, and the lent column afterwards
  abbrev GraphemesRan : Verdict → List ℕ → Type 0
  GraphemesRan r out' = (r ≡ grapheme_verdict breaks marks (length out)) × (out' ≡ grapheme_cells breaks marks out)

  -- no two results fulfil it (SCOPE 10)
  pub grapheme_run_unique : (r q : Verdict) (out' out'' : List ℕ) → GraphemesRan r out' → GraphemesRan q out'' → (r ≡ q) × (out' ≡ out'')
  grapheme_run_unique r q out' out'' a b = Written.ran_unique (start_at breaks marks) (length breaks) out (grapheme_verdict breaks marks (length out)) r q out' out'' a b

  -- The two engines "are equal on every text": back and forward are what `graphemes_back` and `graphemes_forward` leave.
  pub engines_agree : (r q : Verdict) (back forward : List ℕ) → GraphemesRan r back → GraphemesRan q forward → (r ≡ q) × (back ≡ forward)
  engines_agree = grapheme_run_unique

  -- The cells: with a refusal as they were, else a record's cell has its answer, and a cell past the records is as it was.
  pub refused_keeps : (r : Refusal) → grapheme_verdict breaks marks (length out) ≡ Err r → grapheme_cells breaks marks out ≡ out
  refused_keeps r e = Written.refused_keeps (start_at breaks marks) (length breaks) out (grapheme_verdict breaks marks (length out)) r e

  pub record_cell : (i : ℕ) → i < length breaks → grapheme_verdict breaks marks (length out) ≡ Ok tt → cell (grapheme_cells breaks marks out) i ≡ start_at breaks marks i
  record_cell i h e = Written.record_cell (start_at breaks marks) (length breaks) out (grapheme_verdict breaks marks (length out)) i h e

  pub later_cell : (k : ℕ) → grapheme_verdict breaks marks (length out) ≡ Ok tt → cell (grapheme_cells breaks marks out) (length breaks + k) ≡ cell out (length breaks + k)
  later_cell k e = Written.later_cell (start_at breaks marks) (length breaks) out (grapheme_verdict breaks marks (length out)) k e

pub grapheme_check_unique : (breaks marks : List ℕ) (a b : Verdict) → a ≡ grapheme_check breaks marks → b ≡ grapheme_check breaks marks → a ≡ b
grapheme_check_unique breaks marks = unique (grapheme_check breaks marks)

pub grapheme_step_unique : (s : GraphemeState) (kind marked : ℕ) (a b : GraphemeStep) → a ≡ step_of s kind marked → b ≡ step_of s kind marked → a ≡ b
grapheme_step_unique s kind marked = unique (step_of s kind marked)

-- # The step, fed as text comes

-- before the first record the state is the start state
pub begins : (breaks marks : List ℕ) → state_at breaks marks 0 ≡ start_state
unfolding before_in
begins breaks marks = summary_none

step_is : (v : Verdict) (s t : GraphemeState) (kind marked answer : ℕ) → v ≡ Ok tt → t ≡ advance s (item kind marked) → answer ≡ cond (starts s (item kind marked)) 1 0
    → step_under v s kind marked ≡ record { state = t; answer = answer; verdict = Ok tt }
step_is v s t kind marked answer e f g = rw (e, f, g)

-- a text that the check accepts
module _ (breaks marks : List ℕ) (accepted : grapheme_check breaks marks ≡ Ok tt) where
  -- its states are never bad ones: 8 is never met
  pub state_good : (i : ℕ) → i ≤ length breaks → bad_state (state_at breaks marks i) ≡ false
  state_good i h = (states_stand breaks marks accepted i h).good

  step_accepts : (i : ℕ) → i < length breaks → step_verdict (state_at breaks marks i) (cell breaks i) (cell marks i) ≡ Ok tt
  unfolding step_verdict
  step_accepts i h = rw ((fine len breaks marks accepted i h).0, (fine len breaks marks accepted i h).1, state_good i (omega arith))

  -- The step, refusals and all, leads from the state before a record to the one after it and gives the answer of the rules.
  pub graphemes_fold : (i : ℕ) → i < length breaks
      → step_of (state_at breaks marks i) (cell breaks i) (cell marks i) ≡ record { state = state_at breaks marks (i + 1); answer = start_at breaks marks i; verdict = Ok tt }
  graphemes_fold i h =
      step_is (step_verdict (state_at breaks marks i) (cell breaks i) (cell marks i)) (state_at breaks marks i) (state_at breaks marks (i + 1)) (cell breaks i) (cell marks i) (start_at breaks marks i)
      (step_accepts i h) (state_more breaks marks i) (start_is breaks marks accepted i h)

  -- The first record's answer is 1.
  pub first_starts : 0 < length breaks → start_at breaks marks 0 ≡ 1
  first_starts h = start_is breaks marks accepted 0 h ∙ ap (λ s. cond (starts s (item_at breaks marks 0)) 1 0) (begins breaks marks)
      ∙ (unfold starts near kept_rules decide applies GB1 edge any in refl)

-- 8 for "a state that no text leads to", and for no other: to a state that is not bad a text of two records at most leads.
pub good_reached : (s : GraphemeState) → bad_state s ≡ false → summary (text_to s) ≡ s
good_reached = reaches

-- # The refusals, each exactly where its line holds

-- The check's: 1, 2 and 4.
pub grapheme_check_by_table : (breaks marks : List ℕ) → ByTable (1 ∷ 2 ∷ 4 ∷ []) (marked_table_of len breaks marks []) (grapheme_check breaks marks)
grapheme_check_by_table breaks marks = marked_by_table len breaks marks

-- The run's: 1, 2, 4 and 9.
pub grapheme_run_by_table : (breaks marks : List ℕ) (room : ℕ) → ByTable (1 ∷ 2 ∷ 4 ∷ 9 ∷ []) (marked_table_of len breaks marks (room_line breaks room ∷ [])) (grapheme_verdict breaks marks room)
grapheme_run_by_table breaks marks room = marked_run_by_table len breaks marks room

module _ (s : GraphemeState) (kind marked : ℕ) where
  step_lines : step_verdict s kind marked ≡ first_of (step_table s kind marked)
  unfolding step_verdict over
  step_lines = go (bad_record kind marked) (bad_state s)
    where
      go : (a b : Bool) → refuse a 4 Record 0 ⊳ refuse b 8 Neither 0 ≡ ((refuse a 4 Record 0 ⊳ (Ok tt)) ⊳ (Ok tt)) ⊳ refuse b 8 Neither 0 ⊳ (Ok tt)
      go true b = refl
      go false true = refl
      go false false = refl

  step_says : (v : Verdict) → (step_under v s kind marked).verdict ≡ v
  step_says (Ok _) = refl
  step_says (Err r) = refl

  -- The step's: 4 of the record, index 0, and 8.
  pub grapheme_step_by_table : ByTable (4 ∷ 8 ∷ []) (step_table s kind marked) (step_of s kind marked).verdict
  grapheme_step_by_table =
      by_table _ (step_table s kind marked) (record { before = refl; parts = λ i. refl; records = λ i. refl; after = refl }) (step_of s kind marked).verdict
      (step_says (step_verdict s kind marked) ∙ step_lines)

-- # Smallest texts, computed

abbrev starts_of : List ℕ → List ℕ → List ℕ
starts_of breaks marks = cells (start_at breaks marks) (length breaks)

-- marks may stand on any class: EX(e) ZWJ XX(e); XX(e) ZWJ(e) ZWJ XX(e), where a ZWJ ends one match and begins another; CN(e) ZWJ XX(e);
-- and RI are counted back to the first record that is none: RI EX RI RI
pub read_texts : (starts_of (EX ∷ ZWJ ∷ XX ∷ []) (1 ∷ 0 ∷ 1 ∷ []) ≡ 1 ∷ 0 ∷ 0 ∷ [])
    × ((starts_of (XX ∷ ZWJ ∷ ZWJ ∷ XX ∷ []) (1 ∷ 1 ∷ 0 ∷ 1 ∷ []) ≡ 1 ∷ 0 ∷ 0 ∷ 0 ∷ [])
    × ((starts_of (CN ∷ ZWJ ∷ XX ∷ []) (1 ∷ 0 ∷ 1 ∷ []) ≡ 1 ∷ 1 ∷ 0 ∷ [])
    × (starts_of (RI ∷ EX ∷ RI ∷ RI ∷ []) (0 ∷ 0 ∷ 0 ∷ 0 ∷ []) ≡ 1 ∷ 0 ∷ 1 ∷ 0 ∷ [])))
unfolding cells start_at boundary_at decide applies is is_not among pictographic anything edge any one next many pairs before_in items_from GB1 GB2 GB3 GB4 GB5 GB6 GB7 GB8 GB9 GB9a GB9b GB11 GB12 GB13 GB999
read_texts = (refl, (refl, (refl, refl)))
