-- What is true of every run of clusters by an edition (SCOPE 12.6), and of its step. Assumes nothing.
use Rattle.std.specs.Prelude.{Ok, Err}
use Prim.Native.Nat.{ℕ, zero, suc, ◌+◌, ◌-◌, ◌<◌, ◌≤◌}
use mathlib.Core.Path.{◌≡◌, refl, sym, ◌∙◌, ap}
use mathlib.Core.Bool.{Bool, true, false, cond, not, ◌&&◌, ◌||◌, and-false}
use mathlib.Core.List.{List, [], ◌∷◌}
use native.Mathlib.Omega.{arith}
use native.Mathlib.Numerals.{add-one}
use lib.Dec.{eqb, ltb, leb}
use lib.ListN.{length}
use borrow.Author.Tests.{eqb-true, eqb-false, ne_eqb, leb-false}
use Rattle.basics.specs.Columns.{cells}
use Rattle.basics.proofs.Columns.{cells_same}
use Rattle.basics.proofs.Tests.{by_test}
use Rattle.classes.specs.ClusterBreak.{XX, CN, EX, ZWJ, SM}
use Rattle.classes.specs.ClusterBreak as ClusterBreak
use Rattle.records.specs.Text.{cell}
use Rattle.records.specs.Refusals.{refuse, ◌⊳◌, over, too_long, uneven, judge_lengths, judge_three}
use Rattle.records.specs.Offences.{room_line, ByTable}
use Rattle.records.specs.Written.{roomy, written_under}
use Rattle.records.specs.declared.Refusal.{Refusal}
use Rattle.records.specs.declared.Side.TheVariants.{Record, Neither}
use Rattle.records.specs.Verdict.{Verdict}
use Rattle.records.proofs.Marks.{three_listed}
use Rattle.records.proofs.Judged.{alone, over_same}
use Rattle.records.proofs.Tables.{by_table}
use Rattle.records.proofs.Unique.{unique}
use Rattle.records.proofs.Verdicts.{unrefused, passes}
use Rattle.records.proofs.Written as Written
use Rattle.uax29.specs.Conjunct.{Consonant, Linker, Extend, None}
use Rattle.uax29.specs.Conjunct as Conjunct
use Rattle.uax29.specs.Rules.{Item, is, is_not, among, pictographic, anything, edge, any, one, next, many, pairs, applies, decide, item_in, before_in, items_from}
use Rattle.uax29.specs.Clusters.{GB1, GB2, GB3, GB4, GB5, GB6, GB7, GB8, GB9, GB9a, GB9b, GB11, GB12, GB13, GB999}
use Rattle.uax29.specs.Graphemes.{start_at, grapheme_check, grapheme_verdict, grapheme_cells}
use Rattle.uax29.specs.GraphemeStep as Graphemes
use Rattle.uax29.specs.GraphemeStep.{no_class, summary, advance, starts, near, kept_rules}
use Rattle.uax29.specs.Editions.{joining, conjunct_is, begun, GB9c, rules_of, boundary_in}
use Rattle.uax29.specs.EditionRuns.{start_in, unknown, edition_check, edition_verdict, edition_cells}
use Rattle.uax29.specs.EditionStep.{start_state, summary_in, link_after, advance_in, starts_in, item_of, bad_link, bad_record_in, bad_state_in, step_verdict_in, step_under_in, step_in}
use Rattle.uax29.specs.Conjoined.{linked_at, conjoins, conjoined_at}
use Rattle.uax29.specs.EditionRefusals.{edition_table, edition_step_table}
use Rattle.uax29.specs.declared.editions.EditionState.{EditionState}
use Rattle.uax29.specs.declared.editions.EditionStep.{EditionStep}
use Rattle.uax29.proofs.EditionRules.{none_new, none_asked}
use Rattle.uax29.proofs.Bits.{bit}
use Rattle.uax29.proofs.EditionLaws.{graphemes_accepted, begun_column, linked_column, start_other, start_151, answer_other, answer_151}
use Rattle.uax29.proofs.GraphemeSummary.{summary_none, summary_more, state_at, start_is}
use Rattle.uax29.proofs.GraphemeStanding.{states_stand}
use Rattle.uax29.proofs.Links.{linked_begun}

-- # The two engines

module _ (edition : ℕ) (breaks marks conjuncts out : List ℕ) where
  -- the contract of both: the verdict, and the lent column afterwards
  abbrev EditionRan : Verdict → List ℕ → Type 0
  EditionRan r out' = (r ≡ edition_verdict edition breaks marks conjuncts (length out)) × (out' ≡ edition_cells edition breaks marks conjuncts out)

  -- no two results fulfil it (SCOPE 10), and so the engines are equal: back and forward are what `edition_back` and `edition_forward` leave
  pub edition_engines_agree : (r q : Verdict) (back forward : List ℕ) → EditionRan r back → EditionRan q forward → (r ≡ q) × (back ≡ forward)
  edition_engines_agree r q back forward a b =
      Written.ran_unique (start_in edition breaks marks conjuncts) (length breaks) out (edition_verdict edition breaks marks conjuncts (length out)) r q back forward a b

  pub edition_refused_keeps : (r : Refusal) → edition_verdict edition breaks marks conjuncts (length out) ≡ Err r → edition_cells edition breaks marks conjuncts out ≡ out
  edition_refused_keeps r e = rw e

  pub edition_record_cell : (i : ℕ) → i < length breaks → edition_verdict edition breaks marks conjuncts (length out) ≡ Ok tt → cell (edition_cells edition breaks marks conjuncts out) i ≡ start_in edition breaks marks conjuncts i
  edition_record_cell i h e =
      Written.record_cell (start_in edition breaks marks conjuncts) (length breaks) out (edition_verdict edition breaks marks conjuncts (length out)) i h e

  pub edition_later_cell : (k : ℕ) → edition_verdict edition breaks marks conjuncts (length out) ≡ Ok tt → cell (edition_cells edition breaks marks conjuncts out) (length breaks + k) ≡ cell out (length breaks + k)
  edition_later_cell k e =
      Written.later_cell (start_in edition breaks marks conjuncts) (length breaks) out (edition_verdict edition breaks marks conjuncts (length out)) k e

-- # The editions beside each other

-- 15.0 is what Req 05 has, whatever the third column holds
pub start_150 : (breaks marks conjuncts : List ℕ) (i : ℕ) → start_in 150 breaks marks conjuncts i ≡ start_at breaks marks i
start_150 breaks marks conjuncts i = start_other 150 breaks marks conjuncts i (λ e. omega (arith, e))

-- "no place is a start in 15.1 that wasn't one in 15.0"
pub no_new_start : (breaks marks conjuncts : List ℕ) (i : ℕ) → start_in 151 breaks marks conjuncts i ≡ 1 → start_in 150 breaks marks conjuncts i ≡ 1
unfolding start_in
no_new_start breaks marks conjuncts i h =
    by_test (boundary_in 151 breaks marks conjuncts i)
    (λ b. rw (none_new breaks marks conjuncts i b))
    (λ b. absurd (let z : ◌≡◌ {A = ℕ} 0 1 = rw b at h in omega arith))

-- "A text whose new column holds only 0 gives equal answers in both"
pub same_answers : (breaks marks conjuncts : List ℕ) → ((i : ℕ) → i < length breaks → cell conjuncts i ≡ 0)
    → cells (start_in 151 breaks marks conjuncts) (length breaks) ≡ cells (start_in 150 breaks marks conjuncts) (length breaks)
same_answers breaks marks conjuncts none =
    cells_same (start_in 151 breaks marks conjuncts) (start_in 150 breaks marks conjuncts) (length breaks)
    (λ i h. unfold start_in in ap (λ b. cond b 1 0) (none_asked breaks marks conjuncts i (none i h)))

-- the column is judged in both: a text that one accepts the other does too, and each refuses as the other
pub same_verdict : (breaks marks conjuncts : List ℕ) (room : ℕ) → edition_verdict 151 breaks marks conjuncts room ≡ edition_verdict 150 breaks marks conjuncts room
same_verdict breaks marks conjuncts room =
    let e : edition_check 151 breaks marks conjuncts ≡ edition_check 150 breaks marks conjuncts = unfold edition_check in refl in
    ap (λ v. roomy v (length breaks) room) e

-- the same answers, the same column
written_same : (v : Verdict) (f g : ℕ → ℕ) (n : ℕ) (out : List ℕ) → cells f n ≡ cells g n → written_under v f n out ≡ written_under v g n out
written_same (Ok _) f g n out e = rw e
written_same (Err r) f g n out e = refl

-- and so do the runs: the same verdict, and the same cells of the lent column
pub same_runs : (breaks marks conjuncts out : List ℕ) → ((i : ℕ) → i < length breaks → cell conjuncts i ≡ 0)
    → (edition_verdict 151 breaks marks conjuncts (length out) ≡ edition_verdict 150 breaks marks conjuncts (length out)) × (edition_cells 151 breaks marks conjuncts out ≡ edition_cells 150 breaks marks conjuncts out)
same_runs breaks marks conjuncts out none =
    let v = same_verdict breaks marks conjuncts (length out) in
    (v, ap (λ w. written_under w (start_in 151 breaks marks conjuncts) (length breaks) out) v ∙ written_same (edition_verdict 150 breaks marks conjuncts (length out)) _ _ (length breaks) out (same_answers breaks marks conjuncts none))

-- what 15.0 leaves in the column is what the run of 12.5 leaves, on every text that is accepted here
pub cells_150 : (breaks marks conjuncts out : List ℕ) → edition_verdict 150 breaks marks conjuncts (length out) ≡ Ok tt → edition_cells 150 breaks marks conjuncts out ≡ grapheme_cells breaks marks out
cells_150 breaks marks conjuncts out h =
    let p = passes (edition_check 150 breaks marks conjuncts) _ h in
    let e : grapheme_verdict breaks marks (length out) ≡ (Ok tt) = rw (graphemes_accepted 150 breaks marks conjuncts p.0) p.1 in
    rw (h, e) (rw (cells_same (start_in 150 breaks marks conjuncts) (start_at breaks marks) (length breaks) (λ i k. start_150 breaks marks conjuncts i)))

-- # The refusals, each exactly where its line holds

-- the lines one after the other, where o is what is said of the records and d what comes behind
four : (a b c : Bool) (o d : Verdict) → (refuse a 15 Neither 0 ⊳ (refuse b 1 Neither 0 ⊳ refuse c 2 Neither 0) ⊳ o) ⊳ d ≡ (refuse a 15 Neither 0 ⊳ refuse b 1 Neither 0 ⊳ refuse c 2 Neither 0 ⊳ (Ok tt)) ⊳ (Ok tt) ⊳ o ⊳ d
four true b c o d = refl
four false true c o d = refl
four false false true o d = refl
four false false false o d = refl

module _ (edition : ℕ) (breaks marks conjuncts : List ℕ) where
  judge : ℕ → Verdict
  judge i = judge_three ClusterBreak.len Conjunct.len (cell breaks i) (cell conjuncts i) (cell marks i) i

  lengths : List ℕ
  lengths = length breaks ∷ length conjuncts ∷ length marks ∷ []

  lines_are : (d : Verdict) → edition_check edition breaks marks conjuncts ⊳ d
      ≡ (refuse (unknown edition) 15 Neither 0 ⊳ refuse (too_long lengths || false) 1 Neither 0 ⊳ refuse (uneven lengths || false) 2 Neither 0 ⊳ (Ok tt))
      ⊳ (Ok tt) ⊳ over (λ i. judge i ⊳ (Ok tt)) 0 (length breaks) ⊳ d
  unfolding edition_check judge_lengths judge lengths
  lines_are d =
      ap (λ o. (refuse (unknown edition) 15 Neither 0 ⊳ (refuse (too_long lengths || false) 1 Neither 0 ⊳ refuse (uneven lengths || false) 2 Neither 0) ⊳ o) ⊳ d)
      (over_same judge (λ i. judge i ⊳ (Ok tt)) (λ i. sym (alone (judge i))) (length breaks) 0)
      ∙ four (unknown edition) (too_long lengths || false) (uneven lengths || false) (over (λ i. judge i ⊳ (Ok tt)) 0 (length breaks)) d

  -- The check's: 15, 1, 2 and 4, in this order.
  pub edition_check_by_table : ByTable (15 ∷ 1 ∷ 2 ∷ 4 ∷ []) (edition_table edition breaks marks conjuncts []) (edition_check edition breaks marks conjuncts)
  unfolding judge lengths judge_three over
  edition_check_by_table =
      by_table _ (edition_table edition breaks marks conjuncts []) (record { before = refl; parts = λ i. refl; records = λ i. refl; after = refl })
      (edition_check edition breaks marks conjuncts) (sym (alone (edition_check edition breaks marks conjuncts)) ∙ lines_are (Ok tt))

  -- The runs': 9 behind them.
  pub edition_run_by_table : (room : ℕ) → ByTable (15 ∷ 1 ∷ 2 ∷ 4 ∷ 9 ∷ []) (edition_table edition breaks marks conjuncts (room_line breaks room ∷ [])) (edition_verdict edition breaks marks conjuncts room)
  unfolding judge lengths judge_three over
  edition_run_by_table room =
      by_table _ (edition_table edition breaks marks conjuncts (room_line breaks room ∷ [])) (record { before = refl; parts = λ i. refl; records = λ i. refl; after = refl })
      (edition_verdict edition breaks marks conjuncts room)
      (ap (λ d. edition_check edition breaks marks conjuncts ⊳ d) (sym (alone (refuse (ltb room (length breaks)) 9 Neither 0))) ∙ lines_are (refuse (ltb room (length breaks)) 9 Neither 0 ⊳ (Ok tt)))

module _ (edition : ℕ) (s : EditionState) (kind marked conjunct : ℕ) where
  step_lines : (a b c : Bool) → refuse a 15 Neither 0 ⊳ refuse b 4 Record 0 ⊳ refuse c 8 Neither 0 ≡ (refuse a 15 Neither 0 ⊳ (Ok tt)) ⊳ (Ok tt) ⊳ ((refuse b 4 Record 0 ⊳ (Ok tt)) ⊳ (Ok tt)) ⊳ refuse c 8 Neither 0 ⊳ (Ok tt)
  step_lines true b c = refl
  step_lines false true c = refl
  step_lines false false true = refl
  step_lines false false false = refl

  step_says : (v : Verdict) → (step_under_in v edition s kind marked conjunct).verdict ≡ v
  step_says (Ok _) = refl
  step_says (Err r) = refl

  -- The step's: 15, 4 of the record, index 0, and 8.
  pub edition_step_by_table : ByTable (15 ∷ 4 ∷ 8 ∷ []) (edition_step_table edition s kind marked conjunct) (step_in edition s kind marked conjunct).verdict
  unfolding over
  edition_step_by_table =
      by_table _ (edition_step_table edition s kind marked conjunct) (record { before = refl; parts = λ i. refl; records = λ i. refl; after = refl }) (step_in edition s kind marked conjunct).verdict
      (step_says (step_verdict_in edition s kind marked conjunct) ∙ (unfold step_verdict_in in step_lines (unknown edition) (bad_record_in kind marked conjunct) (bad_state_in s)))

pub edition_check_unique : (edition : ℕ) (breaks marks conjuncts : List ℕ) (a b : Verdict) → a ≡ edition_check edition breaks marks conjuncts → b ≡ edition_check edition breaks marks conjuncts → a ≡ b
edition_check_unique edition breaks marks conjuncts = unique (edition_check edition breaks marks conjuncts)

pub edition_step_unique : (edition : ℕ) (s : EditionState) (kind marked conjunct : ℕ) (a b : EditionStep) → a ≡ step_in edition s kind marked conjunct → b ≡ step_in edition s kind marked conjunct → a ≡ b
edition_step_unique edition s kind marked conjunct = unique (step_in edition s kind marked conjunct)

-- # The step, fed as text comes

-- the state before the record at an index of three columns
abbrev pub state_of : List ℕ → List ℕ → List ℕ → ℕ → EditionState
state_of breaks marks conjuncts i = summary_in (before_in breaks marks conjuncts i)

pub edition_begins : (breaks marks conjuncts : List ℕ) → state_of breaks marks conjuncts 0 ≡ start_state
unfolding summary_in before_in begun GB9c many one next
edition_begins breaks marks conjuncts = ap (λ g. record { graphemes = g; link = record { begun = false; linked = false } }) summary_none

pub summary_more_in : (x : Item) (xs : List Item) → summary_in (x ∷ xs) ≡ advance_in (summary_in xs) x
unfolding summary_in advance_in link_after begun GB9c many one next conjunct_is joining
summary_more_in x xs = rw (summary_more x xs)

module _ (breaks marks conjuncts : List ℕ) where
  state_more_in : (i : ℕ) → state_of breaks marks conjuncts (i + 1) ≡ advance_in (state_of breaks marks conjuncts i) (item_in breaks marks conjuncts i)
  unfolding before_in
  state_more_in i = ap (state_of breaks marks conjuncts) (add-one i) ∙ summary_more_in (item_in breaks marks conjuncts i) (before_in breaks marks conjuncts i)

  -- the state of 15.0 does not ask for conjuncts
  state_blind : (i : ℕ) → summary (before_in breaks marks conjuncts i) ≡ state_at breaks marks i
  unfolding before_in
  state_blind zero = refl
  state_blind (suc i) =
      let same : advance (state_at breaks marks i) (item_in breaks marks conjuncts i) ≡ advance (state_at breaks marks i) (item_in breaks marks [] i) = unfold advance is pictographic in refl in
      summary_more (item_in breaks marks conjuncts i) (before_in breaks marks conjuncts i)
      ∙ ap (λ s. advance s (item_in breaks marks conjuncts i)) (state_blind i)
      ∙ same
      ∙ sym (summary_more (item_in breaks marks [] i) (before_in breaks marks [] i))

-- a text that the check accepts
module _ (edition : ℕ) (breaks marks conjuncts : List ℕ) (accepted : edition_check edition breaks marks conjuncts ≡ Ok tt) where
  check_parts : (unknown edition ≡ false) × ((judge_lengths (length breaks ∷ length conjuncts ∷ length marks ∷ []) [] ≡ Ok tt)
      × (over (λ i. judge_three ClusterBreak.len Conjunct.len (cell breaks i) (cell conjuncts i) (cell marks i) i) 0 (length breaks) ≡ Ok tt))
  unfolding edition_check
  check_parts =
      let p = passes (refuse (unknown edition) 15 Neither 0) _ accepted in
      (unrefused _ 15 Neither 0 p.0, passes (judge_lengths (length breaks ∷ length conjuncts ∷ length marks ∷ []) []) _ p.1)

  listed : (i : ℕ) → i < length breaks → (leb ClusterBreak.len (cell breaks i) ≡ false) × ((leb Conjunct.len (cell conjuncts i) ≡ false) × (leb 2 (cell marks i) ≡ false))
  listed i h = three_listed ClusterBreak.len Conjunct.len breaks conjuncts marks check_parts.1.0 check_parts.1.1 i h

  fine : grapheme_check breaks marks ≡ Ok tt
  fine = graphemes_accepted edition breaks marks conjuncts accepted

  link_good : (i : ℕ) → i ≤ length breaks → bad_link (state_of breaks marks conjuncts i).link (state_of breaks marks conjuncts i).graphemes.previous ≡ false
  unfolding summary_in summary before_in
  link_good zero h = unfold begun GB9c many one next in refl
  link_good (suc i) h =
      let apart : eqb (cell breaks i) no_class ≡ false = ne_eqb (cell breaks i) no_class (λ e. omega (arith, leb-false ClusterBreak.len (cell breaks i) (listed i (omega arith)).0, e)) in
      rw (apart, and-false (begun (before_in breaks marks conjuncts (suc i)))) (no_link_lem (begun (before_in breaks marks conjuncts (suc i))) (GB9c.before (before_in breaks marks conjuncts (suc i)))
      (λ k. begun_column breaks marks conjuncts (suc i) ∙ linked_begun conjuncts (suc i) (sym (linked_column breaks marks conjuncts (suc i)) ∙ k)))
    where
      no_link_lem : (b l : Bool) → (l ≡ true → b ≡ true) → ((l && not b) || false) ≡ false
      no_link_lem true true f = refl
      no_link_lem false true f = sym (f refl)
      no_link_lem true false f = refl
      no_link_lem false false f = refl

  -- its states are never bad ones: 8 is never met
  pub edition_state_good : (i : ℕ) → i ≤ length breaks → bad_state_in (state_of breaks marks conjuncts i) ≡ false
  edition_state_good i h =
      let g : Graphemes.bad_state (state_of breaks marks conjuncts i).graphemes ≡ false =
      unfold summary_in in ap Graphemes.bad_state (state_blind breaks marks conjuncts i) ∙ (states_stand breaks marks fine i h).good in
      rw (g, link_good i h)

  step_accepts : (i : ℕ) → i < length breaks → step_verdict_in edition (state_of breaks marks conjuncts i) (cell breaks i) (cell marks i) (cell conjuncts i) ≡ Ok tt
  unfolding step_verdict_in
  step_accepts i h = rw (check_parts.0, (listed i h).0, (listed i h).1.0, (listed i h).1.1, edition_state_good i (omega arith))

  -- what is taken away at a place is what is taken away in its state
  taken_alike : (i : ℕ) → conjoined_at breaks conjuncts i ≡ conjoins (state_of breaks marks conjuncts i).link.linked (cell conjuncts i) (state_of breaks marks conjuncts i).graphemes.previous (cell breaks i)
  unfolding conjoined_at summary_in summary
  taken_alike zero = rw (linked_column breaks marks conjuncts 0) (unfold linked_at conjoins in refl)
  taken_alike (suc i) =
      let e : suc i - 1 ≡ i = omega arith in
      rw (linked_column breaks marks conjuncts (suc i), e) (unfold before_in in refl)

  -- the answer of the rules is that of the state
  answer_is : (i : ℕ) → i < length breaks → start_in edition breaks marks conjuncts i ≡ cond (starts_in edition (state_of breaks marks conjuncts i) (item_in breaks marks conjuncts i)) 1 0
  answer_is i h =
      let s = state_of breaks marks conjuncts i in
      let good = edition_state_good i (omega arith) in
      let b = starts s.graphemes (Graphemes.item (cell breaks i) (cell marks i)) in
      let known : start_at breaks marks i ≡ cond b 1 0 =
      start_is breaks marks fine i h ∙ (unfold summary_in in ap (λ t. cond (starts t (Graphemes.item (cell breaks i) (cell marks i))) 1 0) (sym (state_blind breaks marks conjuncts i))) in
      by_test (eqb edition 151)
      (λ k. answer_151 edition s (cell breaks i) (cell marks i) (cell conjuncts i) good b (start_at breaks marks i) refl (known ∙ sym (bit b)) (conjoined_at breaks conjuncts i) _ (eqb-true _ _ k) (taken_alike i)
      (start_151 edition breaks marks conjuncts i (eqb-true _ _ k) h))
      (λ k. start_other edition breaks marks conjuncts i (eqb-false _ _ k) ∙ answer_other edition s (cell breaks i) (cell marks i) (cell conjuncts i) good b (start_at breaks marks i) refl (known ∙ sym (bit b)) (eqb-false _ _ k))

  step_is : (v : Verdict) (s t : EditionState) (kind marked conjunct answer : ℕ) → v ≡ Ok tt → t ≡ advance_in s (item_of kind marked conjunct) → answer ≡ cond (starts_in edition s (item_of kind marked conjunct)) 1 0
      → step_under_in v edition s kind marked conjunct ≡ record { state = t; answer = answer; verdict = Ok tt }
  step_is v s t kind marked conjunct answer e f g = rw (e, f, g)

  -- The step, refusals and all, leads from the state before a record to the one after it and gives the answer of the edition's rules.
  pub edition_fold : (i : ℕ) → i < length breaks
      → step_in edition (state_of breaks marks conjuncts i) (cell breaks i) (cell marks i) (cell conjuncts i)
      ≡ record { state = state_of breaks marks conjuncts (i + 1); answer = start_in edition breaks marks conjuncts i; verdict = Ok tt }
  edition_fold i h =
      step_is (step_verdict_in edition (state_of breaks marks conjuncts i) (cell breaks i) (cell marks i) (cell conjuncts i)) (state_of breaks marks conjuncts i) (state_of breaks marks conjuncts (i + 1)) (cell breaks i) (cell marks i) (cell conjuncts i) (start_in edition breaks marks conjuncts i)
      (step_accepts i h) (state_more_in breaks marks conjuncts i) (answer_is i h)

-- # Smallest texts, computed

abbrev starts_of : ℕ → List ℕ → List ℕ → List ℕ
starts_of edition breaks conjuncts = cells (start_in edition breaks [] conjuncts) (length breaks)

-- consonant, linker, consonant; an extender before or behind the linker; without a linker; none in between; and XX CN EX XX, where the
-- column is looked at alone
pub edition_texts : (starts_of 151 (XX ∷ EX ∷ XX ∷ []) (Consonant ∷ Linker ∷ Consonant ∷ []) ≡ 1 ∷ 0 ∷ 0 ∷ [])
    × ((starts_of 150 (XX ∷ EX ∷ XX ∷ []) (Consonant ∷ Linker ∷ Consonant ∷ []) ≡ 1 ∷ 0 ∷ 1 ∷ [])
    × ((starts_of 151 (XX ∷ EX ∷ ZWJ ∷ XX ∷ []) (Consonant ∷ Linker ∷ Extend ∷ Consonant ∷ []) ≡ 1 ∷ 0 ∷ 0 ∷ 0 ∷ [])
    × ((starts_of 151 (XX ∷ EX ∷ EX ∷ XX ∷ []) (Consonant ∷ Extend ∷ Linker ∷ Consonant ∷ []) ≡ 1 ∷ 0 ∷ 0 ∷ 0 ∷ [])
    × ((starts_of 151 (XX ∷ EX ∷ XX ∷ []) (Consonant ∷ Extend ∷ Consonant ∷ []) ≡ 1 ∷ 0 ∷ 1 ∷ [])
    × ((starts_of 151 (XX ∷ EX ∷ EX ∷ XX ∷ []) (Consonant ∷ None ∷ Linker ∷ Consonant ∷ []) ≡ 1 ∷ 0 ∷ 0 ∷ 1 ∷ [])
    × (starts_of 151 (XX ∷ CN ∷ EX ∷ XX ∷ []) (Consonant ∷ Linker ∷ Extend ∷ Consonant ∷ []) ≡ 1 ∷ 1 ∷ 1 ∷ 0 ∷ []))))))
unfolding cells start_in boundary_in rules_of decide applies is is_not among pictographic conjunct_is joining begun anything edge any one next many pairs before_in items_from GB1 GB2 GB3 GB4 GB5 GB6 GB7 GB8 GB9 GB9a GB9b GB9c GB11 GB12 GB13 GB999
edition_texts = (refl, (refl, (refl, (refl, (refl, (refl, refl))))))

-- in 15.0, whose answers are before those of 15.1
abbrev Both : List ℕ → List ℕ → List ℕ → List ℕ → Type 0
Both breaks conjuncts old new = (starts_of 150 breaks conjuncts ≡ old) × (starts_of 151 breaks conjuncts ≡ new)

-- consonant, linker, consonant; an extender behind or before the linker; without a linker; none in between; XX CN EX XX, where the column
-- is looked at alone; and XX CN XX, where GB4 and GB5 decide before it
pub edition_texts_both : Both (XX ∷ EX ∷ XX ∷ []) (Consonant ∷ Linker ∷ Consonant ∷ []) (1 ∷ 0 ∷ 1 ∷ []) (1 ∷ 0 ∷ 0 ∷ [])
    × (Both (XX ∷ EX ∷ ZWJ ∷ XX ∷ []) (Consonant ∷ Linker ∷ Extend ∷ Consonant ∷ []) (1 ∷ 0 ∷ 0 ∷ 1 ∷ []) (1 ∷ 0 ∷ 0 ∷ 0 ∷ [])
    × (Both (XX ∷ EX ∷ EX ∷ XX ∷ []) (Consonant ∷ Extend ∷ Linker ∷ Consonant ∷ []) (1 ∷ 0 ∷ 0 ∷ 1 ∷ []) (1 ∷ 0 ∷ 0 ∷ 0 ∷ [])
    × (Both (XX ∷ EX ∷ XX ∷ []) (Consonant ∷ Extend ∷ Consonant ∷ []) (1 ∷ 0 ∷ 1 ∷ []) (1 ∷ 0 ∷ 1 ∷ [])
    × (Both (XX ∷ EX ∷ EX ∷ XX ∷ []) (Consonant ∷ None ∷ Linker ∷ Consonant ∷ []) (1 ∷ 0 ∷ 0 ∷ 1 ∷ []) (1 ∷ 0 ∷ 0 ∷ 1 ∷ [])
    × (Both (XX ∷ CN ∷ EX ∷ XX ∷ []) (Consonant ∷ Linker ∷ Extend ∷ Consonant ∷ []) (1 ∷ 1 ∷ 1 ∷ 1 ∷ []) (1 ∷ 1 ∷ 1 ∷ 0 ∷ [])
    × Both (XX ∷ CN ∷ XX ∷ []) (Consonant ∷ Linker ∷ Consonant ∷ []) (1 ∷ 1 ∷ 1 ∷ []) (1 ∷ 1 ∷ 1 ∷ []))))))
unfolding cells start_in boundary_in rules_of decide applies is is_not among pictographic conjunct_is joining begun anything edge any one next many pairs before_in items_from GB1 GB2 GB3 GB4 GB5 GB6 GB7 GB8 GB9 GB9a GB9b GB9c GB11 GB12 GB13 GB999
edition_texts_both = ((refl, refl), ((refl, refl), ((refl, refl), ((refl, refl), ((refl, refl), ((refl, refl), (refl, refl)))))))
