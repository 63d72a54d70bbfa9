-- How the check, the runs and the step of an edition come out. Assumes nothing.
use Rattle.std.specs.Prelude.{Ok, Err}
use Prim.Native.Nat.{ℕ, zero, suc, ◌+◌, ◌-◌, ◌<◌, ◌≤◌}
use mathlib.Core.Path.{◌≡◌, refl, sym, ◌∙◌, ap}
use mathlib.Core.Bool.{Bool, true, false, cond, not, ◌&&◌, ◌||◌, and-false, and-true, false≢true}
use mathlib.Core.List.{List, [], ◌∷◌, ◌++◌}
use native.Mathlib.Omega.{arith}
use lib.Dec.{eqb}
use lib.ListN.{length, drop, set}
use lib.Seq.{drop_at}
use borrow.Author.Tests.{eq-eqb, ne_eqb, eqb-true}
use Rattle.basics.specs.Columns.{cells}
use Rattle.basics.specs.Sets.{member}
use mir.Val.{bool_byte}
use Rattle.uax29.proofs.Bits.{bit}
use Rattle.basics.proofs.Columns.{Written, written_cell, written_more, cells_same, cells_length}
use Rattle.basics.proofs.Tests.{by_test, neither}
use Rattle.classes.specs.ClusterBreak as ClusterBreak
use Rattle.records.specs.Text.{cell}
use Rattle.records.specs.Refusals.{refuse, judge_lengths}
use Rattle.records.specs.declared.Side.TheVariants.{Record, Neither}
use Rattle.records.specs.declared.Refusal.{Refusal}
use Rattle.records.specs.Verdict.{Verdict}
use Rattle.records.proofs.Marks.{three_first}
use Rattle.records.proofs.Verdicts.{unrefused, passes}
use Rattle.records.proofs.Written.{ran_refused, ran_whole, ran_checked, ran_long}
use Rattle.uax29.specs.Conjunct.{Consonant}
use Rattle.uax29.specs.Conjunct as Conjunct
use Rattle.uax29.specs.Rules.{Rule, ◌⨯◌, anything, edge, any, among, one, next, many, applies, decide, item_in, before_in, items_from, after_in}
use Rattle.uax29.specs.Clusters.{controls, is, pictographic, boundary_at, GB1, GB2, GB3, GB4, GB5, GB6, GB7, GB8, GB9, GB9a, GB9b, GB11, GB12, GB999}
use Rattle.uax29.specs.Graphemes.{start_at, grapheme_check}
use Rattle.uax29.specs.GraphemeStep.{no_class, kept_rules, near, starts, item, bad_state}
use Rattle.uax29.specs.Editions.{joining, conjunct_is, begun, GB9c, conjoined}
use Rattle.uax29.specs.EditionRuns.{start_in, unknown, edition_check, edition_verdict, edition_cells}
use Rattle.uax29.specs.EditionStep.{kept_in, starts_in, item_of, bad_link, bad_record_in, bad_state_in, advance_in, step_verdict_in, step_in}
use Rattle.uax29.specs.Conjoined.{begun_at, linked_at, conjoins, conjoined_at, taken_at}
use Rattle.uax29.specs.declared.editions.EditionState.{EditionState}
use Rattle.uax29.specs.declared.graphemes.GraphemeState.{GraphemeState}
use Rattle.uax29.proofs.EditionRules.{boundary_other, boundary_151, inserted}

-- # GB9c over the columns

module _ (breaks marks conjuncts : List ℕ) where
  pub begun_column : (i : ℕ) → begun (before_in breaks marks conjuncts i) ≡ begun_at conjuncts i
  unfolding begun before_in begun_at many one conjunct_is joining
  begun_column zero = refl
  begun_column (suc i) = rw (begun_column i)

  pub linked_column : (i : ℕ) → GB9c.before (before_in breaks marks conjuncts i) ≡ linked_at conjuncts i
  unfolding GB9c before_in linked_at many next conjunct_is joining
  linked_column zero = refl
  linked_column (suc i) = rw (begun_column i, linked_column i)

  pub some_after : (at : ℕ) → at < length breaks → after_in breaks marks conjuncts at ≡ item_in breaks marks conjuncts at ∷ items_from breaks marks conjuncts (at + 1) (length breaks - at - 1)
  unfolding items_from
  some_after at l = let e : length breaks - at ≡ suc (length breaks - at - 1) = omega arith in ap (items_from breaks marks conjuncts at) e

  pub conjoined_column : (at : ℕ) → at < length breaks → conjoined (before_in breaks marks conjuncts at) (after_in breaks marks conjuncts at) ≡ conjoined_at breaks conjuncts at
  unfolding conjoined conjoined_at conjoins applies GB4 GB5 GB9c anything one among conjunct_is
  conjoined_column zero l = rw (some_after 0 l, linked_column 0) (unfold linked_at in refl)
  conjoined_column (suc i) l =
      let e : suc i - 1 ≡ i = omega arith in
      rw (some_after (suc i) l, linked_column (suc i), e) (unfold before_in in ap (λ b. (linked_at conjuncts (suc i) && eqb (cell conjuncts (suc i)) Consonant) && not (b || member controls (cell breaks (suc i)))) (and-true (member controls (cell breaks i))))

-- # A place

-- GB9c takes away a start and gives none
taken_start : (b c : Bool) → ◌≡◌ {A = ℕ} (cond (b && not c) 1 0) (cond c 0 (cond b 1 0))
taken_start true true = refl
taken_start true false = refl
taken_start false true = refl
taken_start false false = refl

module _ (edition : ℕ) (breaks marks conjuncts : List ℕ) (at : ℕ) where
  pub start_other : (edition ≡ 151 → ⊥) → start_in edition breaks marks conjuncts at ≡ start_at breaks marks at
  unfolding start_in start_at
  start_other n = ap (λ b. cond b 1 0) (boundary_other breaks marks conjuncts at edition (ne_eqb edition 151 n))

  pub start_151 : edition ≡ 151 → at < length breaks → start_in edition breaks marks conjuncts at ≡ cond (conjoined_at breaks conjuncts at) 0 (start_at breaks marks at)
  unfolding start_in start_at
  start_151 e l =
      rw e (ap (λ b. cond b 1 0) (boundary_151 breaks marks conjuncts at) ∙ taken_start (boundary_at breaks marks at) (conjoined (before_in breaks marks conjuncts at) (after_in breaks marks conjuncts at))
      ∙ ap (λ c. cond c 0 (cond (boundary_at breaks marks at) 1 0)) (conjoined_column breaks marks conjuncts at l))

  -- as the code decides it: b is the boundary of 15.0, s its number
  module _ (b : Bool) (s : ℕ) (eb : b ≡ boundary_at breaks marks at) (es : s ≡ bool_byte b) where
    number : s ≡ start_at breaks marks at
    unfolding start_at
    number = es ∙ bit b ∙ ap (λ t. cond t 1 0) eb

    pub place_other : (edition ≡ 151 → ⊥) → s ≡ start_in edition breaks marks conjuncts at
    place_other n = number ∙ sym (start_other n)

    pub place_151 : (c : Bool) (q : ℕ) → edition ≡ 151 → at < length breaks → c ≡ conjoined_at breaks conjuncts at → q ≡ cond c 0 s → q ≡ start_in edition breaks marks conjuncts at
    place_151 c q e l f g = g ∙ rw (f, number) (sym (start_151 e l))

-- # The check

-- what it accepts, the check of 15.0 accepts
pub graphemes_accepted : (edition : ℕ) (breaks marks conjuncts : List ℕ) → edition_check edition breaks marks conjuncts ≡ Ok tt → grapheme_check breaks marks ≡ Ok tt
unfolding edition_check
graphemes_accepted edition breaks marks conjuncts h =
    let p = (passes (refuse (unknown edition) 15 Neither 0) _ h).1 in
    let q = passes (judge_lengths (length breaks ∷ length conjuncts ∷ length marks ∷ []) []) _ p in
    three_first ClusterBreak.len Conjunct.len breaks conjuncts marks q.0 q.1

-- # The runs, where v is what was said of the check and the room

module _ (edition : ℕ) (breaks marks conjuncts out : List ℕ) (v : Verdict) (e : v ≡ edition_verdict edition breaks marks conjuncts (length out)) where
  abbrev Ran : Verdict → List ℕ → Type 0
  Ran r cells = (r ≡ edition_verdict edition breaks marks conjuncts (length out)) × (cells ≡ edition_cells edition breaks marks conjuncts out)

  pub run_refused : (r : Refusal) → v ≡ Err r → Ran v out
  run_refused r h = ran_refused (start_in edition breaks marks conjuncts) (length breaks) out (edition_check edition breaks marks conjuncts) (edition_check edition breaks marks conjuncts) v refl e r h

  pub run_whole : (cells : List ℕ) → v ≡ Ok tt → Written (start_in edition breaks marks conjuncts) out (length breaks) cells → Ran (Ok tt) cells
  run_whole cells h k = ran_whole (start_in edition breaks marks conjuncts) (length breaks) out (edition_check edition breaks marks conjuncts) (edition_check edition breaks marks conjuncts) v refl e cells h k

  pub run_checked : v ≡ Ok tt → grapheme_check breaks marks ≡ Ok tt
  run_checked h = graphemes_accepted edition breaks marks conjuncts (ran_checked (start_in edition breaks marks conjuncts) (length breaks) out (edition_check edition breaks marks conjuncts) (edition_check edition breaks marks conjuncts) v refl e h)

  pub run_long : v ≡ Ok tt → length breaks ≤ length out
  run_long h = ran_long (start_in edition breaks marks conjuncts) (length breaks) out (edition_check edition breaks marks conjuncts) (edition_check edition breaks marks conjuncts) v refl e h

-- forward: out₁ is what 15.0 wrote, out₂ what GB9c left of it
module _ (edition : ℕ) (breaks marks conjuncts out out₁ : List ℕ) (w : Written (start_at breaks marks) out (length breaks) out₁) where
  pub written_other : (edition ≡ 151 → ⊥) → Written (start_in edition breaks marks conjuncts) out (length breaks) out₁
  written_other n =
      w ∙ ap (λ xs. xs ++ drop (length breaks) out) (sym (cells_same (start_in edition breaks marks conjuncts) (start_at breaks marks) (length breaks) (λ i l. start_other edition breaks marks conjuncts i n)))

  pub written_151 : (out₂ : List ℕ) → edition ≡ 151 → Written (taken_at breaks conjuncts out₁) out₁ (length breaks) out₂ → Written (start_in edition breaks marks conjuncts) out (length breaks) out₂
  written_151 out₂ k t =
      let same : cells (taken_at breaks conjuncts out₁) (length breaks) ≡ cells (start_in edition breaks marks conjuncts) (length breaks) =
      cells_same (taken_at breaks conjuncts out₁) (start_in edition breaks marks conjuncts) (length breaks)
      (λ i l. unfold taken_at in rw (w, written_cell (start_at breaks marks) out (length breaks) i l) (sym (start_151 edition breaks marks conjuncts i k l))) in
      let rest : drop (length breaks) out₁ ≡ drop (length breaks) out =
      rw w (drop_at (cells (start_at breaks marks) (length breaks)) (drop (length breaks) out) (length breaks) (cells_length (start_at breaks marks) (length breaks))) in
      t ∙ rw (same, rest)

pub turn_in : (edition : ℕ) (breaks marks conjuncts out₀ out : List ℕ) (i answer : ℕ) → answer ≡ start_in edition breaks marks conjuncts i → i < length out₀
    → Written (start_in edition breaks marks conjuncts) out₀ i out → Written (start_in edition breaks marks conjuncts) out₀ (i + 1) (set out i answer)
turn_in edition breaks marks conjuncts out₀ out i answer e h w = rw e (written_more (start_in edition breaks marks conjuncts) out₀ out i h w)

-- # The step

-- the rules of 15.0 do not ask for the conjunct
starts_blind : (g : GraphemeState) (kind marked conjunct : ℕ) → starts g (item_of kind marked conjunct) ≡ starts g (item kind marked)
unfolding starts kept_rules decide applies GB1 GB2 GB3 GB4 GB5 GB6 GB7 GB8 GB9 GB9a GB9b GB11 GB12 GB999 anything edge any one is among pictographic
starts_blind g kind marked conjunct = refl

-- the rules of 15.1 asked of a good state are those of 15.0, but where GB9c takes a start away
module _ (s : EditionState) (kind marked conjunct : ℕ) (good : bad_state_in s ≡ false) where
  asked : Rule
  asked = (λ xs. s.link.linked) ⨯ GB9c.after

  -- a state without a record before it has no link
  unlinked : s.graphemes.previous ≡ no_class → s.link.linked ≡ false
  unlinked e = go s.link.begun s.link.linked (rw (eq-eqb s.graphemes.previous no_class e) at (neither (bad_state s.graphemes) (bad_link s.link s.graphemes.previous) good).1)
    where
      go : (b l : Bool) → ((l && not b) || (b && true)) ≡ false → l ≡ false
      go true true h = absurd (false≢true (sym h))
      go true false h = refl
      go false true h = h
      go false false h = refl

  link_asked : not (applies asked (near s.graphemes) (item_of kind marked conjunct ∷ []) && not (applies GB4 (near s.graphemes) (item_of kind marked conjunct ∷ []) || applies GB5 (near s.graphemes) (item_of kind marked conjunct ∷ [])))
      ≡ not (conjoins s.link.linked conjunct s.graphemes.previous kind)
  unfolding asked applies GB4 GB5 GB9c anything one among conjunct_is near conjoins
  link_asked = by_test (eqb s.graphemes.previous no_class)
      (λ h. rw (h, unlinked (eqb-true _ _ h)))
      (λ h. rw (h, and-true (member controls s.graphemes.previous)))

  no_record : applies GB1 (near s.graphemes) (item_of kind marked conjunct ∷ []) ≡ true → s.graphemes.previous ≡ no_class
  unfolding applies GB1 near edge
  no_record h = by_test (eqb s.graphemes.previous no_class) (λ k. eqb-true _ _ k) (λ k. absurd (false≢true (rw k at h)))

  pub starts_151 : starts_in 151 s (item_of kind marked conjunct) ≡ (starts s.graphemes (item kind marked) && not (conjoins s.link.linked conjunct s.graphemes.previous kind))
  unfolding starts_in starts kept_in kept_rules asked
  starts_151 = inserted (near s.graphemes) (item_of kind marked conjunct ∷ []) asked refl _
      (λ h. link_asked ∙ (unfold conjoins in rw (unlinked (no_record h))))
      (λ h. absurd (false≢true (sym (and-false (any (near s.graphemes))) ∙ (unfold applies GB2 edge in h))))
      ∙ ap (λ k. starts s.graphemes (item_of kind marked conjunct) && k) link_asked
      ∙ ap (λ b. b && not (conjoins s.link.linked conjunct s.graphemes.previous kind)) (starts_blind s.graphemes kind marked conjunct)

module _ (edition : ℕ) (s : EditionState) (kind marked conjunct : ℕ) (good : bad_state_in s ≡ false) (b : Bool) (n : ℕ) (eb : b ≡ starts s.graphemes (item kind marked)) (en : n ≡ bool_byte b) where
  pub answer_other : (edition ≡ 151 → ⊥) → n ≡ cond (starts_in edition s (item_of kind marked conjunct)) 1 0
  unfolding starts_in kept_in
  answer_other h =
      let same : starts s.graphemes (item kind marked) ≡ decide (kept_rules s.graphemes) (near s.graphemes) (item_of kind marked conjunct ∷ []) =
      unfold starts in sym (starts_blind s.graphemes kind marked conjunct) in
      rw (ne_eqb edition 151 h) (en ∙ bit b ∙ ap (λ t. cond t 1 0) (eb ∙ same))

  pub answer_151 : (j : Bool) (q : ℕ) → edition ≡ 151 → j ≡ conjoins s.link.linked conjunct s.graphemes.previous kind → q ≡ cond j 0 n → q ≡ cond (starts_in edition s (item_of kind marked conjunct)) 1 0
  answer_151 j q e f g = g ∙ rw (e, f, en, bit b, eb) (sym (ap (λ t. cond t 1 0) (starts_151 s kind marked conjunct good) ∙ taken_start (starts s.graphemes (item kind marked)) (conjoins s.link.linked conjunct s.graphemes.previous kind)))

-- v is what the judge said
module _ (edition : ℕ) (s : EditionState) (kind marked conjunct : ℕ) (v : Verdict) (e : v ≡ step_verdict_in edition s kind marked conjunct) where
  pub step_refused : (r : Refusal) → v ≡ Err r → record { state = s; answer = 0; verdict = v } ≡ step_in edition s kind marked conjunct
  step_refused r h = rw (← e, h)

  pub step_good : v ≡ Ok tt → bad_state_in s ≡ false
  unfolding step_verdict_in
  step_good h =
      let p = (passes (refuse (unknown edition) 15 Neither 0) _ (sym e ∙ h)).1 in
      unrefused _ 8 Neither 0 (passes (refuse (bad_record_in kind marked conjunct) 4 Record 0) (refuse (bad_state_in s) 8 Neither 0) p).1

  pub step_passed : (t : EditionState) (answer : ℕ) → v ≡ Ok tt → t ≡ advance_in s (item_of kind marked conjunct) → answer ≡ cond (starts_in edition s (item_of kind marked conjunct)) 1 0
      → record { state = t; answer = answer; verdict = Ok tt } ≡ step_in edition s kind marked conjunct
  step_passed t answer h f g = rw (← e, h, g, f)

pub ruleset answers_in = (answer_151, answer_other)

pub ruleset places_in = (place_151, place_other)
