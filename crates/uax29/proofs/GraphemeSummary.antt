-- The state of the engine that goes forward has all that the rules ask of the records before a place: it is kept from record to record,
-- and the rules asked of it are the rules.
-- Assumes nothing.
use Rattle.std.specs.Prelude.{Ok, Err}
use Prim.Native.Nat.{ℕ, zero, suc, ◌+◌, ◌<◌, ◌≤◌}
use mathlib.Core.Path.{◌≡◌, refl, sym, ◌∙◌, ap}
use mathlib.Core.Bool.{Bool, true, false, cond, not, ◌&&◌, ◌||◌}
use mathlib.Core.List.{List, [], ◌∷◌}
use native.Mathlib.Omega.{arith}
use native.Mathlib.Numerals.{add-one}
use lib.Dec.{eqb}
use lib.ListN.{length, set}
use borrow.Author.Tests.{eq-eqb, ne_eqb, le-ltb}
use Rattle.basics.specs.Sets.{member}
use mir.Val.{bool_byte}
use Rattle.uax29.proofs.Bits.{bit}
use Rattle.basics.proofs.Columns.{Written, written_more}
use Rattle.classes.specs.ClusterBreak.{RI, PP}
use Rattle.records.specs.Text.{cell}
use Rattle.records.specs.declared.Refusal.{Refusal}
use Rattle.records.specs.Verdict.{Verdict}
use Rattle.records.proofs.Marks.{fine_class}
use Rattle.records.proofs.Written.{ran_refused, ran_whole, ran_checked, ran_long}
use Rattle.uax29.specs.Clusters.{Item, is, is_not, among, pictographic, anything, edge, any, one, next, many, pairs, applies, decide, item_at, before_in, before_of, after_of, rules, controls, boundary_at, GB1, GB2, GB3, GB4, GB5, GB6, GB7, GB8, GB9, GB9a, GB9b, GB11, GB12, GB13, GB999}
use Rattle.uax29.specs.Graphemes.{start_at, grapheme_check, grapheme_verdict, grapheme_cells}
use Rattle.uax29.specs.GraphemeStep.{no_class, class_of, start_state, summary, advance, kept_rules, near, starts, item, step_verdict, step_of}
use Rattle.uax29.specs.GraphemeKept.{from_GB3, from_GB6, from_GB9, from_GB11}
use Rattle.uax29.specs.declared.graphemes.GraphemeState.{GraphemeState}
use Rattle.uax29.proofs.ClustersSides.{some_after}
use Rattle.uax29.proofs.Pairs.{odd_of, half}

pub state_is : (s t : GraphemeState) → s.previous ≡ t.previous → s.odd ≡ t.odd → s.extended ≡ t.extended → s.joined ≡ t.joined → s ≡ t
state_is s t e f g h = rw (e, f, g, h)

pub summary_none : summary [] ≡ start_state
unfolding summary GB11 GB12 GB13 next many one
summary_none = refl

odd_is : (before : List Item) → (summary before).odd ≡ odd_of RI before
unfolding summary GB12 GB13
odd_is before = half RI before

-- one more record
pub summary_more : (x : Item) (before : List Item) → summary (x ∷ before) ≡ advance (summary before) x
summary_more x before =
    state_is (summary (x ∷ before)) (advance (summary before) x)
    (unfold summary advance in refl)
    (odd_is (x ∷ before) ∙ (unfold odd_of advance in ap (λ t. is RI x && not t) (sym (odd_is before))))
    (unfold summary advance many one in refl)
    (unfold summary advance GB11 next in refl)

-- GB12 and GB13 have one right side
merged : (a b c later : Bool) → cond (a && c) false (cond (b && c) false later) ≡ cond ((a || b) && c) false later
merged true b true later = refl
merged true true false later = refl
merged true false false later = refl
merged false b c later = refl

-- The rules asked of the state are the rules.
pub starts_is : (before after : List Item) (x : Item) → eqb (class_of before) no_class ≡ edge before → decide rules before (x ∷ after) ≡ starts (summary before) x
unfolding decide applies edge any anything one is among pictographic starts near kept_rules summary GB1 GB2 GB3 GB4 GB5 GB6 GB7 GB8 GB9 GB9a GB9b GB11 GB12 GB13 GB999
starts_is [] after x h = refl
starts_is (y ∷ before) after x h =
    rw (h, merged (next (is RI) (pairs (is RI) edge) (y ∷ before)) (next (is RI) (pairs (is RI) (one (is_not RI))) (y ∷ before)) (eqb x.kind RI) true)

-- the state before the record at an index of two columns
abbrev pub state_at : List ℕ → List ℕ → ℕ → GraphemeState
state_at breaks marks i = summary (before_of breaks marks i)

pub state_more : (breaks marks : List ℕ) (i : ℕ) → state_at breaks marks (i + 1) ≡ advance (state_at breaks marks i) (item_at breaks marks i)
unfolding before_in
state_more breaks marks i = ap (state_at breaks marks) (add-one i) ∙ summary_more (item_at breaks marks i) (before_of breaks marks i)

-- an accepted text: its answers are those of the states
module _ (breaks marks : List ℕ) (accepted : grapheme_check breaks marks ≡ Ok tt) where
  listed : (i : ℕ) → i ≤ length breaks → eqb (class_of (before_of breaks marks i)) no_class ≡ edge (before_of breaks marks i)
  unfolding before_in edge
  listed zero h = refl
  listed (suc i) h = ne_eqb (cell breaks i) no_class (λ e. omega (arith, fine_class _ breaks marks accepted i (omega arith)))

  pub start_is : (i : ℕ) → i < length breaks → start_at breaks marks i ≡ cond (starts (state_at breaks marks i) (item_at breaks marks i)) 1 0
  unfolding start_at boundary_at
  start_is i h =
      let inside : i ≤ length breaks = omega arith in
      let decided : decide rules (before_of breaks marks i) (after_of breaks marks i) ≡ starts (state_at breaks marks i) (item_at breaks marks i) =
      ap (decide rules (before_of breaks marks i)) (some_after breaks marks i h) ∙ starts_is (before_of breaks marks i) _ (item_at breaks marks i) (listed i inside) in
      rw (le-ltb (length breaks) i inside) (ap (λ b. cond b 1 0) decided)

-- # The code of the step, and a turn of the engine that looks back

pub starts_first : (s : GraphemeState) (kind marked : ℕ) → s.previous ≡ no_class → eqb s.previous no_class ≡ starts s (item kind marked)
unfolding starts near kept_rules decide applies GB1 edge any
starts_first s kind marked h = rw (eq-eqb s.previous no_class h)

and_all : (a : Bool) → (a && true) ≡ a
and_all true = refl
and_all false = refl

pub starts_later : (s : GraphemeState) (kind marked : ℕ) (r : Bool) → (s.previous ≡ no_class → ⊥) → r ≡ from_GB3 s kind marked → r ≡ starts s (item kind marked)
unfolding starts near kept_rules decide applies GB1 GB2 GB3 GB4 GB5 GB6 GB7 GB8 GB9 GB9a GB9b GB11 GB12 GB999 anything edge any one is among pictographic from_GB3 from_GB6 from_GB9 from_GB11
starts_later s kind marked r n e = e ∙ rw (ne_eqb s.previous no_class n, and_all (member controls s.previous), and_all (eqb s.previous PP))

pub ruleset starts_chain = (starts_first, starts_later)

-- v is what the judge said
module _ (s : GraphemeState) (kind marked : ℕ) (v : Verdict) (e : v ≡ step_verdict s kind marked) where
  pub step_refused : (r : Refusal) → v ≡ Err r → record { state = s; answer = 0; verdict = v } ≡ step_of s kind marked
  step_refused r h = rw (← e, h)

  pub step_passed : (t : GraphemeState) (b : Bool) (answer : ℕ) → v ≡ Ok tt → t ≡ advance s (item kind marked) → b ≡ starts s (item kind marked) → answer ≡ bool_byte b
      → record { state = t; answer = answer; verdict = Ok tt } ≡ step_of s kind marked
  step_passed t b answer h f g k = rw (← e, h, k, bit b, f, g)

pub turn_decided : (breaks marks out₀ out : List ℕ) (i : ℕ) (b : Bool) (answer : ℕ) → b ≡ boundary_at breaks marks i → answer ≡ bool_byte b → i < length out₀
    → Written (start_at breaks marks) out₀ i out → Written (start_at breaks marks) out₀ (i + 1) (set out i answer)
turn_decided breaks marks out₀ out i b answer e f h cells =
    let a : answer ≡ start_at breaks marks i = unfold start_at in f ∙ bit b ∙ ap (λ t. cond t 1 0) e in
    rw a (written_more (start_at breaks marks) out₀ out i h cells)

-- # How a run comes out, where v is what was said of the check and the room

module _ (breaks marks out : List ℕ) (v : Verdict) (e : v ≡ grapheme_verdict breaks marks (length out)) where
  abbrev Ran : Verdict → List ℕ → Type 0
  Ran r cells = (r ≡ grapheme_verdict breaks marks (length out)) × (cells ≡ grapheme_cells breaks marks out)

  pub run_refused : (r : Refusal) → v ≡ Err r → Ran v out
  run_refused r h = ran_refused (start_at breaks marks) (length breaks) out (grapheme_check breaks marks) (grapheme_check breaks marks) v refl e r h

  pub run_whole : (cells : List ℕ) → v ≡ Ok tt → Written (start_at breaks marks) out (length breaks) cells → Ran (Ok tt) cells
  run_whole cells h k = ran_whole (start_at breaks marks) (length breaks) out (grapheme_check breaks marks) (grapheme_check breaks marks) v refl e cells h k

  pub run_checked : v ≡ Ok tt → grapheme_check breaks marks ≡ Ok tt
  run_checked h = ran_checked (start_at breaks marks) (length breaks) out (grapheme_check breaks marks) (grapheme_check breaks marks) v refl e h

  pub run_long : v ≡ Ok tt → length breaks ≤ length out
  run_long h = ran_long (start_at breaks marks) (length breaks) out (grapheme_check breaks marks) (grapheme_check breaks marks) v refl e h
