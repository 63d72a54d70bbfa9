-- The table of the run that goes forward is its step: the row stands for the state after each record. Assumes nothing.
use Rattle.std.specs.Prelude.{Ok}
use Prim.Native.Nat.{ℕ, zero, suc, ◌+◌, ◌*◌, ◌/◌, ◌%◌, ◌<◌, ◌≤◌}
use mathlib.Core.Path.{◌≡◌, refl, sym, ◌∙◌}
use mathlib.Core.Bool.{Bool, true, false, cond, not, ◌&&◌, ◌||◌}
use mathlib.Core.List.{List, [], ◌∷◌}
use native.Mathlib.Numerals.{add-one}
use native.Mathlib.Omega.{arith}
use lib.Dec.{eqb, ltb}
use lib.ListN.{length, get_or, set}
use borrow.Author.Tests.{eqb-true, ltb-true, ltb-false}
use Rattle.basics.specs.Sets.{every}
use Rattle.basics.proofs.Columns.{Written, written_more}
use Rattle.basics.proofs.Sets.{every_at}
use Rattle.basics.proofs.Tests.{both, neither}
use Rattle.classes.specs.ClusterBreak.{XX, RI, ZWJ, len}
use Rattle.records.specs.Text.{cell}
use Rattle.records.proofs.Marks.{fine_class, fine_mark}
use Rattle.uax29.specs.Clusters.{Item, is, is_not, among, pictographic, anything, edge, any, one, next, many, pairs, applies, decide, before_in, GB1, GB2, GB3, GB4, GB5, GB6, GB7, GB8, GB9, GB9a, GB9b, GB11, GB12, GB13, GB999}
use Rattle.uax29.specs.Graphemes.{start_at, grapheme_check}
use Rattle.uax29.specs.GraphemeStep.{no_class, summary, advance, kept_rules, near, starts, item, bad_state}
use Rattle.uax29.specs.GraphemeRows.{cell_of, answer_in, row_in}
use Rattle.uax29.specs.GraphemeTable.{grapheme_table, grapheme_groups}
use Rattle.uax29.specs.declared.graphemes.GraphemeState.{GraphemeState}
use Rattle.uax29.proofs.GraphemeSummary.{state_is, summary_none, state_at, state_more, start_is}

-- # The states by number

abbrev bit_of : Bool → ℕ
bit_of b = cond b 1 0

unfoldable state_of : ℕ → GraphemeState
state_of n = record { previous = n / 8; odd = eqb (n / 4 % 2) 1; extended = eqb (n / 2 % 2) 1; joined = eqb (n % 2) 1 }

abbrev number_of : GraphemeState → ℕ
number_of s = s.previous * 8 + (bit_of s.odd * 4 + (bit_of s.extended * 2 + bit_of s.joined))

bit_small : (b : Bool) → bit_of b < 2
bit_small true = omega arith
bit_small false = omega arith

bit_is : (b : Bool) (n : ℕ) → n ≡ bit_of b → eqb n 1 ≡ b
bit_is true n e = rw e
bit_is false n e = rw e

digits : (p a b c : ℕ) → a < 2 → b < 2 → c < 2 → let n = p * 8 + (a * 4 + (b * 2 + c)) in (n / 8 ≡ p) × ((n / 4 % 2 ≡ a) × ((n / 2 % 2 ≡ b) × (n % 2 ≡ c)))
digits p a b c ha hb hc = (omega arith, (omega arith, (omega arith, omega arith)))

known : (s : GraphemeState) → state_of (number_of s) ≡ s
unfolding state_of
known s =
    let d = digits s.previous (bit_of s.odd) (bit_of s.extended) (bit_of s.joined) (bit_small s.odd) (bit_small s.extended) (bit_small s.joined) in
    state_is (state_of (number_of s)) s d.0 (bit_is s.odd _ d.1.0) (bit_is s.extended _ d.1.1.0) (bit_is s.joined _ d.1.1.1)

good_below : (s : GraphemeState) → bad_state s ≡ false → number_of s < 120
good_below s h =
    let l : s.previous ≤ no_class = ltb-false no_class s.previous (neither (ltb no_class s.previous) _ h).0 in
    omega (arith, bit_small s.odd, bit_small s.extended, bit_small s.joined)

-- # Every cell, by one computed test

-- a state's row: its group, and the two flags that decide which row is next
unfoldable pub row_of : GraphemeState → ℕ
row_of s = cond s.joined 7 (get_or grapheme_groups s.previous 0) * 4 + bit_of s.odd * 2 + bit_of s.extended

-- what a cell has to say of a step: a state of a text, in the cell's row, and the cell's answer
unfoldable told_by : GraphemeState → ℕ → ℕ → Bool
told_by s kind mark =
    let t = advance s (item kind mark) in
    (not (bad_state t) && ltb (row_of s) 32) && (eqb (row_in (cell_of kind mark) (row_of s)) (row_of t) && eqb (answer_in (cell_of kind mark) (row_of s)) (bit_of (starts s (item kind mark))))

unfoldable okay : ℕ → ℕ → ℕ → Bool
okay n kind mark = bad_state (state_of n) || told_by (state_of n) kind mark

-- the states, classes and marks in one number
unfoldable okay_at : ℕ → Bool
okay_at m = okay (m / 28) (m / 2 % 14) (m % 2)

right : every okay_at 3360 ≡ true
unfolding every okay_at okay told_by state_of row_of advance starts kept_rules near row_in answer_in cell_of grapheme_table grapheme_groups decide applies is is_not among pictographic anything edge any one next many pairs GB1 GB2 GB3 GB4 GB5 GB6 GB7 GB8 GB9 GB9a GB9b GB11 GB12 GB13 GB999
right = refl

not_bad : (a b : Bool) → a ≡ false → (a || b) ≡ true → b ≡ true
not_bad true b e h = absurd (let z : ◌≡◌ {A = ℕ} 0 1 = cc in omega arith)
not_bad false b e h = h

not-true : (b : Bool) → not b ≡ true → b ≡ false
not-true true h = sym h
not-true false h = refl

module _ (s : GraphemeState) (good : bad_state s ≡ false) (kind mark : ℕ) (hk : kind < len) (hm : mark < 2) where
  cell_right : told_by s kind mark ≡ true
  unfolding okay_at okay
  cell_right =
      let n : ℕ = number_of s in
      let m : ℕ = n * 28 + (kind * 2 + mark) in
      let below : n < 120 = good_below s good in
      let a : m / 28 ≡ n = omega arith in
      let b : m / 2 % 14 ≡ kind = omega arith in
      let d : m % 2 ≡ mark = omega arith in
      let e : okay n kind mark ≡ true = rw (a, b, d) at (every_at okay_at 3360 m right (omega arith)) in
      not_bad (bad_state s) (told_by s kind mark) good (rw (known s) at e)

  abbrev Turned : Type 0
  Turned =
      (bad_state (advance s (item kind mark)) ≡ false)
      × ((row_in (cell_of kind mark) (row_of s) ≡ row_of (advance s (item kind mark)))
      × (answer_in (cell_of kind mark) (row_of s) ≡ bit_of (starts s (item kind mark))))

  turned : Turned
  unfolding told_by
  turned =
      let t = advance s (item kind mark) in
      let p = both (not (bad_state t) && ltb (row_of s) 32) _ cell_right in
      let q = both (eqb (row_in (cell_of kind mark) (row_of s)) (row_of t)) _ p.1 in
      (not-true _ (both (not (bad_state t)) _ p.0).0, (eqb-true _ _ q.0, eqb-true _ _ q.1))

  row_below : row_of s < 32
  unfolding told_by
  row_below =
      ltb-true _ _ (both (not (bad_state (advance s (item kind mark)))) (ltb (row_of s) 32) (both (not (bad_state (advance s (item kind mark))) && ltb (row_of s) 32) _ cell_right).0).1

-- # A turn

-- a state of a text, and its row
pub record Stands (s : GraphemeState) (row : ℕ) : Type 0 where
  pub good : bad_state s ≡ false
  pub in_row : row ≡ row_of s

pub start_stands : (breaks marks : List ℕ) → Stands (state_at breaks marks 0) 0
unfolding before_in row_of grapheme_groups
start_stands breaks marks = rw summary_none (record { good = refl; in_row = refl })

pub row_small : {s : GraphemeState} {row : ℕ} → Stands s row → row < 32
row_small {s} h = rw h.in_row (row_below s h.good 0 0 (omega arith) (omega arith))

-- at a record of an accepted text: k and m are its cells, and what is looked up for it has names
module _ (breaks marks : List ℕ) (accepted : grapheme_check breaks marks ≡ Ok tt) (i : ℕ) (inside : i < length breaks)
    (row : ℕ) (stands : Stands (state_at breaks marks i) row) (found : ℕ) (ef : found ≡ cell_of (cell breaks i) (cell marks i)) where
  here : Turned (state_at breaks marks i) stands.good (cell breaks i) (cell marks i) (fine_class _ breaks marks accepted i inside) (fine_mark _ breaks marks accepted i inside)
  here = turned (state_at breaks marks i) stands.good (cell breaks i) (cell marks i) (fine_class _ breaks marks accepted i inside) (fine_mark _ breaks marks accepted i inside)

  pub turn_stands : (after : ℕ) → after ≡ row_in found row → Stands (state_at breaks marks (i + 1)) after
  turn_stands after e =
      rw (state_more breaks marks i) (record { good = here.0; in_row = e ∙ rw (ef, stands.in_row) here.1.0 })

  pub turn_written : (out₀ out : List ℕ) (answer : ℕ) → answer ≡ answer_in found row → i < length out₀ → Written (start_at breaks marks) out₀ i out → Written (start_at breaks marks) out₀ (i + 1) (set out i answer)
  turn_written out₀ out answer e h cells =
      let a : answer ≡ start_at breaks marks i = e ∙ rw (ef, stands.in_row) here.1.1 ∙ sym (start_is breaks marks accepted i inside) in
      rw a (written_more (start_at breaks marks) out₀ out i h cells)

-- # The states of accepted texts are those that are not bad

pub states_stand : (breaks marks : List ℕ) → grapheme_check breaks marks ≡ Ok tt → (i : ℕ) → i ≤ length breaks → Stands (state_at breaks marks i) (row_of (state_at breaks marks i))
states_stand breaks marks accepted zero h = record { good = (start_stands breaks marks).good; in_row = refl }
states_stand breaks marks accepted (suc i) h =
    let before = states_stand breaks marks accepted i (omega arith) in
    let e : i + 1 ≡ suc i = add-one i in
    record { good = rw e at (turn_stands breaks marks accepted i (omega arith) (row_of (state_at breaks marks i)) before _ refl _ refl).good; in_row = refl }

-- a text that leads to a state: at most two records, the nearest first
unfoldable pub text_to : GraphemeState → List Item
text_to s =
    cond (eqb s.previous no_class) []
    (cond s.joined (item ZWJ (bit_of s.extended) ∷ item XX 1 ∷ [])
    (cond (eqb s.previous RI && not s.odd) (item RI (bit_of s.extended) ∷ item RI 0 ∷ [])
    (item s.previous (bit_of s.extended) ∷ [])))

alike : Bool → Bool → Bool
alike true b = b
alike false b = not b

alike_is : (a b : Bool) → alike a b ≡ true → a ≡ b
unfolding alike
alike_is true b h = sym h
alike_is false true h = h
alike_is false false h = refl

unfoldable same : GraphemeState → GraphemeState → Bool
same s t = (eqb s.previous t.previous && alike s.odd t.odd) && (alike s.extended t.extended && alike s.joined t.joined)

same_is : (s t : GraphemeState) → same s t ≡ true → s ≡ t
unfolding same
same_is s t h =
    let p = both (eqb s.previous t.previous && alike s.odd t.odd) _ h in
    let a = both (eqb s.previous t.previous) _ p.0 in
    let b = both (alike s.extended t.extended) _ p.1 in
    state_is s t (eqb-true _ _ a.0) (alike_is _ _ a.1) (alike_is _ _ b.0) (alike_is _ _ b.1)

unfoldable led_to : ℕ → Bool
led_to n = bad_state (state_of n) || same (summary (text_to (state_of n))) (state_of n)

all_led_to : every led_to 120 ≡ true
unfolding every led_to same alike state_of text_to summary next many pairs one edge is is_not pictographic GB11 GB12 GB13
all_led_to = refl

pub reaches : (s : GraphemeState) → bad_state s ≡ false → summary (text_to s) ≡ s
unfolding led_to
reaches s good =
    let e : led_to (number_of s) ≡ true = every_at led_to 120 (number_of s) all_led_to (good_below s good) in
    same_is (summary (text_to s)) s (not_bad (bad_state s) (same (summary (text_to s)) s) good (rw (known s) at e))
