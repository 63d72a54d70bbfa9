-- The table of the word run is the word machine: the row stands for the state after each record. Assumes nothing.
use Rattle.std.specs.Prelude.{Ok, Some, None}
use Prim.Native.Nat.{ℕ, ◌+◌, ◌-◌, ◌*◌, ◌/◌, ◌%◌, ◌<◌}
use mathlib.Core.Path.{◌≡◌, refl, sym, subst, ◌∙◌, ap}
use mathlib.Core.Bool.{Bool, true, false, cond, not, ◌&&◌}
use mathlib.Core.List.{List, [], ◌∷◌}
use native.Mathlib.Numerals.{add-one}
use native.Mathlib.Omega.{arith}
use lib.Dec.{eqb, leb, ltb}
use lib.ListN.{length, get_or, set}
use borrow.Author.Tests.{eqb-true, ltb-true, leb-false}
use Rattle.basics.specs.Sets.{every}
use Rattle.basics.proofs.Columns.{Written, written_more}
use Rattle.basics.proofs.Sets.{every_at}
use Rattle.basics.proofs.Tests.{both, neither}
use Rattle.classes.specs.WordBreak.{len, ALetter, HL, NU, RI}
use Rattle.records.specs.Text.{cell}
use Rattle.records.specs.Refusals.{word_verdict, outside}
use Rattle.words.specs.declared.WordState.{WordState}
use Rattle.words.specs.declared.WordStep.{WordStep}
use Rattle.words.specs.Next.{Next}
use Rattle.words.specs.Rules.{AHLetter, next_in, pair_rules, letter_rules, number_rules, flag_rules, exit_of, leaves, ruled}
use Rattle.words.specs.Run.{next_at, step_from, state_at, answer_at}
use Rattle.words.specs.Step.{start_state, next_codes}
use Rattle.words.specs.Rows.{group_of, symbol_of, row_after, answer_of}
use Rattle.words.specs.Table.{word_groups, word_symbols, word_nexts, word_answers, word_rows}
use Rattle.records.proofs.Marks.{fine_class, fine_mark}
use Rattle.words.proofs.Accepted.{fine_next}

-- # The states of a run, by number: the start, one behind each class, RI with a count of 1 and of 2, the five that hold a boundary back

unfoldable pub state_of : ℕ → WordState
state_of k =
    record {
      first = eqb k 0;
      previous = cond (ltb k 20) (k - 1) (cond (ltb k 22) RI (cond (ltb k 25) (k - 12) (k - 11)));
      prevent = leb 22 k;
      count = cond (eqb k 20) 1 (cond (eqb k 21) 2 0);
    }

unfoldable pub number_of : WordState → ℕ
number_of s =
    cond s.first 0
    (cond s.prevent (cond (ltb s.previous 14) (s.previous + 12) (s.previous + 11))
    (cond (eqb s.count 0) (s.previous + 1) (s.count + 19)))

unfoldable pub row_of : ℕ → ℕ
row_of k = get_or word_rows k 0

-- a state of a run, and its row
pub record Stands (s : WordState) (row : ℕ) : Type 0 where
  pub known : s ≡ state_of (number_of s)
  pub below : number_of s < 27
  pub in_row : row ≡ row_of (number_of s)

-- # Every cell, by one computed test

alike : Bool → Bool → Bool
alike true b = b
alike false b = not b

unfoldable same : WordState → WordState → Bool
same s t = (alike s.first t.first && alike s.prevent t.prevent) && (eqb s.previous t.previous && eqb s.count t.count)

-- what a cell has to say of a step: its state is one of a run, in the cell's row, and its answer is the cell's
unfoldable told_by : ℕ → ℕ → WordStep → ℕ → Bool
told_by row symbol r k = (same r.state (state_of k) && ltb k 27) && (eqb (row_after symbol row) (row_of k) && eqb (answer_of symbol row) r.answer)

-- a next record of each group
unfoldable sample_of : ℕ → Next
sample_of g = cond (eqb g 1) (Some ALetter) (cond (eqb g 2) (Some HL) (cond (eqb g 3) (Some NU) None))

unfoldable okay : ℕ → ℕ → ℕ → ℕ → Bool
okay k class mark group =
    let r = ruled (state_of k) class mark (sample_of group) in
    told_by (row_of k) (symbol_of class mark group) r (number_of r.state)

-- the states, classes, marks and groups in one number
unfoldable okay_at : ℕ → Bool
okay_at n = okay (n / 152) (n / 8 % 19) (n / 4 % 2) (n % 4)

right : every okay_at 4104 ≡ true
unfolding every okay_at okay told_by same alike state_of number_of row_of sample_of symbol_of row_after answer_of word_symbols word_nexts word_answers word_rows leaves exit_of pair_rules letter_rules number_rules flag_rules
right = refl

module _ (k class mark group : ℕ) (hk : k < 27) (hc : class < len) (hm : mark < 2) (hg : group < 4) where
  cell_right : okay k class mark group ≡ true
  unfolding okay_at
  cell_right =
      let n : ℕ = k * 152 + (class * 8 + mark * 4 + group) in
      let a : n / 152 ≡ k = omega arith in
      let b : n / 8 % 19 ≡ class = omega arith in
      let d : n / 4 % 2 ≡ mark = omega arith in
      let e : n % 4 ≡ group = omega arith in
      rw (a, b, d, e) at (every_at okay_at 4104 n right (omega arith))

-- # What a cell that is okay says

alike_is : (a b : Bool) → alike a b ≡ true → a ≡ b
unfolding alike
alike_is true b h = sym h
alike_is false true h = h
alike_is false false h = refl

state_is : (s t : WordState) → s.first ≡ t.first → s.previous ≡ t.previous → s.prevent ≡ t.prevent → s.count ≡ t.count → s ≡ t
state_is s t e f g h = rw (e, f, g, h)

same_is : (s t : WordState) → same s t ≡ true → s ≡ t
unfolding same
same_is s t h =
    let p = both (alike s.first t.first && alike s.prevent t.prevent) (eqb s.previous t.previous && eqb s.count t.count) h in
    let a = both (alike s.first t.first) (alike s.prevent t.prevent) p.0 in
    let b = both (eqb s.previous t.previous) (eqb s.count t.count) p.1 in
    state_is s t (alike_is _ _ a.0) (eqb-true _ _ b.0) (alike_is _ _ a.1) (eqb-true _ _ b.1)

told_stands : (row symbol : ℕ) (r : WordStep) → told_by row symbol r (number_of r.state) ≡ true → Stands r.state (row_after symbol row) × (answer_of symbol row ≡ r.answer)
unfolding told_by
told_stands row symbol r h =
    let k : ℕ = number_of r.state in
    let p = both (same r.state (state_of k) && ltb k 27) (eqb (row_after symbol row) (row_of k) && eqb (answer_of symbol row) r.answer) h in
    let a = both (same r.state (state_of k)) (ltb k 27) p.0 in
    let b = both (eqb (row_after symbol row) (row_of k)) (eqb (answer_of symbol row) r.answer) p.1 in
    (record { known = same_is _ _ a.0; below = ltb-true _ _ a.1; in_row = eqb-true _ _ b.0 }, eqb-true _ _ b.1)

-- # The group of the next record says all that the rules ask of it

unfoldable asked_alike : Next → Next → Bool
asked_alike a b =
    alike (next_in AHLetter a) (next_in AHLetter b) && (alike (next_in (HL ∷ []) a) (next_in (HL ∷ []) b) && alike (next_in (NU ∷ []) a) (next_in (NU ∷ []) b))

unfoldable grouped : Next → Bool
grouped next = asked_alike next (sample_of (group_of next)) && ltb (group_of next) 4

all_grouped : every (λ c. grouped (Some c)) len ≡ true
unfolding every grouped asked_alike alike sample_of group_of word_groups
all_grouped = refl

listed_grouped : (next : Next) → outside (next_codes next) ≡ false → grouped next ≡ true
listed_grouped (Some c) h = every_at (λ c. grouped (Some c)) len c all_grouped (leb-false _ _ (neither (leb len c) false h).0)
listed_grouped None h = unfold grouped asked_alike alike sample_of group_of in refl

alike_ruled : (s : WordState) (class mark : ℕ) (a b : Next) → asked_alike a b ≡ true → ruled s class mark a ≡ ruled s class mark b
unfolding asked_alike exit_of letter_rules number_rules
alike_ruled s class mark a b h =
    let p = both (alike (next_in AHLetter a) (next_in AHLetter b)) _ h in
    let q = both (alike (next_in (HL ∷ []) a) (next_in (HL ∷ []) b)) _ p.1 in
    rw (alike_is _ _ p.0, alike_is _ _ q.0, alike_is _ _ q.1)

-- # What stays small

all_small : every (λ j. ltb (get_or word_symbols j 0) 32) 152 ≡ true
unfolding every word_symbols
all_small = refl

symbol_small : (class mark group symbol : ℕ) → class < len → mark < 2 → group < 4 → symbol ≡ symbol_of class mark group → symbol < 32
unfolding symbol_of
symbol_small class mark group symbol hc hm hg e =
    rw e (ltb-true _ _ (every_at (λ j. ltb (get_or word_symbols j 0) 32) 152 (class * 8 + mark * 4 + group) all_small (omega arith)))

rows_small : every (λ k. ltb (row_of k) 16) 27 ≡ true
unfolding every row_of word_rows
rows_small = refl

pub row_small : {s : WordState} {row : ℕ} → Stands s row → row < 16
row_small {s} h = rw h.in_row (ltb-true _ _ (every_at (λ k. ltb (row_of k) 16) 27 (number_of s) rows_small h.below))

pub group_small : (next : Next) (group : ℕ) → outside (next_codes next) ≡ false → group ≡ group_of next → group < 4
unfolding grouped
group_small next group h e = rw e (ltb-true _ _ (both (asked_alike next (sample_of (group_of next))) (ltb (group_of next) 4) (listed_grouped next h)).1)

-- # A turn

abbrev Turned : WordStep → ℕ → ℕ → Type 0
Turned r symbol row = Stands r.state (row_after symbol row) × (answer_of symbol row ≡ r.answer)

module _ (s : WordState) (row : ℕ) (stands : Stands s row) (class mark : ℕ) (next : Next) (hc : class < len) (hm : mark < 2) (listed : outside (next_codes next) ≡ false) where
  step_turned : Turned (ruled s class mark next) (symbol_of class mark (group_of next)) row
  unfolding okay grouped
  step_turned =
      let k : ℕ = number_of s in
      let g : ℕ = group_of next in
      let same_step : ruled (state_of k) class mark (sample_of g) ≡ ruled s class mark next =
      ap (λ t. ruled t class mark (sample_of g)) (sym stands.known) ∙ sym (alike_ruled s class mark next (sample_of g) (both (asked_alike next (sample_of g)) (ltb g 4) (listed_grouped next listed)).0) in
      let cell : Turned (ruled (state_of k) class mark (sample_of g)) (symbol_of class mark g) (row_of k) =
      told_stands (row_of k) (symbol_of class mark g) (ruled (state_of k) class mark (sample_of g)) (cell_right k class mark g stands.below hc hm (group_small next g listed refl)) in
      subst (λ (x : ℕ). Turned (ruled s class mark next) (symbol_of class mark g) x) (sym stands.in_row)
      (subst (λ (r : WordStep). Turned r (symbol_of class mark g) (row_of k)) same_step cell)

pub start_stands : Stands start_state 0
unfolding state_of number_of row_of word_rows
start_stands = record { known = refl; below = omega arith; in_row = refl }

-- a turn at a record of an accepted text: w and p are its cells, and what is read and looked up for it has names
module _ (words pictographs : List ℕ) (accepted : word_verdict words pictographs ≡ Ok tt) (i : ℕ) (inside : i < length words)
    (row : ℕ) (stands : Stands (state_at words pictographs i) row) (w p group symbol : ℕ) (ew : w ≡ cell words i) (ep : p ≡ cell pictographs i)
    (eg : group ≡ group_of (next_at words (i + 1))) (es : symbol ≡ symbol_of w p group) where
  here : Turned (step_from words pictographs (state_at words pictographs i) i) symbol row
  here =
      rw (es, ew, ep, eg)
      (step_turned (state_at words pictographs i) row stands (cell words i) (cell pictographs i) (next_at words (i + 1))
      (fine_class len words pictographs accepted i inside) (fine_mark len words pictographs accepted i inside) (fine_next words pictographs accepted (i + 1)))

  pub turn_symbol : symbol < 32
  turn_symbol =
      let e : symbol ≡ symbol_of (cell words i) (cell pictographs i) group = es ∙ rw (ew, ep) in
      symbol_small (cell words i) (cell pictographs i) group symbol (fine_class len words pictographs accepted i inside) (fine_mark len words pictographs accepted i inside)
      (group_small (next_at words (i + 1)) group (fine_next words pictographs accepted (i + 1)) eg) e

  pub turn_stands : (after : ℕ) → after ≡ row_after symbol row → Stands (state_at words pictographs (i + 1)) after
  unfolding state_at
  turn_stands after e = rw (e, add-one i) here.0

  pub turn_written : (out₀ out : List ℕ) (answer : ℕ) → answer ≡ answer_of symbol row → i < length out₀ → Written (answer_at words pictographs) out₀ i out → Written (answer_at words pictographs) out₀ (i + 1) (set out i answer)
  turn_written out₀ out answer e h cells =
      let a : answer ≡ answer_at words pictographs i = unfold answer_at in e ∙ here.1 in
      rw a (written_more (answer_at words pictographs) out₀ out i h cells)
