-- What it says of the cells of two columns, classes and marks, that their check accepted them, and what makes it accept them.
-- Assumes nothing.
use Rattle.std.specs.Prelude.{Ok}
use Prim.Native.Nat.{ℕ, ◌<◌, ◌≤◌}
use mathlib.Core.Path.{◌≡◌, refl, sym, ◌∙◌}
use mathlib.Core.Bool.{Bool, true, false, not, ◌||◌}
use mathlib.Core.List.{List, [], ◌∷◌}
use native.Mathlib.Omega.{arith}
use lib.Dec.{eqb, leb, ltb}
use lib.ListN.{length}
use borrow.Author.Tests.{eqb-true, eq-eqb, leb-false, lt-leb, le-ltb}
use Rattle.basics.proofs.Tests.{neither}
use Rattle.records.specs.Text.{cell}
use Rattle.records.specs.Refusals.{refuse, over, most, too_long, uneven, judge_marked, judge_three, judge_lengths, marked_verdict}
use Rattle.records.specs.declared.Side.TheVariants.{Record, Neither}
use Rattle.records.specs.Verdict.{Verdict}
use Rattle.records.proofs.Verdicts.{unrefused, passes, over_each, each_over}

not_off : (b : Bool) → not b ≡ false → b ≡ true
not_off true h = refl
not_off false h = sym h

-- the columns of a text that the check accepts
module _ (len : ℕ) (classes marks : List ℕ) (accepted : marked_verdict len classes marks ≡ Ok tt) where
  pub fine : (i : ℕ) → i < length classes → (leb len (cell classes i) ≡ false) × (leb 2 (cell marks i) ≡ false)
  unfolding marked_verdict judge_marked
  fine i h =
      let judge : ℕ → Verdict = λ k. judge_marked len (cell classes k) (cell marks k) k in
      let all : over judge 0 (length classes) ≡ (Ok tt) = (passes (judge_lengths (length classes ∷ length marks ∷ []) []) (over judge 0 (length classes)) accepted).1 in
      let one : judge i ≡ (Ok tt) = over_each judge (length classes) 0 all i (omega arith) (omega arith) in
      let class = neither (leb len (cell classes i)) (leb 2 (cell marks i) || false) (unrefused _ 4 Record i one) in
      (class.0, (neither (leb 2 (cell marks i)) false class.1).0)

  pub fine_class : (i : ℕ) → i < length classes → cell classes i < len
  fine_class i h = leb-false _ _ (fine i h).0

  pub fine_mark : (i : ℕ) → i < length classes → cell marks i < 2
  fine_mark i h = leb-false _ _ (fine i h).1

  -- both columns have one length
  pub even : length marks ≡ length classes
  unfolding marked_verdict judge_lengths
  even =
      let shape = (passes (judge_lengths (length classes ∷ length marks ∷ []) []) _ accepted).0 in
      let one = unrefused _ 2 Neither 0 (passes (refuse (too_long (length classes ∷ length marks ∷ []) || false) 1 Neither 0) (refuse (uneven (length classes ∷ length marks ∷ []) || false) 2 Neither 0) shape).1 in
      let differ = (neither (not (eqb (length classes) (length classes))) (not (eqb (length marks) (length classes)) || false) (neither (uneven (length classes ∷ length marks ∷ [])) false one).0).1 in
      eqb-true _ _ (not_off _ (neither (not (eqb (length marks) (length classes))) false differ).0)

-- columns of one length, not too long, and the greatest of their first i cells, which are all of them, in the lists
pub clean_accepted : (len : ℕ) (classes marks : List ℕ) (class mark i : ℕ) → length classes ≤ most → length marks ≡ length classes
    → ((k : ℕ) → k < i → cell classes k ≤ class) → ((k : ℕ) → k < i → cell marks k ≤ mark) → length classes ≤ i → class < len → mark < 2
    → marked_verdict len classes marks ≡ Ok tt
unfolding marked_verdict judge_lengths judge_marked
clean_accepted len classes marks class mark i short e at_most atMostMark all hc hm =
    let records = each_over (λ k. judge_marked len (cell classes k) (cell marks k) k) (length classes) 0
    (λ k l h.
    let inside : k < i = omega arith in
    let a : cell classes k < len = omega (arith, at_most k inside) in
    let b : cell marks k < 2 = omega (arith, atMostMark k inside) in
    rw (lt-leb _ _ a, lt-leb _ _ b)) in
    rw (e, le-ltb _ _ short, eq-eqb (length classes) (length classes) refl) records

-- three columns of which two and two are accepted
pub three_accepted : (len otherLen : ℕ) (classes others marks : List ℕ) → marked_verdict len classes marks ≡ Ok tt → marked_verdict otherLen others marks ≡ Ok tt
    → (Ok tt) ≡ over (λ i. judge_three len otherLen (cell classes i) (cell others i) (cell marks i) i) 0 (length classes)
unfolding judge_three
three_accepted len otherLen classes others marks a b =
    let e : length others ≡ length classes = sym (even otherLen others marks b) ∙ even len classes marks a in
    sym (each_over _ (length classes) 0 (λ k l h.
    let one = fine len classes marks a k (omega arith) in
    let two = fine otherLen others marks b k (omega (arith, e)) in
    rw (one.0, two.0, one.1)))

-- three lengths that pass: they are one, and so any two of them pass
module _ (a b c : ℕ) (h : judge_lengths (a ∷ b ∷ c ∷ []) [] ≡ Ok tt) where
  short : too_long (a ∷ b ∷ c ∷ []) ≡ false
  unfolding judge_lengths
  short = (neither (too_long (a ∷ b ∷ c ∷ [])) false (unrefused (too_long (a ∷ b ∷ c ∷ []) || false) 1 Neither 0 (passes (refuse (too_long (a ∷ b ∷ c ∷ []) || false) 1 Neither 0) (refuse (uneven (a ∷ b ∷ c ∷ []) || false) 2 Neither 0) h).0)).0

  level : uneven (a ∷ b ∷ c ∷ []) ≡ false
  unfolding judge_lengths
  level = (neither (uneven (a ∷ b ∷ c ∷ [])) false (unrefused (uneven (a ∷ b ∷ c ∷ []) || false) 2 Neither 0 (passes (refuse (too_long (a ∷ b ∷ c ∷ []) || false) 1 Neither 0) (refuse (uneven (a ∷ b ∷ c ∷ []) || false) 2 Neither 0) h).1)).0

  pub second_is : b ≡ a
  second_is = eqb-true b a (not_off (eqb b a) (neither (not (eqb b a)) (not (eqb c a) || false) (neither (not (eqb a a)) (not (eqb b a) || (not (eqb c a) || false)) level).1).0)

  third_is : c ≡ a
  third_is = eqb-true c a (not_off (eqb c a) (neither (not (eqb c a)) false (neither (not (eqb b a)) (not (eqb c a) || false) (neither (not (eqb a a)) (not (eqb b a) || (not (eqb c a) || false)) level).1).1).0)

  two_pass : (n : ℕ) → n ≡ a → judge_lengths (n ∷ c ∷ []) [] ≡ Ok tt
  unfolding judge_lengths
  two_pass n e =
      let s : ltb most a ≡ false = (neither (ltb most a) (too_long (b ∷ c ∷ [])) short).0 in
      rw (e, third_is, s, eq-eqb a a refl)

-- what the check of three columns accepts, that of two of them accepts
module _ (len otherLen : ℕ) (classes others marks : List ℕ) (shape : judge_lengths (length classes ∷ length others ∷ length marks ∷ []) [] ≡ Ok tt)
    (codes : over (λ i. judge_three len otherLen (cell classes i) (cell others i) (cell marks i) i) 0 (length classes) ≡ Ok tt) where
  pub three_listed : (k : ℕ) → k < length classes → (leb len (cell classes k) ≡ false) × ((leb otherLen (cell others k) ≡ false) × (leb 2 (cell marks k) ≡ false))
  unfolding judge_three
  three_listed k h =
      let one = over_each (λ i. judge_three len otherLen (cell classes i) (cell others i) (cell marks i) i) (length classes) 0 codes k (omega arith) (omega arith) in
      let p = neither (leb len (cell classes k)) (leb otherLen (cell others k) || (leb 2 (cell marks k) || false)) (unrefused _ 4 Record k one) in
      let q = neither (leb otherLen (cell others k)) (leb 2 (cell marks k) || false) p.1 in
      (p.0, (q.0, (neither (leb 2 (cell marks k)) false q.1).0))

  pub three_first : marked_verdict len classes marks ≡ Ok tt
  unfolding marked_verdict judge_marked
  three_first =
      let all = each_over (λ i. judge_marked len (cell classes i) (cell marks i) i) (length classes) 0
      (λ k l h. let e = three_listed k (omega arith) in rw (e.0, e.1.1)) in
      rw (two_pass (length classes) (length others) (length marks) shape (length classes) refl) all

  pub three_second : marked_verdict otherLen others marks ≡ Ok tt
  unfolding marked_verdict judge_marked
  three_second =
      let n = second_is (length classes) (length others) (length marks) shape in
      let all = each_over (λ i. judge_marked otherLen (cell others i) (cell marks i) i) (length others) 0
      (λ k l h. let e = three_listed k (omega (arith, n)) in rw (e.1.0, e.1.1)) in
      rw (two_pass (length classes) (length others) (length marks) shape (length others) n) all
