-- A run of U+034F: what step and push count by numbers, and that to push so many and to step off the last is the step. Assumes nothing.
use Prim.Native.Nat.{ℕ, zero, suc, ◌+◌, ◌-◌, ◌<◌, ◌≤◌}
use mathlib.Core.Path.{◌≡◌, refl, sym, ◌∙◌, ap}
use mathlib.Core.Bool.{true, false}
use mathlib.Core.List.{List}
use native.Mathlib.Omega.{arith}
use native.Mathlib.Nat.{le_refl, le_trans, le_of_eq}
use lib.Dec.{eqb, ltb}
use lib.ListN.{length, set, get_or-eq_default}
use borrow.Author.Tests.{lt-ltb, ltb-true, ltb-false, eq-eqb, ne_eqb, eqb-true, eqb-false}
use Rattle.basics.proofs.Tests.{by_test, if_intro}
use Rattle.classes.specs.declared.Shape.{Shape}
use Rattle.classes.specs.declared.Shape.TheVariants.{Other}
use Rattle.classes.specs.Scalar.{CGJ}
use Rattle.token.specs.Token.{scalar_of}
use Rattle.parse.specs.declared.Parse.{Parse}
use Rattle.parse.specs.declared.Pushed.{Pushed}
use Rattle.parse.specs.State.{token_at, place_after, going, with_place, with_cells, char_of, put_of, moved_of, on_joiner, step_of, push_of}
use Rattle.parse.specs.Inner.{step_past, last_pushed}
use Rattle.parse.proofs.Moves.{put_same, place_le, moved_case, step_over, step_stays}

-- the count, turn by turn: k is the place after i, x the scalar there
module _ (n len i k x : ℕ) (text : List ℕ) (e : k ≡ place_after n i) (h : x ≡ scalar_of (token_at text k)) where
  pub past_on : len < 32 → x ≡ CGJ → step_past (32 - (len + 1)) n text k ≡ step_past (32 - len) n text i
  unfolding step_past
  past_on l j = rw (let z : 32 - len ≡ suc (32 - (len + 1)) = omega arith in z, ← e, ← h, eq-eqb x CGJ j)

  pub past_here : len < 32 → (x ≡ CGJ → ⊥) → i ≡ step_past (32 - len) n text i
  unfolding step_past
  past_here l j = rw (let z : 32 - len ≡ suc (32 - (len + 1)) = omega arith in z, ← e, ← h, ne_eqb x CGJ j)

pub past_full : (n len i : ℕ) (text : List ℕ) → 32 ≤ len → i ≡ step_past (32 - len) n text i
unfolding step_past
past_full n len i text l = rw (let z : 32 - len ≡ 0 = omega arith in z)

-- it goes forward
past_le : (room n : ℕ) (text : List ℕ) (i : ℕ) → i ≤ step_past room n text i
unfolding step_past
past_le zero n text i = le_refl _
past_le (suc room) n text i = if_intro (λ k. i ≤ k) (eqb (scalar_of (token_at text (place_after n i))) CGJ) _ _
    (λ h. le_trans (place_le n i) (past_le room n text (place_after n i))) (λ h. le_refl _)

-- where a U+034F stands the text goes on
joiner_inside : (text : List ℕ) (i : ℕ) → scalar_of (token_at text i) ≡ CGJ → i < length text
joiner_inside text i h = by_test (ltb i (length text)) (λ b. ltb-true _ _ b)
    (λ b. absurd (let z : ◌≡◌ {A = ℕ} 0 CGJ = sym (ap scalar_of (get_or-eq_default text 0 (ltb-false _ _ b))) ∙ h in omega arith))

-- a token put and then stepped off is pushed
pub put_step : (text : List ℕ) (c : Shape) (s p : Parse) (t : ℕ) → t ≡ token_at text s.at → p ≡ put_of t c s → step_of text p ≡ push_of text c s
unfolding push_of
put_step text c s p t k e = ap (step_of text) (e ∙ ap (λ x. put_of x c s) k)

-- a parse whose current token is not the last of those that are pushed with it
pub record Next (text : List ℕ) (s : Parse) : Type 0 where
  pub goes : going s ≡ true
  pub joins : s.joins ≡ true
  pub room : s.len + 1 < 32
  pub inside : s.at + 1 < length text
  pub joiner : scalar_of (token_at text (s.at + 1)) ≡ CGJ
  pub last : step_past (32 - (s.len + 1 + 1)) (length text) text (s.at + 1) ≡ last_pushed text s

run_next : (text : List ℕ) (s : Parse) → s.at < last_pushed text s → Next text s
run_next text s h = by_test (going s)
    (λ g. by_test s.joins
    (λ j. by_test (ltb s.len 32)
    (λ l. by_test (ltb (s.len + 1) 32)
    (λ m. by_test (eqb (scalar_of (token_at text (place_after (length text) s.at))) CGJ)
    (λ t. next g j l (ltb-true _ _ m) (eqb-true _ _ t))
    (λ t. absurd (here g j l (past_here _ _ _ _ _ _ refl refl (ltb-true _ _ m) (eqb-false _ _ t)))))
    (λ m. absurd (here g j l (past_full _ _ _ _ (ltb-false _ _ m)))))
    (λ l. absurd (let z : s.at < s.at = rw (g, j, l) at h in omega arith)))
    (λ j. absurd (let z : s.at < s.at = rw (g, j) at h in omega arith)))
    (λ g. absurd (let z : s.at < s.at = rw g at h in omega arith))
  where
    here : going s ≡ true → s.joins ≡ true → ltb s.len 32 ≡ true → s.at ≡ step_past (32 - (s.len + 1)) (length text) text s.at → ⊥
    here g j l e = let z : s.at < s.at = le_trans (rw (g, j, l) at h) (le_of_eq (sym e)) in omega arith

    next : going s ≡ true → s.joins ≡ true → ltb s.len 32 ≡ true → s.len + 1 < 32 → scalar_of (token_at text (place_after (length text) s.at)) ≡ CGJ → Next text s
    next g j l m t =
        let i : place_after (length text) s.at < length text = joiner_inside text _ t in
        let e : place_after (length text) s.at ≡ s.at + 1 = rw (lt-ltb s.at (length text) (omega (arith, i, place_le (length text) s.at))) in
        record {
          goes = g;
          joins = j;
          room = m;
          inside = rw e at i;
          joiner = rw e at t;
          last = rw (g, j, l) (past_on (length text) (s.len + 1) s.at (s.at + 1) _ text (sym e) refl m (rw e at t));
        }

-- a turn: the current token of s is put as a character of class c, p, and stepped off onto the next U+034F, m
module _ (text : List ℕ) (c : Shape) (s p m : Parse) (t : ℕ) (h : s.at < last_pushed text s) (k : t ≡ token_at text s.at) (e : p ≡ put_of t c s) (o : m ≡ moved_of (length text) p) where
  onto : m ≡ with_place (s.at + 1) (with_cells (s.len + 1) (set s.chars s.len (char_of t c)) s)
  onto = let n = run_next text s h in
      let a : place_after (length text) s.at ≡ s.at + 1 = rw (lt-ltb s.at (length text) (omega (arith, n.inside))) in
      let f : p ≡ with_cells (s.len + 1) (set s.chars s.len (char_of t c)) s = e ∙ rw (lt-ltb s.len 32 (omega (arith, n.room))) in
      o ∙ ap (moved_of (length text)) f ∙ rw (lt-ltb _ _ n.room, a, lt-ltb _ _ n.inside)

  run_turn : push_of text Other m ≡ push_of text c s
  run_turn = let n = run_next text s h in
      step_over text p m o (rw onto (rw (n.goes, n.joins, eq-eqb _ _ n.joiner))) ∙ put_step text c s p t k e

  run_last : last_pushed text m ≡ last_pushed text s
  run_last = let n = run_next text s h in
      let z : last_pushed text (with_place (s.at + 1) (with_cells (s.len + 1) (set s.chars s.len (char_of t c)) s)) ≡ step_past (32 - (s.len + 1 + 1)) (length text) text (s.at + 1) = rw (n.goes, n.joins, lt-ltb _ _ n.room) in
      ap (last_pushed text) onto ∙ z ∙ n.last

  run_on : m.at ≡ s.at + 1
  run_on = ap (λ (x : Parse). x.at) onto

-- the last token that is pushed is stepped off onto no U+034F
run_over : (text : List ℕ) (c : Shape) (s p : Parse) (t : ℕ) → last_pushed text s ≤ s.at → p ≡ put_of t c s → moved_of (length text) p ≡ step_of text p
run_over text c s p t h e = step_stays text p _ refl (moved_case (λ m. on_joiner text m ≡ false) (length text) p
    (λ l i. by_test (going s)
    (λ g. by_test s.joins
    (λ j. by_test (eqb (scalar_of (token_at text (p.at + 1))) CGJ)
    (λ x. absurd (more g j l i (eqb-true _ _ x)))
    (λ x. rw (same going (λ n cs q. refl) ∙ g, same (λ q. q.joins) (λ n cs q. refl) ∙ j, x)))
    (λ j. rw (same going (λ n cs q. refl) ∙ g, same (λ q. q.joins) (λ n cs q. refl) ∙ j)))
    (λ g. rw (same going (λ n cs q. refl) ∙ g)))
    (λ l i. refl) (λ l. refl))
  where
    same : {A : Type 0} (f : Parse → A) → ((n : ℕ) (cs : List Pushed) (q : Parse) → f (with_cells n cs q) ≡ f q) → f p ≡ f s
    same f k = ap f e ∙ put_same f k t s c

    more : going s ≡ true → s.joins ≡ true → p.len < 32 → p.at + 1 < length text → scalar_of (token_at text (p.at + 1)) ≡ CGJ → ⊥
    more g j l i x = by_test (ltb s.len 32)
        (λ b. let n : p.len ≡ s.len + 1 = ap (λ (q : Parse). q.len) e ∙ rw b in
        let a : p.at ≡ s.at = same (λ q. q.at) (λ n cs q. refl) in
        let y : s.at + 1 ≡ place_after (length text) s.at = rw (lt-ltb s.at (length text) (omega (arith, i, a))) in
        let z : step_past (32 - (s.len + 1 + 1)) (length text) text (s.at + 1) ≡ step_past (32 - (s.len + 1)) (length text) text s.at = past_on (length text) (s.len + 1) s.at (s.at + 1) _ text y refl (omega (arith, l, n)) (rw a at x) in
        let w : step_past (32 - (s.len + 1)) (length text) text s.at ≤ s.at = rw (g, j, b) at h in
        omega (arith, z, w, past_le (32 - (s.len + 1 + 1)) (length text) text (s.at + 1)))
        (λ b. let n : p.len ≡ s.len = ap (λ (q : Parse). q.len) e ∙ rw b in omega (arith, n, l, ltb-false s.len 32 b))

-- the loop of a push: what is still to be pushed, as a character of class c, makes of s what it makes of q
abbrev pub Left : List ℕ → Parse → Shape → ℕ → Parse → Shape → Type 0
Left text q d last s c = (push_of text c s ≡ push_of text d q) × (last_pushed text s ≡ last)

module _ (text : List ℕ) (q : Parse) (d : Shape) (last : ℕ) (s p r : Parse) (c : Shape) (t : ℕ) (i : Left text q d last s c) (k : t ≡ token_at text s.at) (e : p ≡ put_of t c s) (o : r ≡ moved_of (length text) p) where
  more : s.at < last → s.at < last_pushed text s
  more h = le_trans h (le_of_eq (sym i.1))

  pub left_turn : s.at < last → Left text q d last r Other
  left_turn h = (run_turn text c s p r t (more h) k e o ∙ i.0, run_last text c s p r t (more h) k e o ∙ i.1)

  pub left_falls : s.at < last → last - r.at < last - s.at
  left_falls h = omega (arith, h, run_on text c s p r t (more h) k e o)

  pub left_over : last ≤ s.at → r ≡ push_of text d q
  left_over h = o ∙ run_over text c s p t (le_trans (le_of_eq i.1) h) e ∙ put_step text c s p t k e ∙ i.0
