-- What every push, note, step and mark keeps, every rule keeps: one induction over the grammar, for every law of this kind.
-- Assumes nothing.
use Prim.Native.Nat.{ℕ, ◌≤◌}
use mathlib.Core.Path.{◌≡◌, refl}
use mathlib.Core.Bool.{true}
use mathlib.Core.List.{List}
use native.Mathlib.Omega.{arith}
use native.Mathlib.Nat.{le_refl, le_trans}
use lib.Dec.{ltb}
use lib.ListN.{length}
use borrow.Author.Tests.{ltb-true}
use Rattle.basics.proofs.Tests.{if_intro}
use Rattle.classes.specs.declared.Shape.{Shape}
use Rattle.classes.specs.declared.Shape.TheVariants.{Other}
use Rattle.parse.specs.declared.Parse.{Parse}
use Rattle.parse.specs.declared.Pushed.{Pushed}
use Rattle.parse.specs.declared.Info.{Info}
use Rattle.classes.specs.declared.Mode.{Mode}
use Rattle.classes.specs.declared.Mode.TheVariants.{Crate, Whole}
use Rattle.parse.specs.declared.Flow.{Flow}
use Rattle.parse.specs.declared.Flow.TheVariants.{GoOn, Stop}
use Rattle.parse.specs.State.{token_at, place_after, filled_at, place_of, going, with_flow, with_cells, with_info, with_again, put_of, noted_of, moved_of, step_of, push_of, note_of, on_joiner, hop, go_on, passes_end, resumed_of, retried_of}
use Rattle.parse.specs.Rule.{Rule, skip, stop, push, note, mark, seq, choose, while, scope, thrice, fit, run, crowded, holds, take_of, thrice_of}
use Rattle.parse.proofs.Loop.{loop_keeps}
use Rattle.parse.proofs.Moves.{joiner_going, moved_case, moved_at}

-- I holds where the current token is still to be pushed or noted, J where it has been and is to be stepped off
pub record Keeps (text : List ℕ) (I J : Parse → Type 0) : Type 0 where
  pub put : (c : Shape) (s : Parse) → going s ≡ true → I s → J (put_of (token_at text s.at) c s)
  pub noted : (s : Parse) → going s ≡ true → I s → J (noted_of (token_at text s.at) s)
  pub moved : (s : Parse) → J s → I (moved_of (length text) s)
  pub marked : (i : Info) (s : Parse) → I s → I (with_info i s)
  pub stopped : (s : Parse) → going s ≡ true → I s → I (with_flow Stop s)
  pub resumed : (s : Parse) → I s → I (resumed_of s)
  pub retried : (s : Parse) → I s → I (retried_of s)

module _ (text : List ℕ) (I J : Parse → Type 0) (k : Keeps text I J) where
  pub hop_keeps : (s : Parse) → I s → on_joiner text s ≡ true → I (hop text s)
  hop_keeps s i h = k.moved (put_of (token_at text s.at) Other s) (k.put Other s (joiner_going text s h) i)

  pub step_keeps : (s : Parse) → J s → I (step_of text s)
  unfolding step_of
  step_keeps s j = loop_keeps text (on_joiner text) (hop text) I hop_keeps (moved_of (length text) s) (k.moved s j)

  pub push_keeps : (c : Shape) (s : Parse) → going s ≡ true → I s → I (push_of text c s)
  unfolding push_of
  push_keeps c s g i = step_keeps (put_of (token_at text s.at) c s) (k.put c s g i)

  pub note_keeps : (s : Parse) → going s ≡ true → I s → I (note_of text s)
  unfolding note_of
  note_keeps s g i = step_keeps (noted_of (token_at text s.at) s) (k.noted s g i)

  pub take_keeps : (c : Shape) (s : Parse) → I s → I (take_of text c s)
  take_keeps c s i = if_intro I (going s) _ _ (λ g. push_keeps c s g i) (λ g. i)

  pub thrice_keeps : (c : Shape) (s : Parse) → I s → I (thrice_of text c s)
  unfolding thrice_of
  thrice_keeps c s i = take_keeps c _ (take_keeps c _ (take_keeps c s i))

  pub run_keeps : (r : Rule) (s : Parse) → I s → I (run r text s)
  unfolding run
  run_keeps skip s i = i
  run_keeps stop s i = if_intro I (going s) _ _ (λ g. k.stopped s g i) (λ g. i)
  run_keeps (push f) s i = if_intro I (going s) _ _ (λ g. push_keeps (f (token_at text s.at)) s g i) (λ g. i)
  run_keeps note s i = if_intro I (going s) _ _ (λ g. note_keeps s g i) (λ g. i)
  run_keeps (mark f) s i = if_intro I (going s) _ _ (λ g. k.marked (f (token_at text s.at) s.info) s i) (λ g. i)
  run_keeps (seq a b) s i = run_keeps b (run a text s) (run_keeps a s i)
  run_keeps (choose p a b) s i = if_intro I (holds text p s) _ _ (λ g. run_keeps a s i) (λ g. run_keeps b s i)
  run_keeps (while p a) s i = loop_keeps text (holds text p) (run a text) I (λ q j h. run_keeps a q j) s i
  run_keeps (scope a) s i = if_intro I (going s) _ _ (λ g. k.resumed (run a text s) (run_keeps a s i)) (λ g. i)
  run_keeps (thrice c) s i = if_intro I (going s) _ _ (λ g. k.retried (thrice_of text c s) (thrice_keeps c s i)) (λ g. i)
  run_keeps (fit p m f) s i = let t = token_at text s.at in
      if_intro I (going s) _ _
      (λ g. if_intro I (crowded text p s) _ _ (λ h. k.stopped s g i) (λ h. push_keeps (f t) (with_info (m t s.info) s) g (k.marked (m t s.info) s i)))
      (λ g. i)

-- what a change of cells keeps, a put and a note keep
module _ (I : Parse → Type 0) (cells : (n : ℕ) (cs : List Pushed) (s : Parse) → I s → I (with_cells n cs s)) (t : ℕ) (s : Parse) (i : I s) where
  cells_put : (c : Shape) → I (put_of t c s)
  cells_put c = if_intro I (ltb s.len 32) _ _ (λ h. cells _ _ s i) (λ h. i)

  cells_noted : I (noted_of t s)
  cells_noted = if_intro I (ltb 0 s.len) _ _ (λ h. if_intro I (ltb s.len 33) _ _ (λ e. cells _ _ s i) (λ e. i)) (λ h. cells_put Other)

-- what every change of a cell, of the info, of the flow and of `again` keeps, and every step
pub record Plain (text : List ℕ) (I : Parse → Type 0) : Type 0 where
  pub cells : (n : ℕ) (cs : List Pushed) (s : Parse) → I s → I (with_cells n cs s)
  pub info : (i : Info) (s : Parse) → I s → I (with_info i s)
  pub flow : (f : Flow) (s : Parse) → I s → I (with_flow f s)
  pub again : (s : Parse) → I s → I (with_again s)
  pub moved : (s : Parse) → I s → I (moved_of (length text) s)

pub plain_keeps : (text : List ℕ) (I : Parse → Type 0) → Plain text I → Keeps text I I
plain_keeps text I k = record {
  put = λ c s g i. cells_put I k.cells (token_at text s.at) s i c;
  noted = λ s g i. cells_noted I k.cells (token_at text s.at) s i;
  moved = k.moved;
  marked = k.info;
  stopped = λ s g i. k.flow Stop s i;
  resumed = λ s i. k.flow (go_on s.flow) s i;
  retried = λ s i. if_intro I (passes_end s.mode s.flow s.again) _ _ (λ h. k.flow GoOn (with_again s) (k.again s i)) (λ h. i);
}

same_mode : (text : List ℕ) (s : Parse) → Keeps text (λ q. q.mode ≡ s.mode) (λ q. q.mode ≡ s.mode)
same_mode text s = plain_keeps text (λ q. q.mode ≡ s.mode) (record {
  cells = λ n cs q i. i;
  info = λ j q i. i;
  flow = λ f q i. i;
  again = λ q i. i;
  moved = λ q i. moved_case (λ u. u.mode ≡ s.mode) (length text) q (λ l h. i) (λ l h. i) (λ l. i);
})

module _ (r : Rule) (text : List ℕ) (s : Parse) where
  -- the place never goes back
  pub run_at : s.at ≤ (run r text s).at
  run_at = run_keeps text (λ q. s.at ≤ q.at) (λ q. s.at ≤ q.at)
      (plain_keeps text (λ q. s.at ≤ q.at) (record {
        cells = λ n cs q i. i;
        info = λ j q i. i;
        flow = λ f q i. i;
        again = λ q i. i;
        moved = λ q i. le_trans i (moved_at (length text) q);
      }))
      r s (le_refl _)

  -- the mode stays
  pub run_mode : (run r text s).mode ≡ s.mode
  run_mode = run_keeps text (λ q. q.mode ≡ s.mode) (λ q. q.mode ≡ s.mode) (same_mode text s) r s refl

-- also within a kinzi
pub thrice_mode : (text : List ℕ) (c : Shape) (s : Parse) → (thrice_of text c s).mode ≡ s.mode
thrice_mode text c s = thrice_keeps text (λ q. q.mode ≡ s.mode) (λ q. q.mode ≡ s.mode) (same_mode text s) c s refl

place_within : (n i : ℕ) → i ≤ n → place_after n i ≤ n
place_within n i h = if_intro (λ k. k ≤ n) (ltb i n) _ _ (λ e. omega (arith, ltb-true i n e)) (λ e. h)

filled_within : (m : Mode) (n i : ℕ) → i ≤ n → filled_at m n i ≤ n
filled_within Crate n i h = h
filled_within Whole n i h = place_within n i h

-- the place stays in the text
pub run_within : (r : Rule) (text : List ℕ) (s : Parse) → s.at ≤ length text → (run r text s).at ≤ length text
run_within r text s w = run_keeps text (λ q. q.at ≤ length text) (λ q. q.at ≤ length text)
    (plain_keeps text (λ q. q.at ≤ length text) (record {
      cells = λ n cs q i. i;
      info = λ j q i. i;
      flow = λ f q i. i;
      again = λ q i. i;
      moved = λ q i. moved_case (λ u. u.at ≤ length text) (length text) q
          (λ l h. omega arith) (λ l h. i) (λ l. filled_within q.mode (length text) q.at i);
    }))
    r s w

-- and so does the place handed back
pub place_in : (r : Rule) (text : List ℕ) (s : Parse) → s.at ≤ length text → place_of text (run r text s) ≤ length text
place_in r text s w = if_intro (λ k. k ≤ length text) (run r text s).done _ _ (λ d. le_refl _) (λ d. run_within r text s w)

put_most : (t : ℕ) (c : Shape) (s : Parse) → s.len ≤ 32 → (put_of t c s).len ≤ 32
put_most t c s i = if_intro (λ (q : Parse). q.len ≤ 32) (ltb s.len 32) _ _ (λ h. omega (arith, ltb-true s.len 32 h)) (λ h. i)

-- "a cluster has 32 characters at most" (SCOPE 2.3)
pub run_most : (r : Rule) (text : List ℕ) (s : Parse) → s.len ≤ 32 → (run r text s).len ≤ 32
run_most r text s w = run_keeps text (λ q. q.len ≤ 32) (λ q. q.len ≤ 32)
    (record {
      put = λ c q g i. put_most (token_at text q.at) c q i;
      noted = λ q g i. if_intro (λ (u : Parse). u.len ≤ 32) (ltb 0 q.len) _ _
          (λ h. if_intro (λ (u : Parse). u.len ≤ 32) (ltb q.len 33) _ _ (λ e. i) (λ e. i)) (λ h. put_most (token_at text q.at) Other q i);
      moved = λ q i. moved_case (λ u. u.len ≤ 32) (length text) q (λ l h. i) (λ l h. i) (λ l. i);
      marked = λ j q i. i;
      stopped = λ q g i. i;
      resumed = λ q i. i;
      retried = λ q i. if_intro (λ (u : Parse). u.len ≤ 32) (passes_end q.mode q.flow q.again) _ _ (λ h. i) (λ h. i);
    })
    r s w
