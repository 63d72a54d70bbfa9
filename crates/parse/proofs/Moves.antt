-- One push, one note and one step: each takes from the turns left. Assumes nothing.
use Prim.Native.Nat.{ℕ, ◌+◌, ◌<◌, ◌≤◌}
use mathlib.Core.Path.{◌≡◌, refl, sym, ◌∙◌}
use mathlib.Core.Bool.{Bool, true, false, cond}
use mathlib.Core.List.{List}
use native.Mathlib.Omega.{arith}
use native.Mathlib.Nat.{le_refl, lt_trans}
use lib.Dec.{ltb}
use lib.ListN.{length}
use borrow.Author.Tests.{ltb-true, ltb-false}
use Rattle.basics.proofs.Tests.{if_intro, if_same}
use Rattle.classes.specs.declared.Shape.{Shape}
use Rattle.classes.specs.declared.Shape.TheVariants.{Other}
use Rattle.parse.specs.declared.Parse.{Parse}
use Rattle.parse.specs.declared.Pushed.{Pushed}
use Rattle.classes.specs.declared.Mode.{Mode}
use Rattle.classes.specs.declared.Mode.TheVariants.{Crate, Whole}
use Rattle.parse.specs.declared.Flow.TheVariants.{Full, End}
use Rattle.parse.specs.State.{token_at, place_after, filled_at, turns, going, with_place, with_flow, with_done, with_cells, put_of, noted_of, moved_of, on_joiner, hop, step_of, push_of, note_of}
use Rattle.parse.proofs.Loop.{Falls, loop_goes, loop_stays, loop_keeps}

-- what changes with no cell, a put and a note leave
module _ {A : Type 0} (f : Parse → A) (same : (n : ℕ) (cs : List Pushed) (s : Parse) → f (with_cells n cs s) ≡ f s) (t : ℕ) (s : Parse) where
  pub put_same : (c : Shape) → f (put_of t c s) ≡ f s
  put_same c = if_same f (ltb s.len 32) _ s (f s) (same _ _ s) refl

  pub noted_same : f (noted_of t s) ≡ f s
  noted_same = if_same f (ltb 0 s.len) _ _ (f s) (if_same f (ltb s.len 33) _ s (f s) (same _ _ s) refl) (put_same Other)

place_lt : (n i : ℕ) → ltb (place_after n i) n ≡ true → (place_after n i ≡ i + 1) × (i + 1 < n)
place_lt n i h = go (ltb i n) refl h
  where
    go : (b : Bool) → ltb i n ≡ b → ltb (cond b (i + 1) i) n ≡ true → (cond b (i + 1) i ≡ i + 1) × (i + 1 < n)
    go true k e = (refl, ltb-true _ _ e)
    go false k e = absurd (let l = ltb-true i n e in omega (arith, ltb-false i n k))

pub place_le : (n i : ℕ) → i ≤ place_after n i
place_le n i = if_intro (λ k. i ≤ k) (ltb i n) _ _ (λ h. omega arith) (λ h. omega arith)

filled_le : (m : Mode) (n i : ℕ) → i ≤ filled_at m n i
filled_le Crate n i = le_refl _
filled_le Whole n i = place_le n i

-- the three ways of a step: onto the next token, at the end of the text, at a cluster of 32
module _ (R : Parse → Type 0) (n : ℕ) (s : Parse) where
  pub moved_case : (s.len < 32 → s.at + 1 < n → R (with_place (s.at + 1) s)) → (s.len < 32 → n ≤ place_after n s.at → R (with_flow End (with_done s))) → (32 ≤ s.len → R (with_flow Full (with_place (filled_at s.mode n s.at) s))) → R (moved_of n s)
  moved_case next end full = if_intro R (ltb s.len 32) _ _
      (λ h. if_intro R (ltb (place_after n s.at) n) _ _
      (λ e. let p = place_lt n s.at e in rw p.0 (next (ltb-true _ _ h) p.1))
      (λ e. end (ltb-true _ _ h) (ltb-false _ _ e)))
      (λ h. full (ltb-false _ _ h))

-- a step goes forward
pub moved_at : (n : ℕ) (s : Parse) → s.at ≤ (moved_of n s).at
moved_at n s = moved_case (λ q. s.at ≤ q.at) n s (λ l h. omega arith) (λ l h. le_refl _) (λ l. filled_le s.mode n s.at)

moved_turns : (text : List ℕ) (s : Parse) → going s ≡ true → turns text (moved_of (length text) s) < turns text s
moved_turns text s g = moved_case (λ q. turns text q < turns text s) (length text) s
    (λ l h. simp g (omega arith)) (λ l h. simp g (omega arith)) (λ l. simp g (omega arith))

pub joiner_going : (text : List ℕ) (s : Parse) → on_joiner text s ≡ true → going s ≡ true
joiner_going text s h = go (going s) _ h
  where
    go : (b x : Bool) → cond b x false ≡ true → b ≡ true
    go true x e = refl
    go false x e = e

pub hop_falls : (text : List ℕ) → Falls text (on_joiner text) (hop text)
hop_falls text s h =
    let t = token_at text s.at in
    rw (← put_same (turns text) (λ n cs q. refl) t s Other)
    (moved_turns text (put_of t Other s) (put_same going (λ n cs q. refl) t s Other ∙ joiner_going text s h))

-- s moved to m, and m is at a U+034F or not
module _ (text : List ℕ) (s m : Parse) (e : m ≡ moved_of (length text) s) where
  pub step_over : on_joiner text m ≡ true → push_of text Other m ≡ step_of text s
  unfolding push_of step_of
  step_over h = rw (← e) (sym (loop_goes text (on_joiner text) (hop text) (hop_falls text) m h))

  pub step_stays : on_joiner text m ≡ false → m ≡ step_of text s
  unfolding step_of
  step_stays h = rw (← e) (sym (loop_stays text (on_joiner text) (hop text) m h))

-- the turns left fall: step, push, note
step_turns : (text : List ℕ) (s : Parse) → going s ≡ true → turns text (step_of text s) < turns text s
unfolding step_of
step_turns text s g = loop_keeps text (on_joiner text) (hop text) (λ q. turns text q < turns text s)
    (λ q i h. lt_trans (hop_falls text q h) i) (moved_of (length text) s) (moved_turns text s g)

pub push_turns : (text : List ℕ) (c : Shape) (s : Parse) → going s ≡ true → turns text (push_of text c s) < turns text s
unfolding push_of
push_turns text c s g = let t = token_at text s.at in
    rw (put_same (turns text) (λ n cs q. refl) t s c) at (step_turns text (put_of t c s) (put_same going (λ n cs q. refl) t s c ∙ g))

pub note_turns : (text : List ℕ) (s : Parse) → going s ≡ true → turns text (note_of text s) < turns text s
unfolding note_of
note_turns text s g = let t = token_at text s.at in
    rw (noted_same (turns text) (λ n cs q. refl) t s) at (step_turns text (noted_of t s) (noted_same going (λ n cs q. refl) t s ∙ g))
