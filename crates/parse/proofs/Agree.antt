-- Crate mode and whole mode do the same, as long as the cluster is not full and no token is read again; also where a call ends at the
-- end of the text. Assumes nothing.
use Prim.Native.Nat.{ℕ, zero, suc}
use mathlib.Core.Path.{◌≡◌, refl, sym, ◌∙◌, ap}
use mathlib.Core.Bool.{Bool, true, false, cond, false≢true}
use mathlib.Core.List.{List}
use native.Mathlib.Omega.{arith}
use lib.Dec.{eqb, ltb}
use lib.ListN.{length}
use borrow.Author.Tests.{eqb-true}
use Rattle.basics.proofs.Tests.{if_intro, by_test, both_of}
use Rattle.classes.specs.declared.Shape.{Shape}
use Rattle.classes.specs.declared.Shape.TheVariants.{Other}
use Rattle.parse.specs.declared.Parse.{Parse}
use Rattle.parse.specs.declared.Place.{Place}
use Rattle.parse.specs.declared.Info.{Info}
use Rattle.classes.specs.declared.Mode.{Mode}
use Rattle.classes.specs.declared.Mode.TheVariants.{Crate, Whole}
use Rattle.parse.specs.declared.Flow.{Flow}
use Rattle.parse.specs.declared.Flow.TheVariants.{GoOn, Stop, Full, End}
use Rattle.parse.specs.State.{token_at, place_after, begin, last_room, in_mode, is_going, going, with_flow, with_info, at_most, loop, turns, put_of, noted_of, moved_of, step_of, push_of, note_of, on_joiner, hop, go_on, passes_end, resumed_of, retried_of}
use Rattle.parse.specs.Rule.{Test, Rule, skip, stop, push, note, mark, seq, choose, while, scope, thrice, fit, run, crowded, holds, take_of, thrice_of}
use Rattle.parse.proofs.Loop.{at_most_keeps, loop_keeps}
use Rattle.parse.proofs.Moves.{moved_case, put_same, noted_same, step_stays}
use Rattle.parse.proofs.Steps.{plus, put_plus, moved_full}
use Rattle.parse.proofs.Keeps.{Keeps, hop_keeps, take_keeps, run_keeps}

abbrev pub not_full : Flow → Bool
not_full GoOn = true
not_full Stop = true
not_full Full = false
not_full End = true

-- neither full nor with a token read again
abbrev pub fine : Parse → Bool
fine s = cond s.again false (not_full s.flow)

abbrev up : Parse → Parse
up s = in_mode Whole s

-- what stays false once it is false was true before
before : (a b : Bool) → (a ≡ false → b ≡ false) → b ≡ true → a ≡ true
before true b k h = refl
before false b k h = absurd (false≢true (sym (k refl) ∙ h))

not_fine : (a : Bool) (f : Flow) → is_going f ≡ true → cond a false (not_full f) ≡ false → a ≡ true
not_fine true f g n = refl
not_fine false GoOn g n = sym n
not_fine false Stop g n = sym n
not_fine false Full g n = g
not_fine false End g n = sym n

again_not : (a : Bool) (f : Flow) → a ≡ true → cond a false (not_full f) ≡ false
again_not a f e = rw e

stays_full : (a : Bool) (f : Flow) → cond a false (not_full f) ≡ false → cond a false (not_full (go_on f)) ≡ false
stays_full true f n = refl
stays_full false GoOn n = n
stays_full false Stop n = n
stays_full false Full n = refl
stays_full false End n = n

-- what is not fine stays so
not_fine_keeps : (text : List ℕ) → Keeps text (λ q. fine q ≡ false) (λ q. q.again ≡ true)
not_fine_keeps text = record {
  put = λ c s g n. put_same (λ q. q.again) (λ k cs q. refl) (token_at text s.at) s c ∙ not_fine s.again s.flow g n;
  noted = λ s g n. noted_same (λ q. q.again) (λ k cs q. refl) (token_at text s.at) s ∙ not_fine s.again s.flow g n;
  moved = λ s a. moved_case (λ q. fine q ≡ false) (length text) s (λ l h. again_not s.again s.flow a) (λ l h. again_not s.again End a) (λ l. again_not s.again Full a);
  marked = λ i s n. n;
  stopped = λ s g n. again_not s.again Stop (not_fine s.again s.flow g n);
  resumed = λ s n. stays_full s.again s.flow n;
  retried = λ s n. if_intro (λ q. fine q ≡ false) (passes_end s.mode s.flow s.again) _ _ (λ h. refl) (λ h. n);
}

-- a loop agrees where its test and its body do
module _ (text : List ℕ) (test : Parse → Bool) (body : Parse → Parse)
    (same : (s : Parse) → test (up s) ≡ test s)
    (agrees : (s : Parse) → fine (body s) ≡ true → body (up s) ≡ up (body s))
    (keeps : (s : Parse) → fine s ≡ false → test s ≡ true → fine (body s) ≡ false) where
  at_most_agrees : (n : ℕ) (s : Parse) → fine (at_most test body n s) ≡ true → at_most test body n (up s) ≡ up (at_most test body n s)
  unfolding at_most
  at_most_agrees zero s f = refl
  at_most_agrees (suc n) s f = if_intro (λ q. fine q ≡ true → at_most test body (suc n) (up s) ≡ up q) (test s) _ _
      (λ h g. let k = before (fine (body s)) (fine (at_most test body n (body s))) (at_most_keeps test body (λ q. fine q ≡ false) keeps n (body s)) g in
      rw (same s, h) (ap (at_most test body n) (agrees s k) ∙ at_most_agrees n (body s) g))
      (λ h g. rw (same s, h)) f

  loop_agrees : (s : Parse) → fine (loop text test body s) ≡ true → loop text test body (up s) ≡ up (loop text test body s)
  unfolding loop
  loop_agrees s f = at_most_agrees (turns text s) s f

put_agrees : (t : ℕ) (c : Shape) (s : Parse) → put_of t c (up s) ≡ up (put_of t c s)
put_agrees t c s = if_intro (λ q. put_of t c (up s) ≡ up q) (ltb s.len 32) _ _ (λ h. rw h) (λ h. rw h)

noted_agrees : (t : ℕ) (s : Parse) → noted_of t (up s) ≡ up (noted_of t s)
noted_agrees t s = if_intro (λ q. noted_of t (up s) ≡ up q) (ltb 0 s.len) _ _
    (λ h. if_intro (λ q. noted_of t (up s) ≡ up q) (ltb s.len 33) _ _ (λ e. rw (h, e)) (λ e. rw (h, e)))
    (λ h. rw h (put_agrees t Other s))

full_not : (a : Bool) → cond a false false ≡ true → ⊥
full_not true e = false≢true e
full_not false e = false≢true e

moved_agrees : (n : ℕ) (s : Parse) → fine (moved_of n s) ≡ true → moved_of n (up s) ≡ up (moved_of n s)
moved_agrees n s = if_intro (λ q. fine q ≡ true → moved_of n (up s) ≡ up q) (ltb s.len 32) _ _
    (λ h. if_intro (λ q. fine q ≡ true → moved_of n (up s) ≡ up q) (ltb (place_after n s.at) n) _ _ (λ e f. rw (h, e)) (λ e f. rw (h, e)))
    (λ h f. absurd (full_not s.again f))

retried_agrees : (s : Parse) → fine (retried_of s) ≡ true → up s ≡ up (retried_of s)
retried_agrees s = if_intro (λ q. fine q ≡ true → up s ≡ up q) (passes_end s.mode s.flow s.again) _ _ (λ h f. absurd (false≢true f)) (λ h f. refl)

last_whole : (m : Mode) (n : ℕ) → last_room m n ≡ true → eqb n 31 ≡ true
last_whole Crate n e = absurd (false≢true e)
last_whole Whole n e = e

module _ (text : List ℕ) where
  abbrev unless : Keeps text (λ q. fine q ≡ false) (λ q. q.again ≡ true)
  unless = not_fine_keeps text

  hop_agrees : (s : Parse) → fine (hop text s) ≡ true → hop text (up s) ≡ up (hop text s)
  hop_agrees s f = let t = token_at text s.at in
      ap (moved_of (length text)) (put_agrees t Other s) ∙ moved_agrees (length text) (put_of t Other s) f

  step_agrees : (s : Parse) → fine (step_of text s) ≡ true → step_of text (up s) ≡ up (step_of text s)
  unfolding step_of
  step_agrees s f =
      let m = moved_of (length text) s in
      let k = loop_keeps text (on_joiner text) (hop text) (λ q. fine q ≡ false) (hop_keeps text _ _ unless) m in
      ap (loop text (on_joiner text) (hop text)) (moved_agrees (length text) s (before (fine m) _ k f))
      ∙ loop_agrees text (on_joiner text) (hop text) (λ q. refl) hop_agrees (hop_keeps text _ _ unless) m f

  push_agrees : (c : Shape) (s : Parse) → fine (push_of text c s) ≡ true → push_of text c (up s) ≡ up (push_of text c s)
  unfolding push_of
  push_agrees c s f = let t = token_at text s.at in ap (step_of text) (put_agrees t c s) ∙ step_agrees (put_of t c s) f

  -- the 32nd character fills the cluster
  last_full : (c : Shape) (s : Parse) → s.len ≡ 31 → fine (push_of text c s) ≡ false
  unfolding push_of
  last_full c s l = let t = token_at text s.at in
      let q = plus t c s in
      let m = moved_of (length text) q in
      let e : m.flow ≡ Full = ap (λ (u : Parse). u.flow) (moved_full (length text) q (omega (arith, l))) in
      ap (λ (u : Parse). fine (step_of text u)) (put_plus t c s (omega (arith, l)))
      ∙ ap (λ (u : Parse). fine u) (sym (step_stays text q m refl (if_intro (λ b. b ≡ false) (going m) _ _ (λ h. absurd (false≢true (sym (ap is_going e) ∙ h))) (λ h. refl))))
      ∙ ap (λ f. cond m.again false (not_full f)) e ∙ go m.again
    where
      go : (a : Bool) → cond a false false ≡ false
      go true = refl
      go false = refl

  -- where whole mode stops before a token that crate mode takes, crate mode's cluster is full with it
  fit_agrees : (p : Test) (c : Shape) (i : Info) (s : Parse) → fine (cond (crowded text p s) (with_flow Stop s) (push_of text c (with_info i s))) ≡ true
      → cond (crowded text p (up s)) (with_flow Stop (up s)) (push_of text c (with_info i (up s))) ≡ up (cond (crowded text p s) (with_flow Stop s) (push_of text c (with_info i s)))
  fit_agrees p c i s f = by_test (crowded text p (up s))
      (λ k. by_test (crowded text p s) (λ h. rw (k, h))
      (λ h. absurd (false≢true (sym (last_full c (with_info i s) (eqb-true s.len 31 (both_of (eqb s.len 31) (p text s.at) k).0)) ∙ (rw h at f)))))
      (λ k. by_test (crowded text p s)
      (λ h. let z = both_of (last_room s.mode s.len) (p text s.at) h in
      absurd (false≢true (sym k ∙ rw (last_whole s.mode s.len z.0, z.1))))
      (λ h. rw (k, h) (push_agrees c (with_info i s) (rw h at f))))

  note_agrees : (s : Parse) → fine (note_of text s) ≡ true → note_of text (up s) ≡ up (note_of text s)
  unfolding note_of
  note_agrees s f = let t = token_at text s.at in ap (step_of text) (noted_agrees t s) ∙ step_agrees (noted_of t s) f

  take_agrees : (c : Shape) (s : Parse) → fine (take_of text c s) ≡ true → take_of text c (up s) ≡ up (take_of text c s)
  take_agrees c s = if_intro (λ q. fine q ≡ true → take_of text c (up s) ≡ up q) (going s) _ _ (λ g f. rw g (push_agrees c s f)) (λ g f. rw g)

  take_before : (c : Shape) (s : Parse) → fine (take_of text c s) ≡ true → fine s ≡ true
  take_before c s f = before (fine s) _ (take_keeps text _ _ unless c s) f

  thrice_agrees : (c : Shape) (s : Parse) → fine (thrice_of text c s) ≡ true → thrice_of text c (up s) ≡ up (thrice_of text c s)
  unfolding thrice_of
  thrice_agrees c s f =
      let a = take_of text c s in let b = take_of text c a in
      let g = take_before c b f in
      ap (λ q. take_of text c (take_of text c q)) (take_agrees c s (take_before c a g)) ∙ ap (take_of text c) (take_agrees c a g) ∙ take_agrees c b f

  run_before : (r : Rule) (s : Parse) → fine (run r text s) ≡ true → fine s ≡ true
  run_before r s f = before (fine s) _ (run_keeps text _ _ unless r s) f

  -- The modes agree: where a rule, in crate mode, leaves a parse that is neither full nor with a token read again, it leaves the same
  -- in whole mode, but for the mode.
  pub run_agrees : (r : Rule) (s : Parse) → fine (run r text s) ≡ true → run r text (in_mode Whole s) ≡ in_mode Whole (run r text s)
  unfolding run
  run_agrees skip s f = refl
  run_agrees stop s f = by_test (going s) (λ g. rw g) (λ g. rw g)
  run_agrees (push p) s f = let c = p (token_at text s.at) in
      if_intro (λ q. fine q ≡ true → run (push p) text (up s) ≡ up q) (going s) _ _ (λ g h. rw g (push_agrees c s h)) (λ g h. rw g) f
  run_agrees note s f =
      if_intro (λ q. fine q ≡ true → run note text (up s) ≡ up q) (going s) _ _ (λ g h. rw g (note_agrees s h)) (λ g h. rw g) f
  run_agrees (mark p) s f = by_test (going s) (λ g. rw g) (λ g. rw g)
  run_agrees (seq a b) s f = ap (run b text) (run_agrees a s (run_before b (run a text s) f)) ∙ run_agrees b (run a text s) f
  run_agrees (choose p a b) s f = if_intro (λ q. fine q ≡ true → run (choose p a b) text (up s) ≡ up q) (holds text p s) _ _
      (λ h g. rw h (run_agrees a s g)) (λ h g. rw h (run_agrees b s g)) f
  run_agrees (while p a) s f = loop_agrees text (holds text p) (run a text) (λ q. refl) (λ q g. run_agrees a q g) (λ q n h. run_keeps text _ _ unless a q n) s f
  run_agrees (scope a) s f = if_intro (λ q. fine q ≡ true → run (scope a) text (up s) ≡ up q) (going s) _ _
      (λ g h. rw g (ap resumed_of (run_agrees a s (before (fine (run a text s)) _ (unless.resumed (run a text s)) h)))) (λ g h. rw g) f
  run_agrees (thrice c) s f = if_intro (λ q. fine q ≡ true → run (thrice c) text (up s) ≡ up q) (going s) _ _
      (λ g h. let r = thrice_of text c s in
      rw g (ap retried_of (thrice_agrees c s (before (fine r) _ (unless.retried r) h)) ∙ retried_agrees r h)) (λ g h. rw g) f
  run_agrees (fit p m u) s f = let t = token_at text s.at in
      if_intro (λ q. fine q ≡ true → run (fit p m u) text (up s) ≡ up q) (going s) _ _ (λ g h. rw g (fit_agrees p (u t) (m t s.info) s h)) (λ g h. rw g) f

  -- The same of a call: crate mode and whole mode agree on a call that ends neither full nor after repeat (b).
  pub call_agrees : (r : Rule) (p : Place) (j : Bool) → fine (run r text (begin p Crate j)) ≡ true → run r text (begin p Whole j) ≡ in_mode Whole (run r text (begin p Crate j))
  call_agrees r p j f = run_agrees r (begin p Crate j) f
