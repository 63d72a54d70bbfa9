-- The other way round: where a rule steps off the last token of a part, what a step off it brings about on the whole text holds at the
-- end of the rule too. One induction over the grammar, for every such fact X that a parse keeps. Assumes nothing.
use Prim.Native.Nat.{ℕ, zero, suc, ◌+◌, ◌<◌, ◌≤◌}
use mathlib.Core.Path.{◌≡◌, refl, sym, ◌∙◌, ap, subst}
use mathlib.Core.Bool.{Bool, true, false}
use mathlib.Core.List.{List}
use native.Mathlib.Omega.{arith}
use native.Mathlib.Nat.{le_refl}
use lib.ListN.{length}
use borrow.Author.Tests.{lt-ltb}
use Rattle.classes.specs.declared.Shape.{Shape}
use Rattle.classes.specs.declared.Shape.TheVariants.{Other}
use Rattle.parse.specs.declared.Parse.{Parse}
use Rattle.parse.specs.declared.Info.{Info}
use Rattle.parse.specs.State.{token_at, going, with_info, turns, loop, put_of, noted_of, moved_of, hop, step_of, push_of, note_of, on_joiner, passes_end, retried_of}
use Rattle.parse.specs.Rule.{Test, Rule, skip, stop, push, note, mark, seq, choose, while, scope, thrice, fit, run, crowded, holds, take_of, thrice_of}
use Rattle.basics.proofs.Tests.{if_intro, by_test}
use Rattle.parse.proofs.Loop.{Falls, loop_goes, loop_stays}
use Rattle.parse.proofs.Moves.{put_same, noted_same, moved_case, joiner_going, hop_falls}
use Rattle.parse.proofs.Keeps.{Keeps, take_keeps, run_keeps}
use Rattle.parse.proofs.Runs.{moves, run_falls}
use Rattle.window.specs.Window.{shift, Window, Near}
use Rattle.window.proofs.Run.{not_both, Inside, Fine, Does, Alike, sees_alike, going_room, put_shift, noted_shift, run_inside, take_inside, hop_inside, moved_inside, moved_window, joiner_window, holds_window, hop_window, put_at, take_window, run_window}

-- the step that ends the text
ending : (n : ℕ) (s : Parse) → s.at < n → s.done ≡ false → (moved_of n s).done ≡ true → (s.len < 32) × (n ≤ s.at + 1)
ending n s a d = moved_case (λ q. q.done ≡ true → (s.len < 32) × (n ≤ s.at + 1)) n s
    (λ l h e. not_both d e) (λ l h e. (l, rw (lt-ltb s.at n a) at h)) (λ l e. not_both d e)

module _ (text win : List ℕ) (k : ℕ) (w : Window text win k) (X : Parse → Type 0) (keeps : Keeps text X X)
    (off : (s : Parse) → going s ≡ true → s.at < length win → s.len < 32 → length win ≤ s.at + 1 → X (step_of text (shift k s))) where
  -- a loop, where a turn that ends the text brings it about
  module _ (test test' : Parse → Bool) (body body' : Parse → Parse) (falls : Falls win test body) (falls' : Falls text test' body')
      (sees : (s : Parse) → Inside win s → test' (shift k s) ≡ test s)
      (does : (s : Parse) → Inside win s → test s ≡ true → Fine text win k w (body s) → body' (shift k s) ≡ shift k (body s))
      (stays : (s : Parse) → Inside win s → test s ≡ true → Inside win (body s))
      (last : (s : Parse) → Inside win s → test s ≡ true → s.done ≡ false → (body s).done ≡ true → X (loop text test' body' (body' (shift k s)))) where
    abbrev Ends : Parse → Type 0
    Ends s = s.done ≡ false → (loop win test body s).done ≡ true → X (loop text test' body' (shift k s))

    turn : (s : Parse) → Inside win s → ((q : Parse) → turns win q < turns win s → Inside win q → Ends q) → Ends s
    turn s i later d f = by_test (test s)
        (λ h. subst X (sym (loop_goes text test' body' falls' (shift k s) (sees s i ∙ h)))
        (by_test (body s).done (λ e. last s i h d e)
        (λ e. subst (λ q. X (loop text test' body' q)) (sym (does s i h (not_both e)))
        (later (body s) (falls s h) (stays s i h) e (ap (λ (q : Parse). q.done) (sym (loop_goes win test body falls s h)) ∙ f)))))
        (λ h. not_both d (ap (λ (q : Parse). q.done) (sym (loop_stays win test body s h)) ∙ f))

    turned : (n : ℕ) (s : Parse) → turns win s ≤ n → Inside win s → Ends s
    turned zero s l i = turn s i (λ q x j. absurd (omega arith))
    turned (suc n) s l i = turn s i (λ q x j. turned n q (omega arith) j)

    loop_off : (s : Parse) → Inside win s → Ends s
    loop_off s i = turned (turns win s) s (le_refl _) i

  -- a U+034F that is stepped over, the last token
  hop_off : (s : Parse) → Inside win s → on_joiner win s ≡ true → s.done ≡ false → (hop win s).done ≡ true → X (loop text (on_joiner text) (hop text) (hop text (shift k s)))
  unfolding step_of
  hop_off s i h d f =
      let t = token_at win s.at in
      let q = put_of t Other s in
      let g = joiner_going win s h in
      let a : s.at < length win = i (going_room s.flow g) in
      let b : q.at < length win = put_at text win k w t Other s a in
      let e = ending (length win) q b (put_same (λ q. q.done) (λ n cs q. refl) t s Other ∙ d) f in
      subst (λ u. X (loop text (on_joiner text) (hop text) (moved_of (length text) u)))
      (sym (ap (λ t. put_of t Other (shift k s)) (w.same s.at a) ∙ put_shift k t Other s))
      (off q (put_same going (λ n cs q. refl) t s Other ∙ g) b e.0 e.1)

  step_off : (s : Parse) → going s ≡ true → s.at < length win → s.done ≡ false → (step_of win s).done ≡ true → X (step_of text (shift k s))
  unfolding step_of
  step_off s g a d f =
      let m = moved_of (length win) s in
      by_test m.done
      (λ x. let e = ending (length win) s a d x in off s g a e.0 e.1)
      (λ x. subst (λ q. X (loop text (on_joiner text) (hop text) q)) (sym (moved_window text win k w s a (not_both x)))
      (loop_off (on_joiner win) (on_joiner text) (hop win) (hop text) (hop_falls win) (hop_falls text) (joiner_window text win k w) (hop_window text win k w) (hop_inside win) hop_off
      m (moved_inside win s a) x f))

  push_off : (c : Shape) (s : Parse) → going s ≡ true → s.at < length win → s.done ≡ false → (push_of win c s).done ≡ true → X (push_of text c (shift k s))
  unfolding push_of
  push_off c s g a d f = let t = token_at win s.at in
      subst X (sym (ap (λ t. step_of text (put_of t c (shift k s))) (w.same s.at a) ∙ ap (step_of text) (put_shift k t c s)))
      (step_off (put_of t c s) (put_same going (λ n cs q. refl) t s c ∙ g) (put_at text win k w t c s a) (put_same (λ q. q.done) (λ n cs q. refl) t s c ∙ d) f)

  note_off : (s : Parse) → going s ≡ true → s.at < length win → s.done ≡ false → (note_of win s).done ≡ true → X (note_of text (shift k s))
  unfolding note_of
  note_off s g a d f = let t = token_at win s.at in
      subst X (sym (ap (λ t. step_of text (noted_of t (shift k s))) (w.same s.at a) ∙ ap (step_of text) (noted_shift k t s)))
      (step_off (noted_of t s) (noted_same going (λ n cs q. refl) t s ∙ g) (subst (λ n. n < length win) (sym (noted_same (λ q. q.at) (λ n cs q. refl) t s)) a) (noted_same (λ q. q.done) (λ n cs q. refl) t s ∙ d) f)

  take_off : (c : Shape) (s : Parse) → Inside win s → s.done ≡ false → (take_of win c s).done ≡ true → X (take_of text c (shift k s))
  take_off c s i d = if_intro (λ (q : Parse). q.done ≡ true → X (take_of text c (shift k s))) (going s) _ _
      (λ g f. rw g (push_off c s g (i (going_room s.flow g)) d f)) (λ g f. not_both d f)

  thrice_off : (c : Shape) (s : Parse) → Inside win s → s.done ≡ false → (thrice_of win c s).done ≡ true → X (thrice_of text c (shift k s))
  unfolding thrice_of
  thrice_off c s i d f =
      let a = take_of win c s in let b = take_of win c a in
      let j = take_inside win c s i in
      by_test a.done (λ x. take_keeps text X X keeps c _ (take_keeps text X X keeps c _ (take_off c s i d x)))
      (λ x. rw (take_window text win k w c s i (not_both x))
      (by_test b.done (λ y. take_keeps text X X keeps c _ (take_off c a j x y))
      (λ y. rw (take_window text win k w c a j (not_both y)) (take_off c b (take_inside win c a j) y f))))

  -- a rule that steps off the last token of the window
  abbrev pub Off : Rule → Parse → Type 0
  Off r s = s.done ≡ false → (run r win s).done ≡ true → X (run r text (shift k s))

  while_off : (p : Test) (a : Rule) → Near p → moves a ≡ true → ((s : Parse) → Inside win s → Does text win k w a s) → ((s : Parse) → Inside win s → Off a s) → (s : Parse) → Inside win s → Off (while p a) s
  unfolding run
  while_off p a near m same body s i =
      loop_off (holds win p) (holds text p) (run a win) (run a text) (λ q h. run_falls p a win q m h) (λ q h. run_falls p a text q m h)
      (holds_window text win k w p near) (λ q j h. same q j) (λ q j h. run_inside win a q j)
      (λ q j h d e. run_keeps text X X keeps (while p a) _ (body q j d e)) s i

  fit_off : (p : Test) (m : ℕ → Info → Info) (f : ℕ → Shape) (s : Parse) → Inside win s → (going s ≡ true → crowded text p (shift k s) ≡ crowded win p s) → Off (fit p m f) s
  unfolding run
  fit_off p m f s i e d x = if_intro (λ (q : Parse). q.done ≡ true → X (run (fit p m f) text (shift k s))) (going s) _ _
      (λ g. let a : s.at < length win = i (going_room s.flow g) in
      let t = token_at win s.at in
      if_intro (λ (q : Parse). q.done ≡ true → X (run (fit p m f) text (shift k s))) (crowded win p s) _ _
      (λ c h. not_both d h)
      (λ c h. rw (g, e g, c, w.same s.at a) (push_off (f t) (with_info (m t s.info) s) g a d h)))
      (λ g h. not_both d h) x

  retried_done : (s : Parse) → (retried_of s).done ≡ true → s.done ≡ true
  retried_done s = if_intro (λ (q : Parse). q.done ≡ true → s.done ≡ true) (passes_end s.mode s.flow s.again) _ _ (λ h f. f) (λ h f. f)

  pub run_off : (r : Rule) (s : Parse) → Alike text win k w r s → Inside win s → Off r s
  unfolding run
  run_off skip s v i d f = not_both d f
  run_off stop s v i d f = by_test (going s) (λ g. not_both d (rw g at f)) (λ g. not_both d (rw g at f))
  run_off (push p) s v i d f = if_intro (λ (q : Parse). q.done ≡ true → X (run (push p) text (shift k s))) (going s) _ _
      (λ g h. let a : s.at < length win = i (going_room s.flow g) in rw (g, w.same s.at a) (push_off (p (token_at win s.at)) s g a d h)) (λ g h. not_both d h) f
  run_off note s v i d f = if_intro (λ (q : Parse). q.done ≡ true → X (run note text (shift k s))) (going s) _ _
      (λ g h. rw g (note_off s g (i (going_room s.flow g)) d h)) (λ g h. not_both d h) f
  run_off (mark p) s v i d f = by_test (going s) (λ g. not_both d (rw g at f)) (λ g. not_both d (rw g at f))
  run_off (seq a b) s v i d f = by_test (run a win s).done
      (λ e. run_keeps text X X keeps b _ (run_off a s v.0 i d e))
      (λ e. rw (run_window text win k w a s v.0 i (not_both e)) (run_off b (run a win s) v.1 (run_inside win a s i) e f))
  run_off (choose p a b) s v i d f = if_intro (λ (q : Parse). q.done ≡ true → X (run (choose p a b) text (shift k s))) (holds win p s) _ _
      (λ h g. rw (v.0, h) (run_off a s (v.1.0 h) i d g)) (λ h g. rw (v.0, h) (run_off b s (v.1.1 h) i d g)) f
  run_off (while p a) s v i d f = while_off p a v.0 v.1.0
      (λ q j. run_window text win k w a q (sees_alike text win k w a v.1.1 q j) j) (λ q j. run_off a q (sees_alike text win k w a v.1.1 q j) j) s i d f
  run_off (scope a) s v i d f = if_intro (λ (q : Parse). q.done ≡ true → X (run (scope a) text (shift k s))) (going s) _ _
      (λ g h. rw g (keeps.resumed _ (run_off a s v i d h))) (λ g h. not_both d h) f
  run_off (thrice c) s v i d f = if_intro (λ (q : Parse). q.done ≡ true → X (run (thrice c) text (shift k s))) (going s) _ _
      (λ g h. rw g (keeps.retried _ (thrice_off c s i d (retried_done (thrice_of win c s) h)))) (λ g h. not_both d h) f
  run_off (fit p m h) s v i d f = fit_off p m h s i v d f
