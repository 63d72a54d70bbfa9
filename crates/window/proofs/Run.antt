-- The law under an open text (Req 09): a rule that does not "read past the last lent" token of a part of a text does the same on the
-- whole text, place for place. What it asks by a step is read off its result: `done` is set by one thing only, the step off the last
-- token while there is room, and is never taken back, not by repeat (b) either; a step onto a cluster of 32 does not set it. What it
-- asks by a look-ahead is not, and `Alike` says it: each test that the rule makes on the part answers the same on the text. Assumes
-- nothing.
use Prim.Native.Nat.{ℕ, zero, suc, ◌+◌, ◌<◌, ◌≤◌}
use mathlib.Core.Path.{◌≡◌, refl, sym, ◌∙◌, ap, subst}
use mathlib.Core.Bool.{Bool, true, false, false≢true}
use mathlib.Core.List.{List}
use native.Mathlib.Omega.{arith}
use native.Mathlib.Nat.{le_refl}
use lib.Dec.{ltb}
use lib.ListN.{length}
use borrow.Author.Tests.{lt-ltb, le-ltb}
use Rattle.classes.specs.declared.Shape.{Shape}
use Rattle.classes.specs.declared.Shape.TheVariants.{Other}
use Rattle.classes.specs.declared.Mode.{Mode}
use Rattle.classes.specs.declared.Mode.TheVariants.{Crate, Whole}
use Rattle.parse.specs.declared.Parse.{Parse}
use Rattle.parse.specs.declared.Info.{Info}
use Rattle.parse.specs.declared.Flow.{Flow}
use Rattle.parse.specs.declared.Flow.TheVariants.{GoOn, Stop, Full, End}
use Rattle.parse.specs.State.{token_at, filled_at, with_place, is_going, going, with_info, turns, loop, put_of, noted_of, moved_of, step_of, push_of, note_of, on_joiner, hop, go_on, passes_end, resumed_of, retried_of}
use Rattle.parse.specs.Rule.{Test, Rule, skip, stop, push, note, mark, seq, choose, while, scope, thrice, fit, run, crowded, holds, take_of, thrice_of}
use Rattle.basics.proofs.Tests.{if_intro, by_test}
use Rattle.parse.proofs.Loop.{Falls, loop_keeps, loop_goes, loop_stays}
use Rattle.parse.proofs.Moves.{put_same, noted_same, moved_case, joiner_going, hop_falls}
use Rattle.parse.proofs.Keeps.{Keeps, plain_keeps, hop_keeps, take_keeps, run_keeps}
use Rattle.parse.proofs.Runs.{moves, run_falls}
use Rattle.parse.proofs.Agree.{not_full}
use Rattle.window.specs.Window.{shift, Window, Near}

-- a rule whose tests see the current token alone, and whose loops pass a token a turn
abbrev pub Sees : Rule → Type 0
Sees skip = Unit
Sees stop = Unit
Sees (push f) = Unit
Sees note = Unit
Sees (mark f) = Unit
Sees (seq a b) = Sees a × Sees b
Sees (choose p a b) = Near p × (Sees a × Sees b)
Sees (while p a) = Near p × ((moves a ≡ true) × Sees a)
Sees (scope a) = Sees a
Sees (thrice c) = Unit
Sees (fit p m f) = Near p

-- a test is not both
pub not_both : {A : Type 0} {b : Bool} → b ≡ false → b ≡ true → A
not_both e h = absurd (false≢true (sym e ∙ h))

pub going_room : (f : Flow) → is_going f ≡ true → not_full f ≡ true
going_room GoOn e = refl
going_room Stop e = refl
going_room Full e = e
going_room End e = refl

on_room : (f : Flow) → not_full (go_on f) ≡ true → not_full f ≡ true
on_room GoOn e = refl
on_room Stop e = refl
on_room Full e = e
on_room End e = refl

passes_room : (m : Mode) (f : Flow) (a : Bool) → passes_end m f a ≡ true → not_full f ≡ true
passes_room Whole f a e = absurd (false≢true e)
passes_room Crate GoOn a e = refl
passes_room Crate Stop a e = refl
passes_room Crate Full a e = e
passes_room Crate End a e = refl

-- a parse that is not full is at a token of the text
abbrev pub Inside : List ℕ → Parse → Type 0
Inside text s = not_full s.flow ≡ true → s.at < length text

module _ (text : List ℕ) where
  inside_keeps : Keeps text (Inside text) (λ q. q.at < length text)
  inside_keeps = record {
    put = λ c s g i. subst (λ n. n < length text) (sym (put_same (λ q. q.at) (λ n cs q. refl) (token_at text s.at) s c)) (i (going_room s.flow g));
    noted = λ s g i. subst (λ n. n < length text) (sym (noted_same (λ q. q.at) (λ n cs q. refl) (token_at text s.at) s)) (i (going_room s.flow g));
    moved = λ s j. moved_case (Inside text) (length text) s (λ l h n. h) (λ l h n. j) (λ l n. absurd (false≢true n));
    marked = λ i s h. h;
    stopped = λ s g h n. h (going_room s.flow g);
    resumed = λ s h n. h (on_room s.flow n);
    retried = λ s h. if_intro (Inside text) (passes_end s.mode s.flow s.again) _ _ (λ e n. h (passes_room s.mode s.flow s.again e)) (λ e. h);
  }

  pub run_inside : (r : Rule) (s : Parse) → Inside text s → Inside text (run r text s)
  run_inside r s i = run_keeps text _ _ inside_keeps r s i

  pub take_inside : (c : Shape) (s : Parse) → Inside text s → Inside text (take_of text c s)
  take_inside c s i = take_keeps text _ _ inside_keeps c s i

  pub hop_inside : (s : Parse) → Inside text s → on_joiner text s ≡ true → Inside text (hop text s)
  hop_inside s i h = hop_keeps text _ _ inside_keeps s i h

  pub moved_inside : (s : Parse) → s.at < length text → Inside text (moved_of (length text) s)
  moved_inside s a = inside_keeps.moved s a

  -- `done` stays
  done_keeps : Keeps text (λ q. q.done ≡ true) (λ q. q.done ≡ true)
  done_keeps = plain_keeps text (λ q. q.done ≡ true) (record {
    cells = λ n cs q i. i;
    info = λ j q i. i;
    flow = λ f q i. i;
    again = λ q i. i;
    moved = λ q i. moved_case (λ u. u.done ≡ true) (length text) q (λ l h. i) (λ l h. refl) (λ l. i);
  })

  pub run_done : (r : Rule) (s : Parse) → s.done ≡ true → (run r text s).done ≡ true
  run_done r s i = run_keeps text _ _ done_keeps r s i

  pub hops_done : (s : Parse) → s.done ≡ true → (loop text (on_joiner text) (hop text) s).done ≡ true
  hops_done s i = loop_keeps text (on_joiner text) (hop text) (λ q. q.done ≡ true) (hop_keeps text _ _ done_keeps) s i

  pub take_done : (c : Shape) (s : Parse) → s.done ≡ true → (take_of text c s).done ≡ true
  take_done c s i = take_keeps text _ _ done_keeps c s i

filled_shift : (m : Mode) (n big i k : ℕ) → i < n → n + k ≤ big → filled_at m big (i + k) ≡ filled_at m n i + k
filled_shift Crate n big i k a w = refl
filled_shift Whole n big i k a w = rw (lt-ltb i n a, lt-ltb (i + k) big (omega arith)) (omega arith)

pub put_shift : (k t : ℕ) (c : Shape) (s : Parse) → put_of t c (shift k s) ≡ shift k (put_of t c s)
put_shift k t c s = if_intro (λ q. put_of t c (shift k s) ≡ shift k q) (ltb s.len 32) _ _ (λ h. rw h) (λ h. rw h)

pub noted_shift : (k t : ℕ) (s : Parse) → noted_of t (shift k s) ≡ shift k (noted_of t s)
noted_shift k t s = if_intro (λ q. noted_of t (shift k s) ≡ shift k q) (ltb 0 s.len) _ _
    (λ h. if_intro (λ q. noted_of t (shift k s) ≡ shift k q) (ltb s.len 33) _ _ (λ e. rw (h, e)) (λ e. rw (h, e)))
    (λ h. rw h (put_shift k t Other s))

module _ (text win : List ℕ) (k : ℕ) (w : Window text win k) where
  -- nothing is read past the window, or it goes to the end of the text
  abbrev pub Fine : Parse → Type 0
  Fine s = s.done ≡ true → length win + k ≡ length text

  pub moved_window : (s : Parse) → s.at < length win → Fine (moved_of (length win) s) → moved_of (length text) (shift k s) ≡ shift k (moved_of (length win) s)
  moved_window s a = moved_case (λ q. Fine q → moved_of (length text) (shift k s) ≡ shift k q) (length win) s
      (λ l h f. let big = w.inside in
      rw (lt-ltb s.len 32 l, lt-ltb (s.at + k) (length text) (omega arith), lt-ltb (s.at + k + 1) (length text) (omega arith))
      (ap (λ (i : ℕ). with_place i s) (omega arith)))
      (λ l h f. let e = f refl in
      let h' : length win ≤ s.at + 1 = rw (lt-ltb s.at (length win) a) at h in
      rw (lt-ltb s.len 32 l, lt-ltb (s.at + k) (length text) (omega arith), le-ltb (s.at + k + 1) (length text) (omega arith)))
      (λ l f. rw (le-ltb s.len 32 l, filled_shift s.mode (length win) (length text) s.at k a w.inside))

  pub joiner_window : (s : Parse) → Inside win s → on_joiner text (shift k s) ≡ on_joiner win s
  joiner_window s i = by_test (going s) (λ g. rw (w.same s.at (i (going_room s.flow g)))) (λ g. rw g)

  pub holds_window : (p : Test) → Near p → (s : Parse) → Inside win s → holds text p (shift k s) ≡ holds win p s
  holds_window p n s i = by_test (going s) (λ g. rw (n text win (s.at + k) s.at (w.same s.at (i (going_room s.flow g))))) (λ g. rw g)

  -- a loop, where its test sees the same, its body does the same, and each turn takes from the turns left
  module _ (test test' : Parse → Bool) (body body' : Parse → Parse) (falls : Falls win test body) (falls' : Falls text test' body')
      (sees : (s : Parse) → Inside win s → test' (shift k s) ≡ test s)
      (does : (s : Parse) → Inside win s → test s ≡ true → Fine (body s) → body' (shift k s) ≡ shift k (body s))
      (stays : (s : Parse) → Inside win s → test s ≡ true → Inside win (body s))
      (lasts : (s : Parse) → s.done ≡ true → (loop win test body s).done ≡ true) where
    abbrev Same : Parse → Type 0
    Same s = Fine (loop win test body s) → loop text test' body' (shift k s) ≡ shift k (loop win test body s)

    turn : (s : Parse) → Inside win s → ((q : Parse) → turns win q < turns win s → Inside win q → Same q) → Same s
    turn s i later f = by_test (test s)
        (λ h. let e = loop_goes win test body falls s h in
        loop_goes text test' body' falls' (shift k s) (sees s i ∙ h)
        ∙ ap (loop text test' body') (does s i h (λ d. f (ap (λ (q : Parse). q.done) e ∙ lasts (body s) d)))
        ∙ later (body s) (falls s h) (stays s i h) (λ d. f (ap (λ (q : Parse). q.done) e ∙ d))
        ∙ ap (shift k) (sym e))
        (λ h. loop_stays text test' body' (shift k s) (sees s i ∙ h) ∙ ap (shift k) (sym (loop_stays win test body s h)))

    turned : (n : ℕ) (s : Parse) → turns win s ≤ n → Inside win s → Same s
    turned zero s l i = turn s i (λ q x j. absurd (omega arith))
    turned (suc n) s l i = turn s i (λ q x j. turned n q (omega arith) j)

    pub loop_window : (s : Parse) → Inside win s → Same s
    loop_window s i = turned (turns win s) s (le_refl _) i

  pub put_at : (t : ℕ) (c : Shape) (s : Parse) → s.at < length win → (put_of t c s).at < length win
  put_at t c s a = subst (λ n. n < length win) (sym (put_same (λ q. q.at) (λ n cs q. refl) t s c)) a

  pub hop_window : (s : Parse) → Inside win s → on_joiner win s ≡ true → Fine (hop win s) → hop text (shift k s) ≡ shift k (hop win s)
  hop_window s i h f =
      let t = token_at win s.at in
      let a : s.at < length win = i (going_room s.flow (joiner_going win s h)) in
      ap (λ t. moved_of (length text) (put_of t Other (shift k s))) (w.same s.at a)
      ∙ ap (moved_of (length text)) (put_shift k t Other s)
      ∙ moved_window (put_of t Other s) (put_at t Other s a) f

  -- off the current token, and over each U+034F that follows
  pub step_window : (s : Parse) → s.at < length win → Fine (step_of win s) → step_of text (shift k s) ≡ shift k (step_of win s)
  unfolding step_of
  step_window s a f =
      ap (loop text (on_joiner text) (hop text)) (moved_window s a (λ d. f (hops_done win (moved_of (length win) s) d)))
      ∙ loop_window (on_joiner win) (on_joiner text) (hop win) (hop text) (hop_falls win) (hop_falls text) joiner_window hop_window (hop_inside win) (hops_done win)
      (moved_of (length win) s) (moved_inside win s a) f

  pub push_window : (c : Shape) (s : Parse) → s.at < length win → Fine (push_of win c s) → push_of text c (shift k s) ≡ shift k (push_of win c s)
  unfolding push_of
  push_window c s a f = let t = token_at win s.at in
      ap (λ t. step_of text (put_of t c (shift k s))) (w.same s.at a)
      ∙ ap (step_of text) (put_shift k t c s)
      ∙ step_window (put_of t c s) (put_at t c s a) f

  pub note_window : (s : Parse) → s.at < length win → Fine (note_of win s) → note_of text (shift k s) ≡ shift k (note_of win s)
  unfolding note_of
  note_window s a f = let t = token_at win s.at in
      ap (λ t. step_of text (noted_of t (shift k s))) (w.same s.at a)
      ∙ ap (step_of text) (noted_shift k t s)
      ∙ step_window (noted_of t s) (subst (λ n. n < length win) (sym (noted_same (λ q. q.at) (λ n cs q. refl) t s)) a) f

  pub take_window : (c : Shape) (s : Parse) → Inside win s → Fine (take_of win c s) → take_of text c (shift k s) ≡ shift k (take_of win c s)
  take_window c s i = if_intro (λ q. Fine q → take_of text c (shift k s) ≡ shift k q) (going s) _ _
      (λ g f. rw g (push_window c s (i (going_room s.flow g)) f)) (λ g f. rw g)

  pub thrice_window : (c : Shape) (s : Parse) → Inside win s → Fine (thrice_of win c s) → thrice_of text c (shift k s) ≡ shift k (thrice_of win c s)
  unfolding thrice_of
  thrice_window c s i f =
      let a = take_of win c s in let b = take_of win c a in
      let j = take_inside win c s i in
      ap (λ q. take_of text c (take_of text c q)) (take_window c s i (λ d. f (take_done win c b (take_done win c a d))))
      ∙ ap (take_of text c) (take_window c a j (λ d. f (take_done win c b d)))
      ∙ take_window c b (take_inside win c a j) f

  retried_shift : (s : Parse) → retried_of (shift k s) ≡ shift k (retried_of s)
  retried_shift s = if_intro (λ q. retried_of (shift k s) ≡ shift k q) (passes_end s.mode s.flow s.again) _ _ (λ h. rw h) (λ h. rw h)

  retried_done : (s : Parse) → s.done ≡ true → (retried_of s).done ≡ true
  retried_done s d = (done_keeps win).retried s d

  -- a rule does, from a parse on the window, what it does from the same place of the text
  abbrev pub Does : Rule → Parse → Type 0
  Does r s = Fine (run r win s) → run r text (shift k s) ≡ shift k (run r win s)

  -- What a look-ahead asks, as a definition over the grammar: each test that the rule makes on the window answers the same on the text. In
  -- a loop it sees the current token alone.
  abbrev pub Alike : Rule → Parse → Type 0
  Alike skip s = Unit
  Alike stop s = Unit
  Alike (push f) s = Unit
  Alike note s = Unit
  Alike (mark f) s = Unit
  Alike (seq a b) s = Alike a s × Alike b (run a win s)
  Alike (choose p a b) s = (holds text p (shift k s) ≡ holds win p s) × ((holds win p s ≡ true → Alike a s) × (holds win p s ≡ false → Alike b s))
  Alike (while p a) s = Sees (while p a)
  Alike (scope a) s = Alike a s
  Alike (thrice c) s = Unit
  Alike (fit p m f) s = going s ≡ true → crowded text p (shift k s) ≡ crowded win p s

  -- it holds of every rule whose tests see the current token alone
  pub sees_alike : (r : Rule) → Sees r → (s : Parse) → Inside win s → Alike r s
  sees_alike skip v s i = tt
  sees_alike stop v s i = tt
  sees_alike (push f) v s i = tt
  sees_alike note v s i = tt
  sees_alike (mark f) v s i = tt
  sees_alike (seq a b) v s i = (sees_alike a v.0 s i, sees_alike b v.1 (run a win s) (run_inside win a s i))
  sees_alike (choose p a b) v s i = (holds_window p v.0 s i, (λ h. sees_alike a v.1.0 s i, λ h. sees_alike b v.1.1 s i))
  sees_alike (while p a) v s i = v
  sees_alike (scope a) v s i = sees_alike a v s i
  sees_alike (thrice c) v s i = tt
  sees_alike (fit p m f) v s i = λ g. rw (v text win (s.at + k) s.at (w.same s.at (i (going_room s.flow g))))

  while_window : (p : Test) (a : Rule) → Near p → moves a ≡ true → ((s : Parse) → Inside win s → Does a s) → (s : Parse) → Inside win s → Does (while p a) s
  unfolding run
  while_window p a near m body s i f =
      loop_window (holds win p) (holds text p) (run a win) (run a text) (λ q h. run_falls p a win q m h) (λ q h. run_falls p a text q m h)
      (holds_window p near) (λ q j h. body q j) (λ q j h. run_inside win a q j) (run_done win (while p a)) s i f

  -- where there is no room for two tokens, the test is made
  fit_window : (p : Test) (m : ℕ → Info → Info) (f : ℕ → Shape) (s : Parse) → Inside win s → (going s ≡ true → crowded text p (shift k s) ≡ crowded win p s) → Does (fit p m f) s
  unfolding run
  fit_window p m f s i e fine = if_intro (λ q. Fine q → run (fit p m f) text (shift k s) ≡ shift k q) (going s) _ _
      (λ g. let a : s.at < length win = i (going_room s.flow g) in
      let t = token_at win s.at in
      if_intro (λ q. Fine q → run (fit p m f) text (shift k s) ≡ shift k q) (crowded win p s) _ _
      (λ c h. rw (g, e g, c))
      (λ c h. rw (g, e g, c, w.same s.at a) (push_window (f t) (with_info (m t s.info) s) a h)))
      (λ g h. rw g) fine

  -- **"If a call on the lent tokens does not read past them, it gives the same answer on every longer stream"**: of every rule, from the
  -- same place of both, in both modes.
  pub run_window : (r : Rule) (s : Parse) → Alike r s → Inside win s → Does r s
  unfolding run
  run_window skip s v i f = refl
  run_window stop s v i f = by_test (going s) (λ g. rw g) (λ g. rw g)
  run_window (push p) s v i f = if_intro (λ q. Fine q → run (push p) text (shift k s) ≡ shift k q) (going s) _ _
      (λ g h. let a : s.at < length win = i (going_room s.flow g) in rw (g, w.same s.at a) (push_window (p (token_at win s.at)) s a h)) (λ g h. rw g) f
  run_window note s v i f = if_intro (λ q. Fine q → run note text (shift k s) ≡ shift k q) (going s) _ _
      (λ g h. rw g (note_window s (i (going_room s.flow g)) h)) (λ g h. rw g) f
  run_window (mark p) s v i f = by_test (going s) (λ g. rw (g, w.same s.at (i (going_room s.flow g)))) (λ g. rw g)
  run_window (seq a b) s v i f =
      ap (run b text) (run_window a s v.0 i (λ d. f (run_done win b (run a win s) d))) ∙ run_window b (run a win s) v.1 (run_inside win a s i) f
  run_window (choose p a b) s v i f = if_intro (λ q. Fine q → run (choose p a b) text (shift k s) ≡ shift k q) (holds win p s) _ _
      (λ h g. rw (v.0, h) (run_window a s (v.1.0 h) i g)) (λ h g. rw (v.0, h) (run_window b s (v.1.1 h) i g)) f
  run_window (while p a) s v i f = while_window p a v.0 v.1.0 (λ q j. run_window a q (sees_alike a v.1.1 q j) j) s i f
  run_window (scope a) s v i f = if_intro (λ q. Fine q → run (scope a) text (shift k s) ≡ shift k q) (going s) _ _
      (λ g h. rw g (ap resumed_of (run_window a s v i h))) (λ g h. rw g) f
  run_window (thrice c) s v i f = if_intro (λ q. Fine q → run (thrice c) text (shift k s) ≡ shift k q) (going s) _ _
      (λ g h. let r = thrice_of win c s in
      rw g (ap retried_of (thrice_window c s i (λ d. h (retried_done r d))) ∙ retried_shift r)) (λ g h. rw g) f
  run_window (fit p m h) s v i f = fit_window p m h s i v f
