-- Crate mode and whole mode fill a cluster together, up to its 32nd character: so whether a call pushes 32, and with it what a plain
-- text is, does not depend on the mode. For every rule without a kinzi and without a `fit`, on any text. Assumes nothing.
use Prim.Native.Nat.{ℕ, zero, suc, ◌<◌, ◌≤◌}
use mathlib.Core.Path.{◌≡◌, refl, sym, ◌∙◌, ap, subst}
use mathlib.Core.Bool.{Bool, true, false, cond, ◌&&◌, false≢true}
use mathlib.Core.List.{List}
use mathlib.Core.Logic.{◌⊎◌, inl, inr}
use native.Mathlib.Omega.{arith}
use lib.Dec.{eqb, ltb}
use lib.ListN.{length, get_or, get_or-eq_default}
use borrow.Author.Tests.{ltb-true, ltb-false, le-ltb}
use Rattle.basics.specs.Sets.{member, every}
use Rattle.classes.specs.ClusterBreak.{PP}
use Rattle.token.specs.Token.{kind_of}
use Rattle.token.proofs.Fields.{kind_packed}
use Rattle.basics.proofs.Sets.{every_at}
use Rattle.basics.proofs.Tests.{if_intro, by_test, both, both_of}
use Rattle.classes.specs.declared.Mode.TheVariants.{Crate, Whole}
use Rattle.classes.specs.declared.Shape.{Shape}
use Rattle.classes.specs.declared.Shape.TheVariants.{Other}
use Rattle.records.specs.Text.{Text, cell}
use Rattle.records.specs.declared.Parser.TheVariants.{Simple}
use Rattle.stream.specs.Stream.{stream_of}
use Rattle.parse.specs.declared.Parse.{Parse}
use Rattle.parse.specs.declared.Flow.TheVariants.{Full}
use Rattle.parse.specs.State.{begin, token_at, place_after, place_of, turns, is_going, going, in_mode, put_of, noted_of, moved_of, on_joiner, at_most, loop, hop, step_of, push_of, note_of, go_on, resumed_of}
use Rattle.parse.specs.Rule.{Rule, Test, skip, stop, push, note, mark, seq, choose, while, scope, thrice, fit, run, holds, is}
use Rattle.parse.specs.Shared.{emojis, emoji_turn, emoji_extension, emoji_mark, newline}
use Rattle.parse.proofs.Loop.{loop_stays}
use Rattle.parse.proofs.Runs.{run_still}
use Rattle.simple.specs.Grammar.{cluster, syllable, leading, vowel, trailing, other, extension, extend, combining}
use Rattle.simple.specs.Before.{cluster_before, start_before, control_before}
use Rattle.simple.proofs.Moved.{unprepended}
use Rattle.segment.specs.Calls.{grammar, called}
use Rattle.segment.specs.Runs.{calls_from}
use Rattle.segment.specs.Seen.{seen_in}
use Rattle.segment.proofs.Reading.{token_own, seen_length}
use Rattle.plain.specs.Clusters.{plain_kinds, plain_at, all_short, is_plain}
use Rattle.plain.proofs.ClustersNeighbours.{kind_case}

abbrev up : Parse → Parse
up s = in_mode Whole s

-- a call in crate mode and one in whole mode: the same but for the mode, or both full
abbrev Lock : Parse → Parse → Type 0
Lock s u = (u ≡ up s) ⊎ ((32 ≤ s.len) × (32 ≤ u.len) × (s.flow ≡ Full) × (u.flow ≡ Full))

put_up : (t : ℕ) (c : Shape) (s : Parse) → put_of t c (up s) ≡ up (put_of t c s)
put_up t c s = if_intro (λ q. put_of t c (up s) ≡ up q) (ltb s.len 32) _ _ (λ h. rw h) (λ h. rw h)

noted_up : (t : ℕ) (s : Parse) → noted_of t (up s) ≡ up (noted_of t s)
noted_up t s = if_intro (λ q. noted_of t (up s) ≡ up q) (ltb 0 s.len) _ _
    (λ h. if_intro (λ q. noted_of t (up s) ≡ up q) (ltb s.len 33) _ _ (λ e. rw (h, e)) (λ e. rw (h, e)))
    (λ h. rw h (put_up t Other s))

moved_up : (n : ℕ) (s : Parse) → ltb s.len 32 ≡ true → moved_of n (up s) ≡ up (moved_of n s)
moved_up n s h = if_intro (λ q. moved_of n (up s) ≡ up q) (ltb s.len 32) _ _
    (λ k. if_intro (λ q. moved_of n (up s) ≡ up q) (ltb (place_after n s.at) n) _ _ (λ e. rw (k, e)) (λ e. rw (k, e)))
    (λ k. absurd (false≢true (sym k ∙ h)))

moved_full : (n : ℕ) (s : Parse) → ltb s.len 32 ≡ false → (32 ≤ (moved_of n s).len) × ((moved_of n s).flow ≡ Full)
moved_full n s h = if_intro (λ (q : Parse). (32 ≤ q.len) × (q.flow ≡ Full)) (ltb s.len 32) _ _
    (λ k. absurd (false≢true (sym h ∙ k))) (λ k. (ltb-false s.len 32 h, refl))

moved_lock : (n : ℕ) (s : Parse) → Lock (moved_of n s) (moved_of n (up s))
moved_lock n s = by_test (ltb s.len 32) (λ h. inl (moved_up n s h))
    (λ h. let a = moved_full n s h in let b = moved_full n (up s) h in inr (a.0, b.0, a.1, b.1))

-- a rule without a kinzi and without a `fit`, where whole mode may have 31
abbrev kinziless : Rule → Bool
kinziless skip = true
kinziless stop = true
kinziless (push f) = true
kinziless note = true
kinziless (mark f) = true
kinziless (seq a b) = cond (kinziless a) (kinziless b) false
kinziless (choose p a b) = cond (kinziless a) (kinziless b) false
kinziless (while p a) = kinziless a
kinziless (scope a) = kinziless a
kinziless (thrice c) = false
kinziless (fit p m f) = false

short_and : (a b c d : Bool) → a ≡ b → (a ≡ true → c ≡ d) → (a && c) ≡ (b && d)
short_and true b c d e f = rw (← e) (f refl)
short_and false b c d e f = rw (← e)

-- a loop whose test and body go together
module _ (test : Parse → Bool) (body : Parse → Parse) (same : (s : Parse) → test (up s) ≡ test s) (still : (s : Parse) → going s ≡ false → test s ≡ false) (locks : (s : Parse) → Lock (body s) (body (up s))) where
  at_most_lock : (n : ℕ) (s u : Parse) → Lock s u → Lock (at_most test body n s) (at_most test body n u)
  unfolding at_most
  at_most_lock zero s u l = l
  at_most_lock (suc n) s u (inl e) = subst (λ (q : Parse). Lock (at_most test body (suc n) s) (at_most test body (suc n) q)) (sym e)
      (by_test (test s) (λ h. rw (same s, h) (at_most_lock n (body s) (body (up s)) (locks s))) (λ h. rw (same s, h) (inl refl)))
  at_most_lock (suc n) s u (inr (l, k, f, g)) = rw (still s (ap is_going f), still u (ap is_going g)) (inr (l, k, f, g))

  loop_lock : (text : List ℕ) (s u : Parse) → Lock s u → Lock (loop text test body s) (loop text test body u)
  unfolding loop
  loop_lock text s u (inl e) = subst (λ (q : Parse). Lock (loop text test body s) (loop text test body q)) (sym e) (at_most_lock (turns text s) s (up s) (inl refl))
  loop_lock text s u (inr (l, k, f, g)) =
      subst (λ (q : Parse). Lock q (loop text test body u)) (sym (loop_stays text test body s (still s (ap is_going f))))
      (subst (λ (q : Parse). Lock s q) (sym (loop_stays text test body u (still u (ap is_going g)))) (inr (l, k, f, g)))

module _ (text : List ℕ) where
  joiner_still : (s : Parse) → going s ≡ false → on_joiner text s ≡ false
  joiner_still s g = if_intro (λ b. b ≡ false) (going s) _ _ (λ h. absurd (false≢true (sym g ∙ h))) (λ h. refl)

  hop_lock : (s : Parse) → Lock (hop text s) (hop text (up s))
  hop_lock s = let t = token_at text s.at in
      subst (λ (q : Parse). Lock (hop text s) (moved_of (length text) q)) (sym (put_up t Other s)) (moved_lock (length text) (put_of t Other s))

  step_lock : (s : Parse) → Lock (step_of text s) (step_of text (up s))
  unfolding step_of
  step_lock s = loop_lock (on_joiner text) (hop text) (λ q. refl) joiner_still hop_lock text (moved_of (length text) s) (moved_of (length text) (up s)) (moved_lock (length text) s)

  push_lock : (c : Shape) (s : Parse) → Lock (push_of text c s) (push_of text c (up s))
  unfolding push_of
  push_lock c s = let t = token_at text s.at in
      subst (λ (q : Parse). Lock (step_of text (put_of t c s)) (step_of text q)) (sym (put_up t c s)) (step_lock (put_of t c s))

  note_lock : (s : Parse) → Lock (note_of text s) (note_of text (up s))
  unfolding note_of
  note_lock s = let t = token_at text s.at in
      subst (λ (q : Parse). Lock (step_of text (noted_of t s)) (step_of text q)) (sym (noted_up t s)) (step_lock (noted_of t s))

  test_still : (p : Test) (s : Parse) → going s ≡ false → holds text p s ≡ false
  test_still p s g = if_intro (λ b. b ≡ false) (going s) _ _ (λ h. absurd (false≢true (sym g ∙ h))) (λ h. refl)

  resumed_lock : (s u : Parse) → Lock s u → Lock (resumed_of s) (resumed_of u)
  resumed_lock s u (inl e) = inl (ap resumed_of e)
  resumed_lock s u (inr (l, k, f, g)) = inr (l, k, ap go_on f, ap go_on g)

  -- a rule that keeps in step from one parse keeps in step from two
  pair_lock : (r : Rule) → ((s : Parse) → Lock (run r text s) (run r text (up s))) → (s u : Parse) → Lock s u → Lock (run r text s) (run r text u)
  pair_lock r f s u (inl e) = subst (λ (q : Parse). Lock (run r text s) (run r text q)) (sym e) (f s)
  pair_lock r f s u (inr (l, k, e, g)) =
      subst (λ (q : Parse). Lock q (run r text u)) (sym (run_still r text s (ap is_going e)))
      (subst (λ (q : Parse). Lock s q) (sym (run_still r text u (ap is_going g))) (inr (l, k, e, g)))

  run_lock : (r : Rule) → kinziless r ≡ true → (s : Parse) → Lock (run r text s) (run r text (up s))
  unfolding run
  run_lock skip n s = inl refl
  run_lock stop n s = inl (by_test (going s) (λ g. rw g) (λ g. rw g))
  run_lock (push f) n s = by_test (going s) (λ g. rw g (push_lock (f (token_at text s.at)) s)) (λ g. rw g (inl refl))
  run_lock note n s = by_test (going s) (λ g. rw g (note_lock s)) (λ g. rw g (inl refl))
  run_lock (mark f) n s = inl (by_test (going s) (λ g. rw g) (λ g. rw g))
  run_lock (seq a b) n s = let k = both_of (kinziless a) (kinziless b) n in
      pair_lock b (run_lock b k.1) (run a text s) (run a text (up s)) (run_lock a k.0 s)
  run_lock (choose p a b) n s = let k = both_of (kinziless a) (kinziless b) n in
      by_test (holds text p s) (λ h. rw h (run_lock a k.0 s)) (λ h. rw h (run_lock b k.1 s))
  run_lock (while p a) n s = loop_lock (holds text p) (run a text) (λ q. refl) (test_still p) (run_lock a n) text s (up s) (inl refl)
  run_lock (scope a) n s = by_test (going s) (λ g. rw g (resumed_lock (run a text s) (run a text (up s)) (run_lock a n s))) (λ g. rw g (inl refl))
  run_lock (thrice c) n s = absurd (false≢true n)
  run_lock (fit p m f) n s = absurd (false≢true n)

-- # The simple parser

before_lock : (stream : List ℕ) (at : ℕ) → Lock (run cluster_before stream (begin (record { at = at }) Crate false)) (run cluster_before stream (begin (record { at = at }) Whole false))
unfolding cluster_before start_before control_before syllable leading vowel trailing other extension extend combining emojis emoji_turn emoji_extension emoji_mark newline
before_lock stream at = run_lock stream cluster_before refl (begin (record { at = at }) Crate false)

-- where no prepended character stands, in which a cluster might have 31 in whole mode and 32 in crate mode
call_lock : (stream : List ℕ) (at : ℕ) → is PP stream at ≡ false → Lock (called Simple Crate stream at) (called Simple Whole stream at)
unfolding called grammar
call_lock stream at h = let c : Parse = begin (record { at = at }) Crate false in let w : Parse = begin (record { at = at }) Whole false in
    subst (λ (q : Parse). Lock q (run cluster stream w)) (sym (unprepended stream c h refl))
    (subst (λ (q : Parse). Lock (run cluster_before stream c) q) (sym (unprepended stream w h refl)) (before_lock stream at))

-- no call is below 32 in one mode alone, and one that is ends at the same place in both
short_same : (p w : Parse) → Lock p w → ltb p.len 32 ≡ ltb w.len 32
short_same p w (inl e) = sym (ap (λ (u : Parse). ltb u.len 32) e)
short_same p w (inr (l, k, f, g)) = le-ltb p.len 32 l ∙ sym (le-ltb w.len 32 k)

place_same : (stream : List ℕ) (p w : Parse) → Lock p w → ltb p.len 32 ≡ true → place_of stream p ≡ place_of stream w
place_same stream p w (inl e) h = sym (ap (place_of stream) e)
place_same stream p w (inr (l, k, f, g)) h = absurd (false≢true (sym (le-ltb p.len 32 l) ∙ h))

all_short_same : (stream : List ℕ) → ((i : ℕ) → i < length stream → is PP stream i ≡ false) → (n at : ℕ) → all_short (calls_from Simple Crate stream n at) ≡ all_short (calls_from Simple Whole stream n at)
unfolding calls_from all_short
all_short_same stream none zero at = refl
all_short_same stream none (suc n) at =
    let p : Parse = called Simple Crate stream at in
    let w : Parse = called Simple Whole stream at in
    by_test (ltb at (length stream))
    (λ h. let lock = call_lock stream at (none at (ltb-true at (length stream) h)) in
    rw h (short_and (ltb p.len 32) (ltb w.len 32) _ _ (short_same p w lock)
    (λ k. all_short_same stream none n (place_of stream p) ∙ ap (λ i. all_short (calls_from Simple Whole stream n i)) (place_same stream p w lock k))))
    (λ h. rw h)

-- a plain text has no prepended character
plain_kind : (breaks marks : List ℕ) → every (plain_at breaks marks) (length breaks) ≡ true → (i : ℕ) → member plain_kinds (cell breaks i) ≡ true
unfolding plain_at
plain_kind breaks marks e i = by_test (ltb i (length breaks))
    (λ h. (both (member plain_kinds (cell breaks i)) _ (every_at (plain_at breaks marks) (length breaks) i e (ltb-true i (length breaks) h))).0)
    (λ h. ap (member plain_kinds) (get_or-eq_default breaks 0 {n = i} (ltb-false i (length breaks) h)))

none_prepended : (t : Text) → every (plain_at t.records.breaks t.records.semojis) (length t.records.breaks) ≡ true → (i : ℕ) → i < length (stream_of Crate Simple t) → is PP (stream_of Crate Simple t) i ≡ false
unfolding stream_of seen_in
none_prepended t e i h =
    let breaks : List ℕ = t.records.breaks in
    let scalars : List ℕ = t.records.scalars in
    let n : length (stream_of Crate Simple t) ≡ length scalars = seen_length scalars breaks breaks t.records.categories t.records.semojis t.records.selectors in
    let k = plain_kind breaks t.records.semojis e i in
    let own = token_own scalars breaks breaks t.records.categories t.records.semojis t.records.selectors i (omega (arith, h, n)) in
    let kind : kind_of (get_or (stream_of Crate Simple t) i 0) ≡ cell breaks i = ap kind_of own ∙ kind_packed _ (cell breaks i) _ _ _ _ _ (kind_case (λ k. k < 64) (omega arith) (omega arith) (omega arith) (omega arith) (omega arith) (omega arith) (omega arith) (cell breaks i) k) in
    ap (λ k. eqb k PP) kind ∙ kind_case (λ k. eqb k PP ≡ false) refl refl refl refl refl refl refl (cell breaks i) k

and_same : (a b c : Bool) → (a ≡ true → b ≡ c) → (a && b) ≡ (a && c)
and_same true b c f = f refl
and_same false b c f = refl

-- What a plain text is does not depend on the mode.
pub plain_modes : (t : Text) → is_plain Crate t ≡ is_plain Whole t
unfolding is_plain stream_of
plain_modes t = and_same (every (plain_at t.records.breaks t.records.semojis) (length t.records.breaks)) _ _
    (λ e. all_short_same (stream_of Crate Simple t) (none_prepended t e) (length (stream_of Crate Simple t)) 0)
