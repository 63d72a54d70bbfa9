-- The simple parser, and one more token of the break EX: where a call stepped off the last token, it is behind the new one then, or full,
-- since an extension joins what is before it. Assumes nothing.
use Prim.Native.Nat.{ℕ, zero, suc, ◌+◌, ◌<◌, ◌≤◌}
use mathlib.Core.Path.{◌≡◌, refl, sym, ◌∙◌, ap, subst}
use mathlib.Core.Bool.{Bool, true, false, cond, false≢true}
use mathlib.Core.List.{List, [], ◌∷◌, ◌++◌}
use native.Mathlib.Omega.{arith}
use native.Mathlib.Nat.{le_refl, le_trans}
use lib.Dec.{eqb, ltb}
use lib.ListN.{length, get_or-eq_default}
use lib.Seq.{get_or-append_seam}
use borrow.Author.Tests.{ltb-true, ltb-false}
use Rattle.basics.proofs.Tests.{if_intro, by_test, both_of}
use Rattle.classes.specs.declared.Mode.{Mode}
use Rattle.classes.specs.declared.Shape.{Shape}
use Rattle.classes.specs.declared.Shape.TheVariants.{Other}
use Rattle.classes.specs.ClusterBreak.{CR, LF, EX}
use Rattle.records.specs.declared.Parser.TheVariants.{Simple}
use Rattle.token.specs.Token.{kind_of}
use Rattle.parse.specs.declared.Parse.{Parse}
use Rattle.parse.specs.declared.Flow.{Flow}
use Rattle.parse.specs.declared.Flow.TheVariants.{GoOn, Stop, Full, End}
use Rattle.parse.specs.State.{token_at, last_room, begin, going, turns, put_of, noted_of, moved_of, step_of, push_of, note_of, on_joiner, hop, go_on, passes_end, retried_of}
use Rattle.parse.specs.Rule.{Rule, Test, skip, stop, push, note, mark, seq, choose, while, scope, thrice, fit, run, crowded, holds, take_of, thrice_of, is, next_is, is_emoji, one_of}
use Rattle.parse.specs.Shared.{emojis, newline}
use Rattle.parse.proofs.Loop.{loop_keeps}
use Rattle.parse.proofs.Moves.{put_same, noted_same, moved_case, moved_at}
use Rattle.parse.proofs.Keeps.{Keeps, plain_keeps, hop_keeps, run_keeps}
use Rattle.parse.proofs.Runs.{moves, run_goes, run_stays, run_falls, run_seq}
use Rattle.window.specs.Window.{shift}
use Rattle.window.proofs.Off.{run_off}
use Rattle.window.proofs.Texts.{from_start, shift_none}
use Rattle.simple.specs.Grammar.{is_extension, extension, extend, combining, syllable, leading, vowel, trailing, other, cluster}
use Rattle.simple.specs.Before.{cluster_before, start_before, control_before}
use Rattle.simple.proofs.Moved.{parted, as_before, ends_before}
use Rattle.segment.specs.Calls.{grammar, called}
use Rattle.open.specs.Calls.{prepended}
use Rattle.open.proofs.Told.{code, Told, going_told, told_keeps}
use Rattle.open.proofs.Alike.{Ahead, grammar_alike}
use Rattle.open.proofs.Stepped.{longer_length, onto, one_more}

unless : (a x : Bool) → cond a false x ≡ true → x ≡ true
unless true x e = absurd (false≢true e)
unless false x e = e

-- a loop ends where its test fails
module _ (p : Test) (a : Rule) (m : moves a ≡ true) (text : List ℕ) where
  loop_exits : (n : ℕ) (s : Parse) → turns text s ≤ n → holds text p (run (while p a) text s) ≡ false
  loop_exits zero s l = by_test (holds text p s) (λ h. absurd (omega (arith, run_falls p a text s m h))) (λ h. rw (run_stays p a text s h) h)
  loop_exits (suc n) s l = by_test (holds text p s)
      (λ h. rw (run_goes p a text s m h) (loop_exits n (run a text s) (omega (arith, run_falls p a text s m h)))) (λ h. rw (run_stays p a text s h) h)

-- no stop outside a scope
abbrev unstopped : Rule → Bool
unstopped skip = true
unstopped stop = false
unstopped (push f) = true
unstopped note = true
unstopped (mark f) = true
unstopped (seq a b) = cond (unstopped a) (unstopped b) false
unstopped (choose p a b) = cond (unstopped a) (unstopped b) false
unstopped (while p a) = unstopped a
unstopped (scope a) = true
unstopped (thrice c) = true
unstopped (fit p m f) = false

-- the cluster has not been stopped
abbrev Goes : Parse → Type 0
Goes s = s.flow ≡ Stop → ⊥

on_goes : (f : Flow) → go_on f ≡ Stop → ⊥
unfolding code
on_goes GoOn e = let z : ◌≡◌ {A = ℕ} 0 1 = ap code e in omega arith
on_goes Stop e = let z : ◌≡◌ {A = ℕ} 0 1 = ap code e in omega arith
on_goes Full e = let z : ◌≡◌ {A = ℕ} 2 1 = ap code e in omega arith
on_goes End e = let z : ◌≡◌ {A = ℕ} 3 1 = ap code e in omega arith

module _ (text : List ℕ) where
  moved_goes : (s : Parse) → Goes s → Goes (moved_of (length text) s)
  unfolding code
  moved_goes s i = moved_case Goes (length text) s (λ l h. i) (λ l h e. let z : ◌≡◌ {A = ℕ} 3 1 = ap code e in omega arith) (λ l e. let z : ◌≡◌ {A = ℕ} 2 1 = ap code e in omega arith)

  step_goes : (s : Parse) → Goes s → Goes (step_of text s)
  unfolding step_of
  step_goes s i = loop_keeps text (on_joiner text) (hop text) Goes
      (λ q j h. moved_goes (put_of (token_at text q.at) Other q) (λ e. j (sym (put_same (λ u. u.flow) (λ n cs u. refl) (token_at text q.at) q Other) ∙ e)))
      (moved_of (length text) s) (moved_goes s i)

  push_goes : (c : Shape) (s : Parse) → Goes s → Goes (push_of text c s)
  unfolding push_of
  push_goes c s i = step_goes (put_of (token_at text s.at) c s) (λ e. i (sym (put_same (λ u. u.flow) (λ n cs u. refl) (token_at text s.at) s c) ∙ e))

  note_goes : (s : Parse) → Goes s → Goes (note_of text s)
  unfolding note_of
  note_goes s i = step_goes (noted_of (token_at text s.at) s) (λ e. i (sym (noted_same (λ u. u.flow) (λ n cs u. refl) (token_at text s.at) s) ∙ e))

  take_goes : (c : Shape) (s : Parse) → Goes s → Goes (take_of text c s)
  take_goes c s i = if_intro Goes (going s) _ _ (λ g. push_goes c s i) (λ g. i)

  retried_goes : (s : Parse) → Goes s → Goes (retried_of s)
  unfolding code
  retried_goes s i = if_intro Goes (passes_end s.mode s.flow s.again) _ _ (λ h e. let z : ◌≡◌ {A = ℕ} 0 1 = ap code e in omega arith) (λ h. i)

  run_unstopped : (r : Rule) → unstopped r ≡ true → (s : Parse) → Goes s → Goes (run r text s)
  unfolding run thrice_of
  run_unstopped skip u s i = i
  run_unstopped stop u s i = absurd (false≢true u)
  run_unstopped (push f) u s i = if_intro Goes (going s) _ _ (λ g. push_goes (f (token_at text s.at)) s i) (λ g. i)
  run_unstopped note u s i = if_intro Goes (going s) _ _ (λ g. note_goes s i) (λ g. i)
  run_unstopped (mark f) u s i = if_intro Goes (going s) _ _ (λ g. i) (λ g. i)
  run_unstopped (seq a b) u s i = let v = both_of (unstopped a) (unstopped b) u in run_unstopped b v.1 (run a text s) (run_unstopped a v.0 s i)
  run_unstopped (choose p a b) u s i = let v = both_of (unstopped a) (unstopped b) u in
      if_intro Goes (holds text p s) (run a text s) (run b text s) (λ h. run_unstopped a v.0 s i) (λ h. run_unstopped b v.1 s i)
  run_unstopped (while p a) u s i = loop_keeps text (holds text p) (run a text) Goes (λ q j h. run_unstopped a u q j) s i
  run_unstopped (scope a) u s i = if_intro Goes (going s) _ _ (λ g. on_goes (run a text s).flow) (λ g. i)
  run_unstopped (thrice c) u s i = if_intro Goes (going s) _ _ (λ g. retried_goes (take_of text c (take_of text c (take_of text c s))) (take_goes c _ (take_goes c _ (take_goes c s i)))) (λ g. i)
  run_unstopped (fit p m f) u s i = absurd (false≢true u)

module _ (stream : List ℕ) (x : ℕ) where
  abbrev longer : List ℕ
  longer = stream ++ (x ∷ [])

  abbrev Reached : Parse → Type 0
  Reached q = length stream ≤ q.at

  reached_keeps : Keeps longer Reached Reached
  reached_keeps = plain_keeps longer Reached (record {
    cells = λ n cs q i. i;
    info = λ j q i. i;
    flow = λ f q i. i;
    again = λ q i. i;
    moved = λ q i. le_trans i (moved_at (length longer) q);
  })

  reached_off : (s : Parse) → going s ≡ true → s.at < length stream → s.len < 32 → length stream ≤ s.at + 1 → Reached (step_of longer (shift 0 s))
  unfolding step_of
  reached_off s g a l e = loop_keeps longer (on_joiner longer) (hop longer) Reached (hop_keeps longer Reached Reached reached_keeps)
      (moved_of (length longer) (shift 0 s)) (rw (onto stream x s a l e) (le_refl _))

  module _ (ex : kind_of x ≡ EX) (at : ℕ) (inside : at < length stream) (mode : Mode) where
    abbrev from : Parse
    from = begin (record { at = at }) mode false

    abbrev result : Parse
    result = run cluster longer from

    -- the new token is no LF, and neither is the end
    ahead : Ahead longer stream 0 (from_start stream (x ∷ [])) at inside mode Simple
    ahead e c = let q = prepended mode stream at in
        by_test (last_room q.mode q.len) (λ r. rw r (one_more stream x (λ t. eqb (kind_of t) LF) (rw ex) q.at 1)) (λ r. rw r)

    -- a call that steps off the last token goes to the new one
    reached : (called Simple mode stream at).done ≡ true → Reached result
    unfolding called grammar
    reached d = let w = from_start stream (x ∷ []) in
        subst (λ q. Reached (run cluster longer q)) (shift_none from)
        (run_off longer stream 0 w Reached reached_keeps reached_off cluster from (grammar_alike longer stream 0 w at inside mode Simple ahead) (λ n. inside) refl d)

    exits : holds longer is_extension result ≡ false
    unfolding cluster extension extend combining
    exits = rw (run_seq, run_seq) (loop_exits is_extension extension refl longer _ _ (le_refl _))

    -- it stops before a CR with an LF behind it, and so before the new token, or not at all
    ahead_of : (q : Parse) → crowded longer (next_is LF) q ≡ true → q.at < length stream
    ahead_of q c = by_test (ltb q.at (length stream)) (λ l. ltb-true _ _ l)
        (λ l. let none : token_at longer (q.at + 1) ≡ 0 = get_or-eq_default longer 0 (omega (arith, longer_length stream x, ltb-false q.at (length stream) l)) in
        absurd (false≢true (rw none at (both_of (last_room q.mode q.len) (next_is LF longer q.at) c).1)))

    goes : Reached result → Goes result
    unfolding cluster_before start_before control_before syllable leading vowel trailing other extension extend combining emojis newline code
    goes r = let q = prepended mode longer at in
        by_test (parted longer q)
        (λ y. let e = ends_before longer from y in
        let z = both_of (holds longer (is CR) q) (crowded longer (next_is LF) q) (unless (holds longer is_emoji q) _ y) in
        absurd (omega (arith, ahead_of q z.1, subst Reached e r)))
        (λ y. subst Goes (sym (as_before longer from y)) (run_unstopped longer cluster_before refl from (λ e. let z : ◌≡◌ {A = ℕ} 0 1 = ap code e in omega arith)))

    told : Told longer result
    told = run_keeps longer _ _ (told_keeps longer) cluster from (going_told longer from refl)

    held : (q : Parse) → q.flow ≡ GoOn → q.at ≡ length stream → holds longer is_extension q ≡ true
    unfolding is_extension one_of
    held q f a = rw (f, a, get_or-append_seam stream x [] 0, ex)

    past : (f : Flow) → result.flow ≡ f → Reached result → result.done ≡ false → result.at ≤ length stream → 32 ≤ result.len
    past GoOn e r d a = absurd (false≢true (sym exits ∙ held result e (omega arith)))
    past Stop e r d a = absurd (goes r e)
    past Full e r d a = told.0 e
    past End e r d a = absurd (false≢true (sym d ∙ told.1 e))

    pub simple_past : (called Simple mode stream at).done ≡ true → (called Simple mode longer at).done ≡ false → (called Simple mode longer at).at ≤ length stream → 32 ≤ (called Simple mode longer at).len
    unfolding called grammar
    simple_past d = past result.flow refl (reached d)
