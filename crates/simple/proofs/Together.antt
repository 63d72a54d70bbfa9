-- In whole mode no call ends between a CR that the arm `CR` takes and an LF behind it. Assumes nothing.
use Prim.Native.Nat.{ℕ, ◌+◌, ◌<◌, ◌≤◌}
use mathlib.Core.Path.{◌≡◌, refl, sym, ◌∙◌, ap, subst}
use mathlib.Core.Bool.{Bool, true, false, cond, false≢true}
use mathlib.Core.List.{List, [], ◌∷◌}
use native.Mathlib.Omega.{arith}
use lib.Dec.{eqb, ltb}
use lib.ListN.{length, get_or-eq_default}
use borrow.Author.Tests.{eqb-true, eqb-false, ltb-true, ltb-false}
use Rattle.basics.specs.Sets.{member}
use Rattle.basics.proofs.Tests.{if_intro, by_test, both_of}
use Rattle.classes.specs.declared.Mode.TheVariants.{Whole}
use Rattle.classes.specs.declared.Shape.{Shape}
use Rattle.classes.specs.declared.Shape.TheVariants.{Base, Control}
use Rattle.classes.specs.ClusterBreak.{CN, CR, LF, L, «V», T, LV, LVT, RI, EX, SM, ZWJ, PP}
use Rattle.token.specs.Token.{kind_of, break_of}
use Rattle.parse.specs.declared.Parse.{Parse}
use Rattle.parse.specs.declared.Place.{Place}
use Rattle.parse.specs.declared.Info.{Info}
use Rattle.parse.specs.declared.Space.TheVariants.{Newline}
use Rattle.parse.specs.declared.Flow.{Flow}
use Rattle.parse.specs.declared.Flow.TheVariants.{GoOn, Stop, Full, End}
use Rattle.parse.specs.State.{token_at, filled_at, last_room, begin, place_of, is_going, going, go_on, with_place, with_flow, with_info, put_of, noted_of, moved_of, step_of, push_of, note_of, passes_end}
use Rattle.parse.specs.Rule.{Rule, skip, stop, push, note, mark, seq, choose, while, scope, thrice, fit, run, crowded, holds, take, accept_as, many_as, is, next_is, is_break, is_emoji, one_of, set_space}
use Rattle.parse.specs.Shared.{emojis, emoji_turn, emoji_extension, emoji_mark, newline, newline_with}
use Rattle.parse.proofs.Loop.{loop_keeps}
use Rattle.parse.proofs.Moves.{put_same, noted_same, moved_case, step_stays}
use Rattle.parse.proofs.Keeps.{Keeps, run_keeps}
use Rattle.parse.proofs.Runs.{run_still, run_seq, run_then, holds_going}
use Rattle.parse.proofs.Steps.{plus, put_plus, moved_next}
use Rattle.parse.proofs.Fills.{quiet, run_quiet, choose_case}
use Rattle.simple.specs.Grammar.{cluster, start, control, syllable, leading, vowel, trailing, other, is_extension, extension, extend, combining}
use Rattle.simple.proofs.Moved.{newline_stops}

-- a CR without the emoji mark, and an LF behind it
abbrev pub pair_at : List ℕ → ℕ → Bool
pair_at text i = cond (is_emoji text i) false (cond (is CR text i) (next_is LF text i) false)

no_pair : (e c n : Bool) → c ≡ false → cond e false (cond c n false) ≡ false
no_pair true c n h = refl
no_pair false true n h = absurd (false≢true (sym h))
no_pair false false n h = refl

no_next : (e c n : Bool) → n ≡ false → cond e false (cond c n false) ≡ false
no_next true c n h = refl
no_next false true n h = h
no_next false false n h = refl

no_joiner : (g j x : Bool) → j ≡ false → cond g (cond j x false) false ≡ false
no_joiner true true x e = absurd (false≢true (sym e))
no_joiner true false x e = refl
no_joiner false j x e = refl

-- a call in whole mode that may still go on has room
open_more : (f : Flow) → is_going (go_on (go_on f)) ≡ true → is_going (go_on f) ≡ true
open_more GoOn e = refl
open_more Stop e = refl
open_more Full e = e
open_more End e = e

open_going : (f : Flow) → is_going f ≡ true → is_going (go_on f) ≡ true
open_going GoOn e = refl
open_going Stop e = refl
open_going Full e = e
open_going End e = e

module _ (text : List ℕ) (from : ℕ) where
  -- a place is not behind the CR of such a pair that this call took
  abbrev Clear : Bool → ℕ → Type 0
  Clear done i = done ≡ false → (k : ℕ) → i ≡ k + 1 → from ≤ k → pair_at text k ≡ false

  record Safe (s : Parse) : Type 0 where
    whole : s.mode ≡ Whole
    plain : s.joins ≡ false
    clear : Clear s.done s.at

  next_clear : (i : ℕ) → pair_at text i ≡ false → (done : Bool) → Clear done (i + 1)
  next_clear i h done d k e f = let z : k ≡ i = omega (arith, e) in ap (pair_at text) z ∙ h

  -- off a token that is no CR of a pair
  stepped : (q : Parse) → q.mode ≡ Whole → q.joins ≡ false → pair_at text q.at ≡ false → (ltb q.at (length text) ≡ false → Clear q.done q.at) → Safe (step_of text q)
  stepped q w j p stays =
      let m : Parse = moved_of (length text) q in
      let mj : m.joins ≡ false = moved_case (λ u. u.joins ≡ false) (length text) q (λ l h. j) (λ l h. j) (λ l. j) in
      subst (λ (u : Parse). Safe u) (step_stays text q m refl (no_joiner (going m) m.joins _ mj))
      (moved_case (λ u. Safe u) (length text) q
      (λ l h. record { whole = w; plain = j; clear = next_clear q.at p q.done })
      (λ l h. record { whole = w; plain = j; clear = λ d. absurd (false≢true (sym d)) })
      (λ l. record {
        whole = w;
        plain = j;
        clear = subst (λ m. Clear q.done (filled_at m (length text) q.at)) (sym w)
            (if_intro (λ i. Clear q.done i) (ltb q.at (length text)) (q.at + 1) q.at (λ e. next_clear q.at p q.done) stays);
      }))

  same_clear : (d e : Bool) (i j : ℕ) → d ≡ e → i ≡ j → Clear e j → Clear d i
  same_clear d e i j hd hi c = λ z k f. c (sym hd ∙ z) k (sym hi ∙ f)

  pushed_safe : (c : Shape) (s : Parse) → pair_at text s.at ≡ false → Safe s → Safe (push_of text c s)
  unfolding push_of
  pushed_safe c s p i = let t = token_at text s.at in
      let at : (put_of t c s).at ≡ s.at = put_same (λ (q : Parse). q.at) (λ n cs q. refl) t s c in
      stepped (put_of t c s) (put_same (λ (q : Parse). q.mode) (λ n cs q. refl) t s c ∙ i.whole) (put_same (λ (q : Parse). q.joins) (λ n cs q. refl) t s c ∙ i.plain) (ap (pair_at text) at ∙ p)
      (λ e. same_clear _ s.done _ s.at (put_same (λ (q : Parse). q.done) (λ n cs q. refl) t s c) at i.clear)

  noted_safe : (s : Parse) → pair_at text s.at ≡ false → Safe s → Safe (note_of text s)
  unfolding note_of
  noted_safe s p i = let t = token_at text s.at in
      let at : (noted_of t s).at ≡ s.at = noted_same (λ (q : Parse). q.at) (λ n cs q. refl) t s in
      stepped (noted_of t s) (noted_same (λ (q : Parse). q.mode) (λ n cs q. refl) t s ∙ i.whole) (noted_same (λ (q : Parse). q.joins) (λ n cs q. refl) t s ∙ i.plain) (ap (pair_at text) at ∙ p)
      (λ e. same_clear _ s.done _ s.at (noted_same (λ (q : Parse). q.done) (λ n cs q. refl) t s) at i.clear)

  flow_safe : (f : Flow) (s : Parse) → Safe s → Safe (with_flow f s)
  flow_safe f s i = record { whole = i.whole; plain = i.plain; clear = i.clear }

  info_safe : (j : Info) (s : Parse) → Safe s → Safe (with_info j s)
  info_safe j s i = record { whole = i.whole; plain = i.plain; clear = i.clear }

  -- what holds of a place holds behind a rule that only marks
  abbrev Follows : Bool → (ℕ → Type 0) → ℕ → Type 0
  Follows true P i = P i
  Follows false P i = Unit {0}

  -- where P holds, every token that a rule takes is no CR of a pair
  unfoldable Guard : (ℕ → Type 0) → Rule → Type 0
  Guard P skip = Unit {0}
  Guard P stop = Unit {0}
  Guard P (push f) = (i : ℕ) → P i → pair_at text i ≡ false
  Guard P note = (i : ℕ) → P i → pair_at text i ≡ false
  Guard P (mark f) = Unit {0}
  Guard P (seq a b) = Guard P a × Guard (Follows (quiet a) P) b
  Guard P (choose p a b) = Guard (λ i. P i × (p text i ≡ true)) a × Guard (λ i. P i × (p text i ≡ false)) b
  Guard P (while p a) = Guard (λ i. p text i ≡ true) a
  Guard P (scope a) = Guard P a
  Guard P (thrice c) = ⊥
  Guard P (fit p m f) = (i : ℕ) → P i → pair_at text i ≡ false

  run_safe : (P : ℕ → Type 0) (r : Rule) → Guard P r → (s : Parse) → (going s ≡ true → P s.at) → Safe s → Safe (run r text s)
  unfolding run Guard
  run_safe P skip g s h i = i
  run_safe P stop g s h i = if_intro (λ (q : Parse). Safe q) (going s) _ _ (λ e. flow_safe Stop s i) (λ e. i)
  run_safe P (push f) g s h i = if_intro (λ (q : Parse). Safe q) (going s) _ _ (λ e. pushed_safe (f (token_at text s.at)) s (g s.at (h e)) i) (λ e. i)
  run_safe P note g s h i = if_intro (λ (q : Parse). Safe q) (going s) _ _ (λ e. noted_safe s (g s.at (h e)) i) (λ e. i)
  run_safe P (mark f) g s h i = if_intro (λ (q : Parse). Safe q) (going s) _ _ (λ e. info_safe (f (token_at text s.at) s.info) s i) (λ e. i)
  run_safe P (seq a b) g s h i = run_safe (Follows (quiet a) P) b g.1 (run a text s) (followed (quiet a) refl) (run_safe P a g.0 s h i)
    where
      followed : (x : Bool) → quiet a ≡ x → going (run a text s) ≡ true → Follows x P (run a text s).at
      followed true q e = let z = run_quiet a text s q in subst P (sym z.1) (h (ap is_going (sym z.0) ∙ e))
      followed false q e = tt
  run_safe P (choose p a b) g s h i = if_intro (λ (q : Parse). Safe q) (holds text p s) (run a text s) (run b text s)
      (λ t. run_safe (λ i. P i × (p text i ≡ true)) a g.0 s (λ e. (h e, (both_of (going s) (p text s.at) t).1)) i)
      (λ t. run_safe (λ i. P i × (p text i ≡ false)) b g.1 s (λ e. (h e, rw e at t)) i)
  run_safe P (while p a) g s h i = loop_keeps text (holds text p) (run a text) (λ q. Safe q) (λ q j t. run_safe (λ i. p text i ≡ true) a g q (λ e. (both_of (going q) (p text q.at) t).1) j) s i
  run_safe P (scope a) g s h i = if_intro (λ (q : Parse). Safe q) (going s) _ _ (λ e. flow_safe (go_on (run a text s).flow) (run a text s) (run_safe P a g s h i)) (λ e. i)
  run_safe P (thrice c) g s h i = absurd g
  run_safe P (fit p m f) g s h i = let t = token_at text s.at in
      if_intro (λ (q : Parse). Safe q) (going s) _ _
      (λ e. if_intro (λ (q : Parse). Safe q) (crowded text p s) _ _ (λ k. flow_safe Stop s i) (λ k. pushed_safe (f t) (with_info (m t s.info) s) (g s.at (h e)) (info_safe (m t s.info) s i)))
      (λ e. i)

  -- # The simple grammar, over tokens whose kind is their cluster break

  not_CR : (i : ℕ) → is CR text i ≡ false → pair_at text i ≡ false
  not_CR i h = no_pair (is_emoji text i) (is CR text i) (next_is LF text i) h

  by_kind : (k : ℕ) → eqb k CR ≡ false → (i : ℕ) → is k text i ≡ true → pair_at text i ≡ false
  by_kind k n i h = not_CR i (ap (λ x. eqb x CR) (eqb-true (kind_of (token_at text i)) k h) ∙ n)

  by_one : (ks : List ℕ) → member ks CR ≡ false → (i : ℕ) → one_of ks text i ≡ true → pair_at text i ≡ false
  unfolding one_of
  by_one ks n i t = not_CR i (by_test (is CR text i) (λ h. absurd (false≢true (sym n ∙ sym (ap (member ks) (eqb-true (kind_of (token_at text i)) CR h)) ∙ t))) (λ h. h))

  by_emoji : (i : ℕ) → is_emoji text i ≡ true → pair_at text i ≡ false
  by_emoji i h = rw h

  module _ (same : (i : ℕ) → kind_of (token_at text i) ≡ break_of (token_at text i)) where
    by_break : (k : ℕ) → eqb k CR ≡ false → (i : ℕ) → is_break k text i ≡ true → pair_at text i ≡ false
    by_break k n i h = by_kind k n i (ap (λ x. eqb x k) (same i) ∙ h)

    guard_emojis : (P : ℕ → Type 0) → Guard P emojis
    unfolding Guard emojis emoji_turn emoji_extension emoji_mark
    guard_emojis P = (
      tt,
      (
        by_emoji,
        (
          (
            λ i h. by_break EX refl i h.0,
            ((tt, λ i h. by_break EX refl i h.0.0), ((tt, λ i h. by_break EX refl i h.0.0.0), λ i h. by_break EX refl i h.0.0.0)),
          ),
          (λ i h. by_break ZWJ refl i h.1, tt),
        ),
      ),
    )

    guard_extensions : (P : ℕ → Type 0) → Guard P (while is_extension extension)
    unfolding Guard is_extension extension extend combining
    guard_extensions P = let ext = by_one (EX ∷ SM ∷ ZWJ ∷ []) refl in (
      (λ i h. ext i h.0.0, (λ i h. ext i h.0.0.0, (tt, λ i h. ext i h.0.0.0))),
      ((tt, λ i h. ext i h.0.0), λ i h. ext i h.0.0),
    )

    guard_syllable : (P : ℕ → Type 0) → ((i : ℕ) → P i → is CR text i ≡ false) → Guard P syllable
    unfolding Guard syllable leading vowel trailing other
    guard_syllable P cr = (
      (λ i h. not_CR i (cr i h.0), (λ i h. by_one (L ∷ «V» ∷ LV ∷ LVT ∷ []) refl i h.1, tt)),
      (
        (λ i h. not_CR i (cr i h.0.0), (λ i h. by_one («V» ∷ T ∷ []) refl i h.1, tt)),
        (
          (λ i h. not_CR i (cr i h.0.0.0), (λ i h. by_kind T refl i h.1, tt)),
          ((λ i h. by_kind RI refl i h.1, tt), (tt, (tt, λ i h. not_CR i (cr i h.0.0.0.0.0)))),
        ),
      ),
    )

    -- CR with room for LF, which is taken too
    room_after : (s : Parse) → s.mode ≡ Whole → s.len < 32 → next_is LF text s.at ≡ true → crowded text (next_is LF) s ≡ false → s.len + 1 < 32
    room_after s w l n k =
        let z : eqb s.len 31 ≡ false = ap (λ m. last_room m s.len) (sym w) ∙ only (last_room s.mode s.len) (next_is LF text s.at) n k in
        omega (arith, l, eqb-false s.len 31 z)
      where
        only : (a b : Bool) → b ≡ true → cond a b false ≡ false → a ≡ false
        only true b hb h = absurd (false≢true (sym h ∙ hb))
        only false b hb h = refl

    next_inside : (i : ℕ) → next_is LF text i ≡ true → i + 1 < length text
    next_inside i n = by_test (ltb (i + 1) (length text)) (λ h. ltb-true (i + 1) (length text) h)
        (λ h. absurd (false≢true (sym (ap (λ t. eqb (kind_of t) LF) (get_or-eq_default text 0 {n = i + 1} (ltb-false (i + 1) (length text) h))) ∙ n)))

    onto : (s : Parse) → going s ≡ true → s.joins ≡ false → s.len + 1 < 32 → s.at + 1 < length text → crowded text (next_is LF) s ≡ false
        → run (newline_with LF) text s ≡ with_place (s.at + 1) (plus (token_at text s.at) Control (with_info (set_space Newline (token_at text s.at) s.info) s))
    unfolding run newline_with push_of
    onto s g j l a k =
        let t = token_at text s.at in
        let u : Parse = with_info (set_space Newline t s.info) s in
        let q : Parse = plus t Control u in
        if_intro (λ z. z ≡ with_place (s.at + 1) q) (going s) _ _
        (λ h. if_intro (λ z. z ≡ with_place (s.at + 1) q) (crowded text (next_is LF) s) _ _ (λ c. absurd (false≢true (sym k ∙ c)))
        (λ c. ap (step_of text) (put_plus t Control u (omega (arith, l))) ∙ sym (step_stays text q (with_place (s.at + 1) q) (sym (moved_next (length text) q l a)) (no_joiner (going s) s.joins _ j))))
        (λ h. absurd (false≢true (sym h ∙ g)))

    both_safe : (s : Parse) → Safe s → going s ≡ true → s.len < 32 → next_is LF text s.at ≡ true → crowded text (next_is LF) s ≡ false → Safe (run (seq (newline_with LF) (accept_as LF Control)) text s)
    both_safe s i g l n k =
        let t = token_at text s.at in
        let u : Parse = with_place (s.at + 1) (plus t Control (with_info (set_space Newline t s.info) s)) in
        let a = next_inside s.at n in
        let v = token_at text (s.at + 1) in
        subst (λ (q : Parse). Safe q) (sym (run_seq _ _ text s ∙ ap (run (accept_as LF Control) text) (onto s g i.plain (room_after s i.whole l n k) a k) ∙ run_then (is LF) (take Control) skip text u (lf_holds u g n) ∙ taken u g))
        (stepped (put_of v Control u) (put_same (λ (q : Parse). q.mode) (λ n cs q. refl) v u Control ∙ i.whole) (put_same (λ (q : Parse). q.joins) (λ n cs q. refl) v u Control ∙ i.plain)
        (ap (pair_at text) (put_same (λ (q : Parse). q.at) (λ n cs q. refl) v u Control) ∙ by_kind LF refl (s.at + 1) n)
        (λ e. absurd (omega (arith, a, ltb-false (put_of v Control u).at (length text) e, put_same (λ (q : Parse). q.at) (λ n cs q. refl) v u Control))))
      where
        lf_holds : (u : Parse) → going u ≡ true → is LF text u.at ≡ true → holds text (is LF) u ≡ true
        lf_holds u g n = rw g n

        taken : (u : Parse) → going u ≡ true → run (take Control) text u ≡ step_of text (put_of (token_at text u.at) Control u)
        taken u g = unfold run push_of in rw g

    arm_safe : (s : Parse) → Safe s → going s ≡ true → s.len < 32 → Safe (run (seq (newline_with LF) (accept_as LF Control)) text s)
    unfolding Guard newline_with
    arm_safe s i g l = by_test (next_is LF text s.at)
        (λ n. by_test (crowded text (next_is LF) s)
        (λ k. subst (λ (q : Parse). Safe q) (sym (run_seq _ _ text s ∙ ap (run (accept_as LF Control) text) (newline_stops text s g k) ∙ run_still (accept_as LF Control) text (with_flow Stop s) refl)) (flow_safe Stop s i))
        (λ k. both_safe s i g l n k))
        (λ n. run_safe (λ i. next_is LF text i ≡ false) (seq (newline_with LF) (accept_as LF Control))
        (λ i h. no_next (is_emoji text i) (is CR text i) (next_is LF text i) h, (λ i h. by_kind LF refl i h.1, tt)) s (λ e. n) i)

    start_safe : (s : Parse) → Safe s → (going s ≡ true → s.len < 32) → Safe (run start text s)
    unfolding start control newline Guard
    start_safe s i l = choose_case (λ q. Safe q) is_emoji _ _ text s (λ h. run_safe (λ i. Unit {0}) emojis (guard_emojis _) s (λ e. tt) i)
        (λ h. choose_case (λ q. Safe q) (is CN) _ _ text s (λ t. run_safe (λ i. is CN text i ≡ true) (take Control) (λ i h. by_kind CN refl i h) s (λ e. (both_of (going s) _ t).1) i)
        (λ a. choose_case (λ q. Safe q) (is LF) _ _ text s (λ t. run_safe (λ i. is LF text i ≡ true) newline (tt, λ i h. by_kind LF refl i h) s (λ e. (both_of (going s) _ t).1) i)
        (λ b. choose_case (λ q. Safe q) (is CR) _ _ text s (λ t. let g = holds_going text (is CR) s t in arm_safe s i g (l g))
        (λ c. run_safe (λ i. is CR text i ≡ false) syllable (guard_syllable _ (λ i h. h)) s (λ e. rw e at c) i))))

-- in whole mode a call that may go on has room
room_keeps : (text : List ℕ) → Keeps text (λ q. (q.mode ≡ Whole) × (is_going (go_on q.flow) ≡ true → q.len < 32)) (λ q. q.mode ≡ Whole)
room_keeps text = record {
  put = λ c s g i. put_same (λ (q : Parse). q.mode) (λ n cs q. refl) (token_at text s.at) s c ∙ i.0;
  noted = λ s g i. noted_same (λ (q : Parse). q.mode) (λ n cs q. refl) (token_at text s.at) s ∙ i.0;
  moved = λ s w. moved_case (λ q. (q.mode ≡ Whole) × (is_going (go_on q.flow) ≡ true → q.len < 32)) (length text) s
      (λ l h. (w, λ e. l)) (λ l h. (w, λ e. absurd (false≢true e))) (λ l. (w, λ e. absurd (false≢true e)));
  marked = λ j s i. i;
  stopped = λ s g i. (i.0, λ e. i.1 (open_going s.flow g));
  resumed = λ s i. (i.0, λ e. i.1 (open_more s.flow e));
  retried = λ s i. if_intro (λ (q : Parse). (q.mode ≡ Whole) × (is_going (go_on q.flow) ≡ true → q.len < 32)) (passes_end s.mode s.flow s.again) _ _
      (λ h. absurd (false≢true (ap (λ m. passes_end m s.flow s.again) (sym i.0) ∙ h))) (λ h. i);
}

-- "CR and LF are not parted": no call in whole mode hands back the place between the two.
pub together : (text : List ℕ) → ((i : ℕ) → kind_of (token_at text i) ≡ break_of (token_at text i)) → (p : Place) (k : ℕ) → p.at ≤ k
    → place_of text (run cluster text (begin p Whole false)) ≡ k + 1 → pair_at text k ≡ false
unfolding cluster Guard
together text same p k f e =
    let s : Parse = begin p Whole false in
    let r : Parse = run cluster text s in
    let from : ℕ = p.at in
    let first : Safe text from s = record { whole = refl; plain = refl; clear = λ d k e f. absurd (omega arith) } in
    let q : Parse = run (many_as PP Base) text s in
    let prepended : Safe text from q = run_safe text from (λ i. Unit {0}) (many_as PP Base) (λ i h. by_kind text from PP refl i h) s (λ g. tt) first in
    let room = (run_keeps text _ _ (room_keeps text) (many_as PP Base) s (refl, λ g. omega arith)).1 in
    let u : Parse = run start text q in
    let started : Safe text from u = start_safe text from same q prepended (λ g. room (open_going q.flow g)) in
    let safe : Safe text from r = subst (λ (z : Parse). Safe text from z) (sym (run_seq _ _ text s ∙ run_seq _ _ text q))
    (run_safe text from (λ i. Unit {0}) (while is_extension extension) (guard_extensions text from same (λ i. Unit {0})) u (λ g. tt) started) in
    by_test r.done
    (λ d. let n : length text ≡ k + 1 = ap (λ b. cond b (length text) r.at) (sym d) ∙ e in
    no_next (is_emoji text k) (is CR text k) (next_is LF text k) (ap (λ t. eqb (kind_of t) LF) (get_or-eq_default text 0 {n = k + 1} (omega (arith, n)))))
    (λ d. safe.clear d k (ap (λ b. cond b (length text) r.at) (sym d) ∙ e) f)
