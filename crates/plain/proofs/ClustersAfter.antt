-- Where a rule leaves a call that takes a token only where b says that no boundary stands before it: laws for each rule, over any
-- text and any b, for calls that stay below 32 characters. Assumes nothing.
use Prim.Native.Nat.{ℕ, zero, suc, ◌+◌, ◌<◌, ◌≤◌}
use mathlib.Core.Path.{◌≡◌, refl, sym, ◌∙◌, ap, subst}
use mathlib.Core.Bool.{Bool, true, false, cond, false≢true}
use mathlib.Core.List.{List}
use mathlib.Core.Logic.{◌⊎◌, ⊎_elim}
use native.Mathlib.Nat.{eq-or-lt_of_le, le_refl}
use native.Mathlib.Omega.{arith}
use lib.Dec.{ltb}
use lib.ListN.{length}
use borrow.Author.Tests.{lt-ltb}
use Rattle.basics.proofs.Tests.{if_intro, by_test}
use Rattle.classes.specs.declared.Shape.{Shape}
use Rattle.classes.specs.declared.Shape.TheVariants.{Other}
use Rattle.parse.specs.declared.Parse.{Parse}
use Rattle.parse.specs.declared.Info.{Info}
use Rattle.parse.specs.declared.Flow.{Flow}
use Rattle.parse.specs.declared.Flow.TheVariants.{GoOn, Stop, End}
use Rattle.parse.specs.State.{token_at, place_after, turns, is_going, going, put_of, noted_of, moved_of, step_of, push_of, note_of, go_on, resumed_of, passes_end}
use Rattle.parse.specs.Rule.{Rule, Test, skip, stop, push, note, mark, seq, choose, while, scope, run, holds}
use Rattle.parse.proofs.Loop.{loop_keeps}
use Rattle.parse.proofs.Moves.{put_same, noted_same, moved_case, step_stays}
use Rattle.parse.proofs.Keeps.{run_keeps}
use Rattle.parse.proofs.Runs.{moves, run_still, run_goes, run_stays, run_falls, run_seq}
use Rattle.parse.proofs.Fills.{choose_case}

-- no boundary between two places
abbrev pub Joined : (ℕ → Bool) → ℕ → ℕ → Type 0
Joined b from to = (k : ℕ) → from < k → k < to → b k ≡ false

-- a call from a place on that stands at a token
pub record Stands (text : List ℕ) (b : ℕ → Bool) (from : ℕ) (f : Flow) (s : Parse) : Type 0 where
  pub flow : s.flow ≡ f
  pub done : s.done ≡ false
  pub joins : s.joins ≡ false
  pub again : s.again ≡ false
  pub inside : s.at < length text
  pub later : from ≤ s.at
  pub past : Joined b from s.at

-- one that has reached the end of the text
pub record Over (text : List ℕ) (b : ℕ → Bool) (from : ℕ) (s : Parse) : Type 0 where
  pub flow : s.flow ≡ End
  pub done : s.done ≡ true
  pub again : s.again ≡ false
  pub past : Joined b from (length text)

-- where a rule leaves a call: at 32 characters, at the end, stopped at a place of which S holds, or at one of which Q holds
pub data After (text : List ℕ) (b : ℕ → Bool) (from : ℕ) (Q S : ℕ → Type 0) (s : Parse) : Type 0 where
  full : 32 ≤ s.len → After text b from Q S s
  over : Over text b from s → After text b from Q S s
  halted : Stands text b from Stop s → S s.at → After text b from Q S s
  goes : Stands text b from GoOn s → Q s.at → After text b from Q S s

put_full : (t : ℕ) (c : Shape) (s : Parse) → 32 ≤ s.len → 32 ≤ (put_of t c s).len
put_full t c s i = if_intro (λ (q : Parse). 32 ≤ q.len) (ltb s.len 32) _ _ (λ h. omega arith) (λ h. i)

-- a cluster of 32 stays one
run_full : (r : Rule) (text : List ℕ) (s : Parse) → 32 ≤ s.len → 32 ≤ (run r text s).len
run_full r text s w = run_keeps text (λ q. 32 ≤ q.len) (λ q. 32 ≤ q.len)
    (record {
      put = λ c q g i. put_full (token_at text q.at) c q i;
      noted = λ q g i. if_intro (λ (u : Parse). 32 ≤ u.len) (ltb 0 q.len) _ _
          (λ h. if_intro (λ (u : Parse). 32 ≤ u.len) (ltb q.len 33) _ _ (λ e. i) (λ e. i)) (λ h. put_full (token_at text q.at) Other q i);
      moved = λ q i. moved_case (λ u. 32 ≤ u.len) (length text) q (λ l h. i) (λ l h. i) (λ l. i);
      marked = λ j q i. i;
      stopped = λ q g i. i;
      resumed = λ q i. i;
      retried = λ q i. if_intro (λ (u : Parse). 32 ≤ u.len) (passes_end q.mode q.flow q.again) _ _ (λ h. i) (λ h. i);
    })
    r s w

-- a test where the call goes on
holds_at : (text : List ℕ) (p : Test) (s : Parse) → s.flow ≡ GoOn → holds text p s ≡ p text s.at
holds_at text p s e = ap (λ f. cond (is_going f) (p text s.at) false) e

-- a loop is left where its test fails
while_leaves : (p : Test) (a : Rule) (text : List ℕ) → moves a ≡ true → (n : ℕ) (s : Parse) → turns text s ≤ n → holds text p (run (while p a) text s) ≡ false
while_leaves p a text m zero s l = by_test (holds text p s)
    (λ h. absurd (let f : turns text (run a text s) < turns text s = run_falls p a text s m h in omega arith))
    (λ h. subst (λ (q : Parse). holds text p q ≡ false) (sym (run_stays p a text s h)) h)
while_leaves p a text m (suc n) s l = by_test (holds text p s)
    (λ h. let f : turns text (run a text s) < turns text s = run_falls p a text s m h in
    subst (λ (q : Parse). holds text p q ≡ false) (sym (run_goes p a text s m h)) (while_leaves p a text m n (run a text s) (omega arith)))
    (λ h. subst (λ (q : Parse). holds text p q ≡ false) (sym (run_stays p a text s h)) h)

no_joiner : (g j x : Bool) → j ≡ false → cond g (cond j x false) false ≡ false
no_joiner true true x e = absurd (false≢true (sym e))
no_joiner true false x e = refl
no_joiner false j x e = refl

module _ (text : List ℕ) (b : ℕ → Bool) (from : ℕ) where
  -- a rule after what a call has reached
  pub after_run : (r : Rule) (s : Parse) {Q S R T : ℕ → Type 0} → After text b from Q S s → (Stands text b from GoOn s → Q s.at → After text b from R T (run r text s)) → ((j : ℕ) → j < length text → S j → T j) → After text b from R T (run r text s)
  after_run r s (full h) f g = full (run_full r text s h)
  after_run r s {R = R} {T = T} (over o) f g = subst (λ (q : Parse). After text b from R T q) (sym (run_still r text s (ap is_going o.flow))) (over o)
  after_run r s {R = R} {T = T} (halted st x) f g = subst (λ (q : Parse). After text b from R T q) (sym (run_still r text s (ap is_going st.flow))) (halted st (g s.at st.inside x))
  after_run r s (goes st x) f g = f st x

  pub seq_after : (a c : Rule) (s : Parse) {Q S R T : ℕ → Type 0} → After text b from Q S (run a text s) → ((q : Parse) → Stands text b from GoOn q → Q q.at → After text b from R T (run c text q)) → ((j : ℕ) → j < length text → S j → T j) → After text b from R T (run (seq a c) text s)
  seq_after a c s {R = R} {T = T} i f g = subst (λ (q : Parse). After text b from R T q) (sym (run_seq a c text s)) (after_run c (run a text s) i (f (run a text s)) g)

  -- a call that stands at a token that it may take
  module _ (s : Parse) (st : Stands text b from GoOn s) where
    abbrev goes_on : going s ≡ true
    goes_on = ap is_going st.flow

    pub choose_after : (p : Test) (a c : Rule) {R T : ℕ → Type 0} → (p text s.at ≡ true → After text b from R T (run a text s)) → (p text s.at ≡ false → After text b from R T (run c text s)) → After text b from R T (run (choose p a c) text s)
    choose_after p a c {R = R} {T = T} f g = choose_case (λ (q : Parse). After text b from R T q) p a c text s
        (λ h. f (sym (holds_at text p s st.flow) ∙ h)) (λ h. g (sym (holds_at text p s st.flow) ∙ h))

    pub skip_after : {R T : ℕ → Type 0} → R s.at → After text b from R T (run skip text s)
    unfolding run
    skip_after x = goes st x

    pub mark_after : (f : ℕ → Info → Info) {R T : ℕ → Type 0} → R s.at → After text b from R T (run (mark f) text s)
    unfolding run
    mark_after f {R = R} {T = T} x = if_intro (λ (q : Parse). After text b from R T q) (going s) _ _
        (λ g. goes (record { flow = st.flow; done = st.done; joins = st.joins; again = st.again; inside = st.inside; later = st.later; past = st.past }) x)
        (λ g. absurd (false≢true (sym g ∙ goes_on)))

    pub stop_after : {R T : ℕ → Type 0} → T s.at → After text b from R T (run stop text s)
    unfolding run
    stop_after {R = R} {T = T} x = if_intro (λ (q : Parse). After text b from R T q) (going s) _ _
        (λ g. halted (record { flow = refl; done = st.done; joins = st.joins; again = st.again; inside = st.inside; later = st.later; past = st.past }) x)
        (λ g. absurd (false≢true (sym g ∙ goes_on)))

    module _ (may : (s.at ≡ from) ⊎ (b s.at ≡ false)) where
      -- the token is this cluster's
      past_here : Joined b from (s.at + 1)
      past_here k l h = ⊎_elim
          (λ (e : k ≡ s.at). ⊎_elim (λ (q : s.at ≡ from). absurd (omega arith)) (λ (q : b s.at ≡ false). ap b e ∙ q) may)
          (λ (d : k < s.at). st.past k l d)
          (eq-or-lt_of_le (let d : k ≤ s.at = omega arith in d))

      -- off it, where q is s with the token pushed or noted
      step_after : (q : Parse) {R T : ℕ → Type 0} → q.flow ≡ s.flow → q.done ≡ s.done → q.joins ≡ s.joins → q.again ≡ s.again → q.at ≡ s.at → (s.at + 1 < length text → R (s.at + 1)) → After text b from R T (step_of text q)
      step_after q {R = R} {T = T} ef ed ej eg ea r =
          let m : Parse = moved_of (length text) q in
          let mj : m.joins ≡ false = moved_case (λ u. u.joins ≡ false) (length text) q (λ l h. ej ∙ st.joins) (λ l h. ej ∙ st.joins) (λ l. ej ∙ st.joins) in
          subst (λ (u : Parse). After text b from R T u) (step_stays text q m refl (no_joiner (going m) m.joins _ mj))
          (moved_case (λ u. After text b from R T u) (length text) q
          (λ l h. goes (record {
            flow = ef ∙ st.flow;
            done = ed ∙ st.done;
            joins = ej ∙ st.joins;
            again = eg ∙ st.again;
            inside = h;
            later = omega (arith, st.later);
            past = λ k d e. past_here k d (omega arith);
          }) (subst R (ap (λ i. i + 1) (sym ea)) (r (omega arith))))
          (λ l h. over (record { flow = refl; done = refl; again = eg ∙ st.again; past = λ k d e. past_here k d (let n : place_after (length text) q.at ≡ q.at + 1 = rw (lt-ltb q.at (length text) (omega (arith, st.inside))) in omega arith) }))
          (λ l. full l))

      pub push_after : (f : ℕ → Shape) {R T : ℕ → Type 0} → (s.at + 1 < length text → R (s.at + 1)) → After text b from R T (run (push f) text s)
      unfolding run push_of
      push_after f {R = R} {T = T} r =
          let t : ℕ = token_at text s.at in
          if_intro (λ (q : Parse). After text b from R T q) (going s) _ _
          (λ g. step_after (put_of t (f t) s)
          (put_same (λ (q : Parse). q.flow) (λ n cs q. refl) t s (f t)) (put_same (λ (q : Parse). q.done) (λ n cs q. refl) t s (f t))
          (put_same (λ (q : Parse). q.joins) (λ n cs q. refl) t s (f t)) (put_same (λ (q : Parse). q.again) (λ n cs q. refl) t s (f t)) (put_same (λ (q : Parse). q.at) (λ n cs q. refl) t s (f t)) r)
          (λ g. absurd (false≢true (sym g ∙ goes_on)))

      pub note_after : {R T : ℕ → Type 0} → (s.at + 1 < length text → R (s.at + 1)) → After text b from R T (run note text s)
      unfolding run note_of
      note_after {R = R} {T = T} r =
          let t : ℕ = token_at text s.at in
          if_intro (λ (q : Parse). After text b from R T q) (going s) _ _
          (λ g. step_after (noted_of t s)
          (noted_same (λ (q : Parse). q.flow) (λ n cs q. refl) t s) (noted_same (λ (q : Parse). q.done) (λ n cs q. refl) t s)
          (noted_same (λ (q : Parse). q.joins) (λ n cs q. refl) t s) (noted_same (λ (q : Parse). q.again) (λ n cs q. refl) t s) (noted_same (λ (q : Parse). q.at) (λ n cs q. refl) t s) r)
          (λ g. absurd (false≢true (sym g ∙ goes_on)))

  -- a loop: I holds before every turn
  module _ (p : Test) (a : Rule) (I T : ℕ → Type 0) (turn : (q : Parse) → Stands text b from GoOn q → I q.at → p text q.at ≡ true → After text b from I T (run a text q)) where
    while_keeps : (s : Parse) → After text b from I T s → After text b from I T (run (while p a) text s)
    unfolding run
    while_keeps s i = loop_keeps text (holds text p) (run a text) (After text b from I T)
        (λ q j h. after_run a q j (λ st x. turn q st x (sym (holds_at text p q st.flow) ∙ h)) (λ k l x. x)) s i

    ends : (q : Parse) → holds text p q ≡ false → After text b from I T q → After text b from (λ j. I j × (p text j ≡ false)) T q
    ends q h (full l) = full l
    ends q h (over o) = over o
    ends q h (halted st x) = halted st x
    ends q h (goes st x) = goes st (x, sym (holds_at text p q st.flow) ∙ h)

    pub while_after : moves a ≡ true → (s : Parse) → Stands text b from GoOn s → I s.at → After text b from (λ j. I j × (p text j ≡ false)) T (run (while p a) text s)
    while_after m s st x = ends (run (while p a) text s) (while_leaves p a text m (turns text s) s (le_refl _)) (while_keeps s (goes st x))

  -- a scope: a stop in it ends it alone
  resumed_after : (q : Parse) {Q S R T : ℕ → Type 0} → After text b from Q S q → ((j : ℕ) → j < length text → Q j → R j) → ((j : ℕ) → j < length text → S j → R j) → After text b from R T (resumed_of q)
  resumed_after q (full l) f g = full l
  resumed_after q (over o) f g = over (record { flow = ap go_on o.flow; done = o.done; again = o.again; past = o.past })
  resumed_after q (halted st x) f g = goes (record { flow = ap go_on st.flow; done = st.done; joins = st.joins; again = st.again; inside = st.inside; later = st.later; past = st.past }) (g q.at st.inside x)
  resumed_after q (goes st x) f g = goes (record { flow = ap go_on st.flow; done = st.done; joins = st.joins; again = st.again; inside = st.inside; later = st.later; past = st.past }) (f q.at st.inside x)

  pub part_after : (a : Rule) (s : Parse) {Q S R T : ℕ → Type 0} → Stands text b from GoOn s → After text b from Q S (run a text s) → ((j : ℕ) → j < length text → Q j → R j) → ((j : ℕ) → j < length text → S j → R j) → After text b from R T (run (scope a) text s)
  unfolding run
  part_after a s {R = R} {T = T} st i f g = if_intro (λ (q : Parse). After text b from R T q) (going s) _ _
      (λ h. resumed_after (run a text s) i f g) (λ h. absurd (false≢true (sym h ∙ ap is_going st.flow)))
