-- Laws of every rule, by induction over the grammar: a parse that does not go on is unchanged, a rule that begins with a push passes a
-- token or ends the flow, and a `while` of such a rule unrolls. Assumes nothing.
use Prim.Native.Nat.{ℕ, suc, ◌-◌, ◌<◌, ◌≤◌}
use mathlib.Core.Path.{◌≡◌, refl, sym, ◌∙◌}
use mathlib.Core.Bool.{Bool, true, false, cond, false≢true}
use mathlib.Core.List.{List}
use native.Mathlib.Omega.{arith}
use native.Mathlib.Nat.{le_refl, lt_of_le_of_lt, lt_of_lt_of_le}
use lib.ListN.{length}
use Rattle.basics.proofs.Tests.{if_intro, by_test}
use Rattle.classes.specs.declared.Shape.{Shape}
use Rattle.parse.specs.declared.Parse.{Parse}
use Rattle.parse.specs.declared.Info.{Info}
use Rattle.parse.specs.State.{token_at, turns, going, with_info}
use Rattle.parse.specs.Rule.{Test, Rule, skip, stop, push, note, mark, seq, choose, while, scope, thrice, fit, run, crowded, holds}
use Rattle.parse.proofs.Loop.{Falls, loop_goes, loop_stays}
use Rattle.parse.proofs.Moves.{push_turns, note_turns}
use Rattle.parse.proofs.Keeps.{run_at}

-- not going means unchanged
pub run_still : (r : Rule) (text : List ℕ) (s : Parse) → going s ≡ false → run r text s ≡ s
unfolding run
run_still skip text s g = refl
run_still stop text s g = rw g
run_still (push f) text s g = rw g
run_still note text s g = rw g
run_still (mark f) text s g = rw g
run_still (seq a b) text s g = rw (run_still a text s g) (run_still b text s g)
run_still (choose p a b) text s g = rw g (run_still b text s g)
run_still (while p a) text s g = loop_stays text (holds text p) (run a text) s (rw g)
run_still (scope a) text s g = rw g
run_still (thrice c) text s g = rw g
run_still (fit p m f) text s g = rw g

-- the turns left do not grow
turns_at : (text : List ℕ) (s q : Parse) → going s ≡ true → s.at ≤ q.at → turns text q ≤ turns text s
turns_at text s q g l = rw g (if_intro (λ k. k ≤ suc (length text - s.at)) (going q) _ _ (λ h. omega arith) (λ h. omega arith))

pub run_turns : (r : Rule) (text : List ℕ) (s : Parse) → turns text (run r text s) ≤ turns text s
run_turns r text s = by_test (going s) (λ g. turns_at text s (run r text s) g (run_at r text s)) (λ g. rw (run_still r text s g) (le_refl _))

-- a rule that begins with a push, a note or a stop, after marks or accepts at most
abbrev pub moves : Rule → Bool
moves skip = false
moves stop = true
moves (push f) = true
moves note = true
moves (mark f) = false
moves (seq a b) = cond (moves a) true (moves b)
moves (choose p a b) = cond (moves a) (moves b) false
moves (while p a) = false
moves (scope a) = false
moves (thrice c) = false
moves (fit p m f) = true

-- such a rule passes a token or ends the flow
pub run_moves : (r : Rule) (text : List ℕ) (s : Parse) → moves r ≡ true → going s ≡ true → turns text (run r text s) < turns text s
unfolding run
run_moves skip text s m g = absurd (false≢true m)
run_moves stop text s m g = rw g (omega arith)
run_moves (push f) text s m g = if_intro (λ q. turns text q < turns text s) (going s) _ _
    (λ h. push_turns text (f (token_at text s.at)) s g) (λ h. absurd (false≢true (sym h ∙ g)))
run_moves note text s m g = if_intro (λ q. turns text q < turns text s) (going s) _ _
    (λ h. note_turns text s g) (λ h. absurd (false≢true (sym h ∙ g)))
run_moves (mark f) text s m g = absurd (false≢true m)
run_moves (seq a b) text s m g = by_test (moves a)
    (λ ma. lt_of_le_of_lt (run_turns b text (run a text s)) (run_moves a text s ma g))
    (λ na. by_test (going (run a text s))
    (λ h. lt_of_lt_of_le (run_moves b text (run a text s) (rw na at m) h) (run_turns a text s))
    (λ h. rw (run_still b text (run a text s) h) (simp (h, g) (omega arith))))
run_moves (choose p a b) text s m g = by_test (moves a)
    (λ ma. if_intro (λ q. turns text q < turns text s) (holds text p s) _ _
    (λ h. run_moves a text s ma g) (λ h. run_moves b text s (rw ma at m) g))
    (λ na. absurd (false≢true (rw na at m)))
run_moves (while p a) text s m g = absurd (false≢true m)
run_moves (scope a) text s m g = absurd (false≢true m)
run_moves (thrice c) text s m g = absurd (false≢true m)
run_moves (fit p u f) text s m g = let t = token_at text s.at in
    if_intro (λ q. turns text q < turns text s) (going s) _ _
    (λ h. if_intro (λ q. turns text q < turns text s) (crowded text p s) _ _ (λ c. rw g (omega arith)) (λ c. push_turns text (f t) (with_info (u t s.info) s) g))
    (λ h. absurd (false≢true (sym h ∙ g)))

pub holds_going : (text : List ℕ) (p : Test) (s : Parse) → holds text p s ≡ true → going s ≡ true
holds_going text p s h = by_test (going s) (λ g. g) (λ g. absurd (false≢true (rw g at h)))

rule_falls : (a : Rule) → moves a ≡ true → (text : List ℕ) (p : Test) → Falls text (holds text p) (run a text)
rule_falls a m text p s h = run_moves a text s m (holds_going text p s h)

-- fuel is enough: a `while` whose test holds is its body and the `while` again
pub run_goes : (p : Test) (a : Rule) (text : List ℕ) (s : Parse) → moves a ≡ true → holds text p s ≡ true → run (while p a) text s ≡ run (while p a) text (run a text s)
unfolding run
run_goes p a text s m h = loop_goes text (holds text p) (run a text) (rule_falls a m text p) s h

-- and one whose test fails does nothing
pub run_stays : (p : Test) (a : Rule) (text : List ℕ) (s : Parse) → holds text p s ≡ false → run (while p a) text s ≡ s
unfolding run
run_stays p a text s h = loop_stays text (holds text p) (run a text) s h

pub run_falls : (p : Test) (a : Rule) (text : List ℕ) (s : Parse) → moves a ≡ true → holds text p s ≡ true → turns text (run a text s) < turns text s
run_falls p a text s m h = rule_falls a m text p s h

-- what each rule is, one at a time
pub run_seq : (a b : Rule) (text : List ℕ) (s : Parse) → run (seq a b) text s ≡ run b text (run a text s)
unfolding run
run_seq a b text s = refl

pub run_then : (p : Test) (a b : Rule) (text : List ℕ) (s : Parse) → holds text p s ≡ true → run (choose p a b) text s ≡ run a text s
unfolding run
run_then p a b text s h = rw h

pub run_else : (p : Test) (a b : Rule) (text : List ℕ) (s : Parse) → holds text p s ≡ false → run (choose p a b) text s ≡ run b text s
unfolding run
run_else p a b text s h = rw h

pub run_crowded : (p : Test) (m : ℕ → Info → Info) (f : ℕ → Shape) (text : List ℕ) (s : Parse) → crowded text p s ≡ true → run (fit p m f) text s ≡ run stop text s
unfolding run
run_crowded p m f text s h = rw h

pub run_roomy : (p : Test) (m : ℕ → Info → Info) (f : ℕ → Shape) (text : List ℕ) (s : Parse) → crowded text p s ≡ false → run (fit p m f) text s ≡ run (seq (mark m) (push f)) text s
unfolding run
run_roomy p m f text s h = by_test (going s) (λ g. rw (h, g, g)) (λ g. rw (h, g, g))
