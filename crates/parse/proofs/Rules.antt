-- What the proofs of functions cite: each law takes what the code has shown, and gives the function's own claim, so that `search`
-- over a ruleset follows the code. Assumes nothing.
use Prim.Native.Nat.{ℕ, ◌<◌}
use mathlib.Core.Path.{◌≡◌, sym, ◌∙◌}
use mathlib.Core.Bool.{Bool, true, false}
use mathlib.Core.List.{List}
use lib.ListN.{length}
use Rattle.std.specs.Prelude.{nat_eq}
use Rattle.std.specs.List.{list_any}
use Rattle.basics.proofs.Sets.{member_listed}
use Rattle.basics.proofs.Tests.{by_test}
use Rattle.classes.specs.declared.Shape.{Shape}
use Rattle.classes.specs.declared.Shape.TheVariants.{Other}
use Rattle.token.specs.Token.{kind_of}
use Rattle.parse.specs.declared.Parse.{Parse}
use Rattle.parse.specs.State.{token_at, turns, going, moved_of, on_joiner, step_of, resumed_of}
use Rattle.parse.specs.Rule.{Test, Rule, push, seq, choose, while, scope, run, holds, take, one_of, kind_here}
use Rattle.parse.proofs.Moves.{joiner_going, step_over}
use Rattle.parse.proofs.Runs.{moves, run_still, run_goes, run_stays, run_falls, run_seq, run_then, run_else}

-- s is the parse before, r the function's result, t a test's result
module _ (text : List ℕ) (s r : Parse) where
  pub by_scope : (a : Rule) (q : Parse) (t : Bool) → t ≡ going s → t ≡ true → q ≡ run a text s → r ≡ resumed_of q → r ≡ run (scope a) text s
  unfolding run
  by_scope a q t e h k j = j ∙ rw (k, sym e ∙ h)

  pub by_still : (a : Rule) (t : Bool) → t ≡ going s → t ≡ false → r ≡ s → r ≡ run a text s
  by_still a t e h q = q ∙ sym (run_still a text s (sym e ∙ h))

  pub by_seq : (a b : Rule) (q : Parse) → q ≡ run a text s → r ≡ run b text q → r ≡ run (seq a b) text s
  by_seq a b q e h = h ∙ rw e (sym (run_seq a b text s))

  pub by_then : (p : Test) (a b : Rule) (t : Bool) → t ≡ holds text p s → t ≡ true → r ≡ run a text s → r ≡ run (choose p a b) text s
  by_then p a b t e h q = q ∙ sym (run_then p a b text s (sym e ∙ h))

  pub by_else : (p : Test) (a b : Rule) (t : Bool) → t ≡ holds text p s → t ≡ false → r ≡ run b text s → r ≡ run (choose p a b) text s
  by_else p a b t e h q = q ∙ sym (run_else p a b text s (sym e ∙ h))

  -- a push whose class is that of the kind that was taken out first
  pub by_kind : (f : ℕ → Shape) (c : Shape) (k : ℕ) → k ≡ kind_here text s → c ≡ f k → r ≡ run (take c) text s → r ≡ run (push (λ t. f (kind_of t))) text s
  unfolding run
  by_kind f c k e h q = q ∙ rw (h, e) (by_test (going s) (λ g. rw g) (λ g. rw g))

pub ruleset rules = (by_then, by_else, by_seq)

-- a list's own test, of a kind x that was taken out first
pub one_listed : (text : List ℕ) (s : Parse) (ks : List ℕ) (t u : Bool) (x : ℕ) → t ≡ going s → t ≡ true → x ≡ kind_of (token_at text s.at) → u ≡ list_any (λ y. nat_eq y x) ks → u ≡ holds text (one_of ks) s
unfolding one_of
one_listed text s ks t u x e h k j = j ∙ member_listed ks x ∙ rw (k, sym e ∙ h)

-- a step onto a U+034F, m, which is then taken
pub step_onto : (text : List ℕ) (s m r : Parse) → m ≡ moved_of (length text) s → on_joiner text m ≡ true → r ≡ run (take Other) text m → r ≡ step_of text s
unfolding run
step_onto text s m r e h q = q ∙ rw (joiner_going text m h) (step_over text s m e h)

-- a loop's invariant, that what is left to run gives the whole: it is kept by a turn, and ends in the claim
pub loop_turns : (p : Test) (a : Rule) (text : List ℕ) (s q r : Parse) (t : Bool) → moves a ≡ true → run (while p a) text q ≡ run (while p a) text s → t ≡ holds text p q → t ≡ true → r ≡ run a text q → run (while p a) text r ≡ run (while p a) text s
loop_turns p a text s q r t m i e h k = rw k (sym (run_goes p a text q m (sym e ∙ h)) ∙ i)

pub loop_leaves : (p : Test) (a : Rule) (text : List ℕ) (s q : Parse) (t : Bool) → run (while p a) text q ≡ run (while p a) text s → t ≡ holds text p q → t ≡ false → q ≡ run (while p a) text s
loop_leaves p a text s q t i e h = sym (run_stays p a text q (sym e ∙ h)) ∙ i

-- the same with a rule behind the loop
pub loop_then : (p : Test) (a b : Rule) (text : List ℕ) (s q r : Parse) (t : Bool) → run (while p a) text q ≡ run (while p a) text s → t ≡ holds text p q → t ≡ false → r ≡ run b text q → r ≡ run (seq (while p a) b) text s
loop_then p a b text s q r t i e h k = by_seq text s r (while p a) b q (loop_leaves p a text s q t i e h) k

-- and where it is a scope behind another rule, which made m
pub loop_scope : (p : Test) (a b : Rule) (text : List ℕ) (s m q r : Parse) (t u : Bool) → m ≡ run b text s → t ≡ going m → t ≡ true → run (while p a) text q ≡ run (while p a) text m → u ≡ holds text p q → u ≡ false → r ≡ resumed_of q → r ≡ run (seq b (scope (while p a))) text s
loop_scope p a b text s m q r t u k g h i e j l = by_seq text s r b (scope (while p a)) m k (by_scope text m r (while p a) q t g h (loop_leaves p a text m q u i e j) l)

-- its measure falls
pub falls : (p : Test) (a : Rule) (text : List ℕ) (q r : Parse) (t : Bool) → moves a ≡ true → t ≡ holds text p q → t ≡ true → r ≡ run a text q → turns text r < turns text q
falls p a text q r t m e h k = rw k (run_falls p a text q m (sym e ∙ h))
