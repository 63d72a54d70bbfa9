-- Why going on pushes nothing (SCOPE 6.6): a run of consonant marks that ended at a cluster of 32 or at the end of the text has left as
-- current token one of its own class or a U+034F, and the tail asks for neither. Assumes nothing.
use Prim.Native.Nat.{ℕ}
use mathlib.Core.Path.{◌≡◌, refl, sym, ◌∙◌, ap}
use mathlib.Core.Bool.{Bool, true, false, cond, false≢true}
use mathlib.Core.List.{List, [], ◌∷◌}
use mathlib.Core.Logic.{◌⊎◌, inl, inr}
use lib.Dec.{eqb}
use lib.ListN.{length}
use borrow.Author.Tests.{eqb-true}
use Rattle.basics.proofs.Tests.{both_of, if_intro, by_test}
use Rattle.basics.specs.Sets.{member}
use Rattle.classes.specs.declared.Shape.{Shape}
use Rattle.classes.specs.declared.Shape.TheVariants.{Other}
use Rattle.classes.specs.declared.Mode.{Mode}
use Rattle.classes.specs.declared.Mode.TheVariants.{Crate}
use Rattle.classes.specs.Scalar.{CGJ}
use Rattle.token.specs.Token.{scalar_of, kind_of}
use Rattle.parse.specs.declared.Parse.{Parse}
use Rattle.parse.specs.State.{token_at, filled_at, going, put_of, moved_of, on_joiner, hop, step_of, push_of}
use Rattle.parse.specs.Rule.{Rule, skip, run, take, many, many_as, accept_as, ◌▸◌, while, is, one_of, holds}
use Rattle.parse.proofs.Loop.{loop_keeps}
use Rattle.parse.proofs.Moves.{moved_case, joiner_going, put_same}
use Rattle.parse.proofs.Runs.{run_seq, run_else, run_stays, holds_going}
use Rattle.complex.specs.Grammar.{opens_halant, is_vowel_modifier, medials, vowels, finals, syllable}
use Rattle.complex.specs.Ignored.{syllable_classes}

-- a token of the run's class, or a U+034F
abbrev pub Passed : ℕ → ℕ → Type 0
Passed k t = (kind_of t ≡ k) ⊎ (scalar_of t ≡ CGJ)

filled_crate : (m : Mode) (n i : ℕ) → m ≡ Crate → filled_at m n i ≡ i
filled_crate m n i e = rw e

joiner_scalar : (text : List ℕ) (s : Parse) → on_joiner text s ≡ true → scalar_of (token_at text s.at) ≡ CGJ
joiner_scalar text s h = eqb-true _ _ (both_of s.joins _ (both_of (going s) _ h).1).1

module _ (text : List ℕ) (k : ℕ) where
  -- where the parse does not go on, its current token has been passed
  abbrev pub Spent : Parse → Type 0
  Spent s = (s.mode ≡ Crate) × (going s ≡ false → Passed k (token_at text s.at))

  -- a step off such a token
  moved_spent : (s : Parse) → s.mode ≡ Crate → going s ≡ true → Passed k (token_at text s.at) → Spent (moved_of (length text) s)
  moved_spent s m g p = moved_case Spent (length text) s
      (λ l h. (m, λ f. absurd (false≢true (sym f ∙ g))))
      (λ l h. (m, λ f. p))
      (λ l. (m, λ f. rw (filled_crate s.mode (length text) s.at m) p))

  put_spent : (c : Shape) (s : Parse) → s.mode ≡ Crate → going s ≡ true → Passed k (token_at text s.at) → Spent (moved_of (length text) (put_of (token_at text s.at) c s))
  put_spent c s m g p =
      let t = token_at text s.at in
      moved_spent (put_of t c s)
      (put_same (λ q. q.mode) (λ n cs q. refl) t s c ∙ m)
      (put_same going (λ n cs q. refl) t s c ∙ g)
      (rw (put_same (λ q. q.at) (λ n cs q. refl) t s c) p)

  -- the run keeps it: it pushes tokens of its class, and U+034F by its steps
  push_spent : (c : Shape) (s : Parse) → s.mode ≡ Crate → going s ≡ true → Passed k (token_at text s.at) → Spent (push_of text c s)
  unfolding push_of step_of
  push_spent c s m g p = loop_keeps text (on_joiner text) (hop text) Spent
      (λ q i h. put_spent Other q i.0 (joiner_going text q h) (inr (joiner_scalar text q h)))
      _ (put_spent c s m g p)

  pub many_spent : (s : Parse) → s.mode ≡ Crate → going s ≡ true → Spent (run (many k) text s)
  unfolding run
  many_spent s m g = loop_keeps text (holds text (is k)) (run (take Other) text) Spent
      (λ q i h. turn q i.0 h) s (m, λ f. absurd (false≢true (sym f ∙ g)))
    where
      turn : (q : Parse) → q.mode ≡ Crate → holds text (is k) q ≡ true → Spent (run (take Other) text q)
      turn q m h = if_intro Spent (going q) _ _
          (λ g. push_spent Other q m g (inl (eqb-true _ _ (both_of (going q) _ h).1)))
          (λ g. absurd (false≢true (sym g ∙ holds_going text (is k) q h)))

-- a class that is in the list is not that of a token whose class is not
not_there : (ks : List ℕ) (k x : ℕ) → member ks k ≡ false → member ks x ≡ true → eqb k x ≡ false
not_there ks k x n m = by_test (eqb k x) (λ e. absurd (false≢true (sym n ∙ ap (member ks) (eqb-true k x e) ∙ m))) (λ e. e)

abbrev all : (ℕ → Bool) → List ℕ → Bool
all p [] = true
all p (x ∷ xs) = cond (p x) (all p xs) false

not_one : (ks : List ℕ) (k : ℕ) (xs : List ℕ) → member ks k ≡ false → all (member ks) xs ≡ true → member xs k ≡ false
not_one ks k [] n m = refl
not_one ks k (x ∷ xs) n m = rw (not_there ks k x n (both_of (member ks x) _ m).0) (not_one ks k xs n (both_of (member ks x) _ m).1)

no_test : (g b : Bool) → b ≡ false → cond g b false ≡ false
no_test true b e = e
no_test false b e = refl

-- a parse whose current token has none of the classes: the tail does nothing
module _ (text : List ℕ) (s : Parse) (n : member syllable_classes (kind_of (token_at text s.at)) ≡ false) where
  accept_idle : (k : ℕ) (c : Shape) → member syllable_classes k ≡ true → run (accept_as k c) text s ≡ s
  accept_idle k c m = run_else (is k) (take c) skip text s (no_test (going s) _ (not_there syllable_classes _ k n m)) ∙ unfold run in refl

  many_idle : (k : ℕ) (c : Shape) → member syllable_classes k ≡ true → run (many_as k c) text s ≡ s
  many_idle k c m = run_stays (is k) (take c) text s (no_test (going s) _ (not_there syllable_classes _ k n m))

  while_idle : (ks : List ℕ) (a : Rule) → all (member syllable_classes) ks ≡ true → run (while (one_of ks) a) text s ≡ s
  while_idle ks a m = run_stays (one_of ks) a text s (unfold one_of in no_test (going s) _ (not_one syllable_classes _ ks n m))

  seq_idle : (a b : Rule) → run a text s ≡ s → run b text s ≡ s → run (a ▸ b) text s ≡ s
  seq_idle a b e h = run_seq a b text s ∙ ap (run b text) e ∙ h

  ruleset idle = (accept_idle, many_idle, while_idle, seq_idle)

  medials_idle : run medials text s ≡ s
  medials_idle = unfold medials in search idle depth 12

  vowels_idle : run vowels text s ≡ s
  vowels_idle = unfold vowels in search idle depth 12

  finals_idle : run finals text s ≡ s
  finals_idle = unfold finals in search idle depth 12

  pub syllable_idle : (khmer : Bool) → run (syllable khmer) text s ≡ s
  syllable_idle khmer = unfold syllable opens_halant is_vowel_modifier in search (idle, medials_idle, vowels_idle, finals_idle) depth 12
