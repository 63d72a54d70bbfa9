-- A rule without a kinzi never reads a token again: it leaves `again` as it was. Assumes nothing.
use Prim.Native.Nat.{ℕ}
use mathlib.Core.Path.{◌≡◌, refl, ◌∙◌}
use mathlib.Core.Bool.{Bool, true, false, cond, false≢true}
use mathlib.Core.List.{List}
use lib.ListN.{length}
use Rattle.basics.proofs.Tests.{if_same, both_of}
use Rattle.classes.specs.declared.Shape.{Shape}
use Rattle.classes.specs.declared.Shape.TheVariants.{Other}
use Rattle.parse.specs.declared.Parse.{Parse}
use Rattle.parse.specs.State.{token_at, going, with_info, put_of, noted_of, moved_of, on_joiner, hop, step_of, push_of, note_of}
use Rattle.parse.specs.Rule.{Rule, skip, stop, push, note, mark, seq, choose, while, scope, thrice, fit, run, crowded, holds, take_of, thrice_of}
use Rattle.parse.proofs.Loop.{loop_keeps}
use Rattle.parse.proofs.Moves.{put_same, noted_same, moved_case}

-- a rule with no kinzi in it
abbrev pub free : Rule → Bool
free skip = true
free stop = true
free (push f) = true
free note = true
free (mark f) = true
free (seq a b) = cond (free a) (free b) false
free (choose p a b) = cond (free a) (free b) false
free (while p a) = free a
free (scope a) = free a
free (thrice c) = false
free (fit p m f) = true

abbrev again_of : Parse → Bool
again_of s = s.again

-- it leaves `again` as it was
module _ (text : List ℕ) where
  put_again : (c : Shape) (s : Parse) → (put_of (token_at text s.at) c s).again ≡ s.again
  put_again c s = put_same again_of (λ n cs q. refl) (token_at text s.at) s c

  moved_again : (s : Parse) → (moved_of (length text) s).again ≡ s.again
  moved_again s = moved_case (λ q. q.again ≡ s.again) (length text) s (λ l h. refl) (λ l h. refl) (λ l. refl)

  step_again : (s : Parse) → (step_of text s).again ≡ s.again
  unfolding step_of
  step_again s = loop_keeps text (on_joiner text) (hop text) (λ q. q.again ≡ s.again)
      (λ q i h. moved_again (put_of (token_at text q.at) Other q) ∙ put_again Other q ∙ i) (moved_of (length text) s) (moved_again s)

  take_again : (c : Shape) (s : Parse) → (take_of text c s).again ≡ s.again
  unfolding push_of
  take_again c s = if_same again_of (going s) _ s s.again (step_again (put_of (token_at text s.at) c s) ∙ put_again c s) refl

  pub thrice_again : (c : Shape) (s : Parse) → (thrice_of text c s).again ≡ s.again
  unfolding thrice_of
  thrice_again c s = let a = take_of text c s in let b = take_of text c a in take_again c b ∙ take_again c a ∙ take_again c s

  pub run_again : (r : Rule) (s : Parse) → free r ≡ true → (run r text s).again ≡ s.again
  unfolding run push_of note_of
  run_again skip s k = refl
  run_again stop s k = if_same again_of (going s) _ s s.again refl refl
  run_again (push f) s k = take_again (f (token_at text s.at)) s
  run_again note s k = let t = token_at text s.at in
      if_same again_of (going s) _ s s.again (step_again (noted_of t s) ∙ noted_same again_of (λ n cs q. refl) t s) refl
  run_again (mark f) s k = if_same again_of (going s) _ s s.again refl refl
  run_again (seq a b) s k = let h = both_of (free a) (free b) k in run_again b (run a text s) h.1 ∙ run_again a s h.0
  run_again (choose p a b) s k = let h = both_of (free a) (free b) k in
      if_same again_of (holds text p s) (run a text s) (run b text s) s.again (run_again a s h.0) (run_again b s h.1)
  run_again (while p a) s k = loop_keeps text (holds text p) (run a text) (λ q. q.again ≡ s.again) (λ q i h. run_again a q k ∙ i) s refl
  run_again (scope a) s k = if_same again_of (going s) _ s s.again (run_again a s k) refl
  run_again (thrice c) s k = absurd (false≢true k)
  run_again (fit p m f) s k = let t = token_at text s.at in let u = with_info (m t s.info) s in
      if_same again_of (going s) _ s s.again (if_same again_of (crowded text p s) _ _ s.again refl (step_again (put_of t (f t) u) ∙ put_again (f t) u)) refl
