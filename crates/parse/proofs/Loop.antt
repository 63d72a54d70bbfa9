-- Choices by a test, and loops whose every turn takes from the turns left: such a loop is unrolled turn by turn, and keeps what
-- each turn keeps. Assumes nothing.
use Prim.Native.Nat.{ℕ, zero, suc, ◌<◌, ◌≤◌}
use mathlib.Core.Path.{◌≡◌, refl, sym, ◌∙◌}
use mathlib.Core.Bool.{Bool, true, false}
use mathlib.Core.List.{List}
use native.Mathlib.Omega.{arith}
use native.Mathlib.Nat.{le_refl}
use Rattle.basics.proofs.Tests.{by_test, if_intro}
use Rattle.parse.specs.declared.Parse.{Parse}
use Rattle.parse.specs.State.{at_most, loop, turns}

-- what every turn keeps, the loop keeps
module _ (test : Parse → Bool) (body : Parse → Parse) (I : Parse → Type 0) (keeps : (s : Parse) → I s → test s ≡ true → I (body s)) where
  pub at_most_keeps : (n : ℕ) (s : Parse) → I s → I (at_most test body n s)
  unfolding at_most
  at_most_keeps zero s i = i
  at_most_keeps (suc n) s i = if_intro I (test s) _ _ (λ h. at_most_keeps n (body s) (keeps s i h)) (λ h. i)

pub loop_keeps : (text : List ℕ) (test : Parse → Bool) (body : Parse → Parse) (I : Parse → Type 0) → ((s : Parse) → I s → test s ≡ true → I (body s)) → (s : Parse) → I s → I (loop text test body s)
unfolding loop
loop_keeps text test body I keeps s i = at_most_keeps test body I keeps (turns text s) s i

at_most_stays : (test : Parse → Bool) (body : Parse → Parse) (n : ℕ) (s : Parse) → test s ≡ false → at_most test body n s ≡ s
unfolding at_most
at_most_stays test body zero s h = refl
at_most_stays test body (suc n) s h = rw h

at_most_goes : (test : Parse → Bool) (body : Parse → Parse) (n : ℕ) (s : Parse) → test s ≡ true → at_most test body (suc n) s ≡ at_most test body n (body s)
unfolding at_most
at_most_goes test body n s h = rw h

-- a loop whose test fails does nothing
pub loop_stays : (text : List ℕ) (test : Parse → Bool) (body : Parse → Parse) (s : Parse) → test s ≡ false → loop text test body s ≡ s
unfolding loop
loop_stays text test body s h = at_most_stays test body (turns text s) s h

abbrev pub Falls : List ℕ → (Parse → Bool) → (Parse → Parse) → Type 0
Falls text test body = (s : Parse) → test s ≡ true → turns text (body s) < turns text s

module _ (text : List ℕ) (test : Parse → Bool) (body : Parse → Parse) (falls : Falls text test body) where
  -- any number of turns that is enough gives the same
  at_most_same : (n m : ℕ) (s : Parse) → turns text s ≤ n → turns text s ≤ m → at_most test body n s ≡ at_most test body m s
  at_most_same zero m s h k = by_test (test s)
      (λ e. let f : turns text (body s) < turns text s = falls s e in absurd (omega arith))
      (λ e. at_most_stays test body zero s e ∙ sym (at_most_stays test body m s e))
  at_most_same (suc n) zero s h k = by_test (test s)
      (λ e. let f : turns text (body s) < turns text s = falls s e in absurd (omega arith))
      (λ e. at_most_stays test body (suc n) s e ∙ sym (at_most_stays test body zero s e))
  at_most_same (suc n) (suc m) s h k = by_test (test s)
      (λ e. let f : turns text (body s) < turns text s = falls s e in
      at_most_goes test body n s e ∙ at_most_same n m (body s) (omega arith) (omega arith) ∙ sym (at_most_goes test body m s e))
      (λ e. at_most_stays test body (suc n) s e ∙ sym (at_most_stays test body (suc m) s e))

  -- a loop whose test holds is a turn and the loop: fuel is enough
  pub loop_goes : (s : Parse) → test s ≡ true → loop text test body s ≡ loop text test body (body s)
  unfolding loop
  loop_goes s e = let f : turns text (body s) < turns text s = falls s e in
      at_most_same (turns text s) (suc (turns text s)) s (le_refl _) (omega arith)
      ∙ at_most_goes test body (turns text s) s e
      ∙ at_most_same (turns text s) (turns text (body s)) (body s) (omega arith) (le_refl _)
