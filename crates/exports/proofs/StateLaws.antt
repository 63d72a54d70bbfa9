-- A step over a state of any numbers: its verdict and its results. Assumes nothing.
use Prim.Native.Nat.{ℕ, ◌+◌, ◌<◌, ◌≤◌}
use mathlib.Core.Path.{◌≡◌, subst}
use mathlib.Core.Bool.{Bool}
use mathlib.Core.List.{List, ◌∷◌}
use native.Mathlib.Omega.{arith}
use lib.ListN.{length}
use borrow.Author.Tests.{lt-ltb, le-ltb}
use Rattle.records.specs.Verdict.{Verdict}
use Rattle.exports.specs.Results.{written}
use Rattle.exports.specs.States.{judged, numbers_under, Stepped, SteppedIn}
use Rattle.exports.proofs.Refusals.{Numbered, told_by, told_tight}

-- what is bad, in the code's words and in the definition's
pub judged_by : (r v : Verdict) (b bad : Bool) → r ≡ judged v b → b ≡ bad → r ≡ judged v bad
judged_by r v b bad h e = rw (← e) h

-- the results in the code's words and in the definition's
pub step_told : (u v : Verdict) (number side index : ℕ) (given after more results results' : List ℕ) → u ≡ v → more ≡ numbers_under u given after → Numbered u number side index → results' ≡ written (number ∷ side ∷ index ∷ more) results → Stepped v given after results number results'
step_told u v number side index given after more results results' e m n w =
    subst (λ (q : Verdict). Stepped q given after results number results') e (told_by u number side index more (numbers_under u given after) results results' m n w)

-- the results column's room, before a step of any kind
pub step_tight : (room : ℕ) (v : Verdict) (given after results : List ℕ) → length results < room → room ≡ 3 + length given → SteppedIn room v given after results 9 results
step_tight room v given after results h k = rw (lt-ltb (length results) room h) (told_tight given results (omega arith))

module _ {A : Type 0} (room : ℕ) (verdict : A → Verdict) (after : A → List ℕ) (given results : List ℕ) where
  pub step_roomy : (s t : A) (r : ℕ) (results' : List ℕ) → room ≤ length results → s ≡ t → Stepped (verdict s) given (after s) results r results' → SteppedIn room (verdict t) given (after t) results r results'
  step_roomy s t r results' h e w =
      rw (le-ltb (length results) room h) (subst (λ (q : A). Stepped (verdict q) given (after q) results r results') e w)
