-- A chain of tests in the code, each with its own return, is the chain of verdicts in the definition.
-- Assumes nothing.
use Rattle.std.specs.Prelude.{Ok, Err}
use Prim.Native.Nat.{ℕ}
use mathlib.Core.Path.{◌≡◌}
use mathlib.Core.Bool.{Bool, true, false}
use Rattle.records.specs.declared.Side.{Side}
use Rattle.records.specs.Verdict.{Verdict}
use Rattle.records.specs.Refusals.{refusal, refuse, ◌⊳◌}

-- a refusal that a test of the code decides, before what comes later
module _ (b t : Bool) (e : t ≡ b) (number : ℕ) (side : Side) (index : ℕ) where
  pub passed : (later r : Verdict) → t ≡ false → r ≡ later → r ≡ refuse b number side index ⊳ later
  passed later r h k = rw (← e, h) k

  pub passed_last : t ≡ false → (Ok tt) ≡ refuse b number side index
  passed_last h = rw (← e, h)

  -- where a call makes the refusal
  pub told : (later v : Verdict) → v ≡ Err (refusal number side index) → t ≡ true → v ≡ refuse b number side index ⊳ later
  told later v k h = rw (← e, h) k

  pub told_last : (v : Verdict) → v ≡ Err (refusal number side index) → t ≡ true → v ≡ refuse b number side index
  told_last v k h = rw (← e, h) k

pub ruleset told_verdicts = (told, passed, told_last, passed_last)
