-- What it says of the verdicts in a chain, or at the indices of a column, that all of it is accepted. For every crate that refuses.
-- Assumes nothing.
use Rattle.std.specs.Prelude.{Ok, Err}
use Prim.Native.Nat.{ℕ, zero, suc, ◌+◌, ◌<◌, ◌≤◌}
use mathlib.Core.Path.{◌≡◌, refl, subst}
use mathlib.Core.Bool.{Bool, true, false}
use mathlib.Core.Logic.{⊎_elim}
use native.Mathlib.Nat.{eq-or-lt_of_le}
use native.Mathlib.Omega.{arith}
use Rattle.records.specs.declared.Side.{Side}
use Rattle.records.specs.declared.Refusal.{Refusal}
use Rattle.records.specs.Verdict.{Verdict}
use Rattle.records.specs.Refusals.{refuse, ◌⊳◌, over}

pub never : {A : Type 0} {r : Refusal} → ◌≡◌ {A = Verdict} (Err r) (Ok tt) → A
never e = absurd (let z : ◌≡◌ {A = ℕ} 0 1 = cc in omega arith)

-- a condition that was tested and refused nothing does not hold
pub unrefused : (test : Bool) (number : ℕ) (side : Side) (index : ℕ) → refuse test number side index ≡ Ok tt → test ≡ false
unrefused true number side index e = never e
unrefused false number side index e = refl

-- two of a chain pass exactly when both pass
pub passes : (a b : Verdict) → a ⊳ b ≡ Ok tt → (a ≡ Ok tt) × (b ≡ Ok tt)
passes (Ok _) b e = (refl, e)
passes (Err r) b e = never e

pub pass : (a b : Verdict) → a ≡ Ok tt → b ≡ Ok tt → a ⊳ b ≡ Ok tt
pass a b e f = rw e f

-- all indices pass exactly when each one does
pub over_each : (judge : ℕ → Verdict) (n i : ℕ) → over judge i n ≡ Ok tt → (k : ℕ) → i ≤ k → k < i + n → judge k ≡ Ok tt
unfolding over
over_each judge zero i e k l h = absurd (omega arith)
over_each judge (suc n) i e k l h =
    let p : (judge i ≡ Ok tt) × (over judge (i + 1) n ≡ Ok tt) = passes (judge i) (over judge (i + 1) n) e in
    ⊎_elim (λ q. subst (λ (m : ℕ). judge m ≡ Ok tt) q p.0)
    (λ q. over_each judge n (i + 1) p.1 k (omega arith) (omega arith)) (eq-or-lt_of_le l)

pub each_over : (judge : ℕ → Verdict) (n i : ℕ) → ((k : ℕ) → i ≤ k → k < i + n → judge k ≡ Ok tt) → over judge i n ≡ Ok tt
unfolding over
each_over judge zero i f = refl
each_over judge (suc n) i f =
    pass (judge i) (over judge (i + 1) n) (f i (omega arith) (omega arith))
    (each_over judge n (i + 1) (λ k l h. f k (omega arith) (omega arith)))
