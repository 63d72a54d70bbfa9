-- How a run comes out that answers each record in the cell of its index. Assumes nothing.
use Rattle.std.specs.Prelude.{Ok, Err}
use Prim.Native.Nat.{ℕ, ◌+◌, ◌<◌, ◌≤◌}
use mathlib.Core.Path.{◌≡◌, refl, sym, ◌∙◌}
use mathlib.Core.List.{List}
use lib.Dec.{ltb}
use lib.ListN.{length}
use borrow.Author.Tests.{ltb-false}
use Rattle.basics.proofs.Columns.{Written, written_cell, kept_cell}
use Rattle.records.specs.Text.{cell}
use Rattle.records.specs.Refusals.{refuse}
use Rattle.records.specs.Written.{roomy, written_under}
use Rattle.records.specs.declared.Side.TheVariants.{Neither}
use Rattle.records.specs.declared.Refusal.{Refusal}
use Rattle.records.specs.Verdict.{Verdict}
use Rattle.records.proofs.Unique.{unique}
use Rattle.records.proofs.Verdicts.{unrefused, passes}

-- A run's verdict and cells: w is what the check said, v what was then said of the room.
module _ (answer : ℕ → ℕ) (n : ℕ) (out : List ℕ) (check w v : Verdict) (e : w ≡ check) (f : v ≡ roomy w n (length out)) where
  -- what a contract says of the two
  abbrev Ran : Verdict → List ℕ → Type 0
  Ran r cells = (r ≡ roomy check n (length out)) × (cells ≡ written_under (roomy check n (length out)) answer n out)

  pub ran_refused : (r : Refusal) → v ≡ Err r → Ran v out
  ran_refused r h = rw (← e, ← f, h) (refl, refl)

  pub ran_whole : (cells : List ℕ) → v ≡ Ok tt → Written answer out n cells → Ran (Ok tt) cells
  ran_whole cells h k = rw (← e, ← f, h) (refl, k)

  -- what acceptance gives to those who write
  pub ran_checked : v ≡ Ok tt → check ≡ Ok tt
  ran_checked h = sym e ∙ (passes w (refuse (ltb (length out) n) 9 Neither 0) (sym f ∙ h)).0

  pub ran_long : v ≡ Ok tt → n ≤ length out
  ran_long h = ltb-false (length out) n (unrefused _ 9 Neither 0 (passes w (refuse (ltb (length out) n) 9 Neither 0) (sym f ∙ h)).1)

-- no two results fulfil such a contract (SCOPE 10)
module _ (answer : ℕ → ℕ) (n : ℕ) (out : List ℕ) (verdict : Verdict) where
  pub ran_unique : (r q : Verdict) (out' out'' : List ℕ) → (r ≡ verdict) × (out' ≡ written_under verdict answer n out) → (q ≡ verdict) × (out'' ≡ written_under verdict answer n out) → (r ≡ q) × (out' ≡ out'')
  ran_unique r q out' out'' a b = (unique _ r q a.0 b.0, unique _ out' out'' a.1 b.1)

  -- The cells after a run: with a refusal as they were, else a record's cell has its answer, and a cell past the records is as it was.
  pub refused_keeps : (r : Refusal) → verdict ≡ Err r → written_under verdict answer n out ≡ out
  refused_keeps r e = rw e

  pub record_cell : (i : ℕ) → i < n → verdict ≡ Ok tt → cell (written_under verdict answer n out) i ≡ answer i
  record_cell i h e = rw e (written_cell answer out n i h)

  pub later_cell : (k : ℕ) → verdict ≡ Ok tt → cell (written_under verdict answer n out) (n + k) ≡ cell out (n + k)
  later_cell k e = rw e (kept_cell answer out n k)
