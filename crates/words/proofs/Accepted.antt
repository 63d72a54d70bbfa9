-- What it says of the next record of a text that the check accepted it.
-- Assumes nothing.
use Rattle.std.specs.Prelude.{Ok, Some, None}
use Prim.Native.Nat.{ℕ}
use mathlib.Core.Path.{◌≡◌, refl}
use mathlib.Core.Bool.{Bool, true, false, cond}
use mathlib.Core.List.{List}
use lib.Dec.{ltb}
use lib.ListN.{length}
use borrow.Author.Tests.{ltb-true}
use Rattle.classes.specs.WordBreak as WordBreak
use Rattle.records.specs.Text.{cell}
use Rattle.records.specs.Refusals.{word_verdict, outside}
use Rattle.records.proofs.Marks.{fine}
use Rattle.words.specs.Step.{next_codes}
use Rattle.words.specs.Run.{next_at}

module _ (words pictographs : List ℕ) (accepted : word_verdict words pictographs ≡ Ok tt) where
  next_under : (k : ℕ) (there : Bool) → ltb k (length words) ≡ there → outside (next_codes (cond there (Some (cell words k)) None)) ≡ false
  next_under k true e = rw (fine WordBreak.len words pictographs accepted k (ltb-true _ _ e)).0
  next_under k false e = refl

  pub fine_next : (k : ℕ) → outside (next_codes (next_at words k)) ≡ false
  unfolding next_at
  fine_next k = next_under k (ltb k (length words)) refl
