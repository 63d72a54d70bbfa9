-- A turn of the pass over two columns: what is seen, what stands ahead, and the cells after one record more.
-- Assumes nothing.
use Prim.Native.Nat.{ℕ, zero, suc, ◌+◌, ◌-◌, ◌<◌, ◌≤◌}
use mathlib.Core.Path.{◌≡◌, refl, sym, ◌∙◌, ap}
use mathlib.Core.Bool.{Bool, true, false, cond}
use mathlib.Core.List.{List, [], ◌∷◌}
use native.Mathlib.Omega.{arith}
use native.Mathlib.Numerals.{add-one}
use lib.ListN.{length, set}
use Rattle.basics.proofs.Columns.{Written, written_more}
use Rattle.classes.specs.WordBreak.{Other}
use Rattle.records.specs.Text.{cell}
use Rattle.uax29.specs.Rules.{Item, among, item_at, before_in, before_of, items_from}
use Rattle.basics.specs.Sets.{member}
use mir.Val.{bool_byte}
use Rattle.uax29.proofs.Bits.{bit}
use Rattle.uax29.specs.Words.{passed, ignored, boundary_at}
use Rattle.uax29.specs.declared.words.Seen.{Seen}
use Rattle.uax29.specs.WordsSeen.{decided, after, seen_at, ahead}
use Rattle.uax29.proofs.WordsRules.{kind_of, seen_of, decides, seen_after, seen_none}

-- the record ahead
module _ (words : List ℕ) (i : ℕ) where
  pub ahead_here : i < length words → member ignored (cell words i) ≡ false → ahead words i (length words - i) ≡ cell words i
  unfolding ahead
  ahead_here l h = let e : length words - i ≡ suc (length words - (i + 1)) = omega arith in rw (e, h)

  pub ahead_passes : i < length words → member ignored (cell words i) ≡ true → ahead words i (length words - i) ≡ ahead words (i + 1) (length words - (i + 1))
  unfolding ahead
  ahead_passes l h = let e : length words - i ≡ suc (length words - (i + 1)) = omega arith in rw (e, h)

  pub ahead_none : length words ≤ i → ahead words i (length words - i) ≡ Other
  unfolding ahead
  ahead_none l = let e : length words - i ≡ 0 = omega arith in rw e

kind_under : (t : Bool) (xs : List Item) (x : Item) (ys : List Item) (k : ℕ) → kind_of xs ≡ k → kind_of (cond t xs (x ∷ ys)) ≡ cond t k x.kind
kind_under true xs x ys k e = e
kind_under false xs x ys k e = refl

module _ (words pictographs : List ℕ) where
  pub ahead_is : (n i : ℕ) → kind_of (passed (items_from words pictographs [] i n)) ≡ ahead words i n
  unfolding passed items_from ahead among
  ahead_is zero i = refl
  ahead_is (suc n) i = kind_under (member ignored (cell words i)) (passed (items_from words pictographs [] (i + 1) n)) (item_at words pictographs i) (items_from words pictographs [] (i + 1) n) (ahead words (i + 1) n) (ahead_is n (i + 1))

  pub seen_is : (i : ℕ) → seen_of (before_of words pictographs i) ≡ seen_at words i
  unfolding seen_at before_in
  seen_is zero = seen_none
  seen_is (suc i) = seen_after (item_at words pictographs i) (before_of words pictographs i) ∙ ap (λ s. after s (cell words i)) (seen_is i)

  -- the boundary before a record, from what is seen
  pub boundary_is : (i : ℕ) → i < length words → boundary_at words pictographs i ≡ cond (decided (seen_at words i) (cell words i) (cell pictographs i) (ahead words (i + 1) (length words - (i + 1)))) 1 0
  unfolding boundary_at items_from
  boundary_is i l =
      let e : length words - i ≡ suc (length words - (i + 1)) = omega arith in
      rw (e, decides (before_of words pictographs i) (item_at words pictographs i) (items_from words pictographs [] (i + 1) (length words - (i + 1))), seen_is i, ahead_is (length words - (i + 1)) (i + 1))

  -- the code's turn at record i: what each call said
  pub turn_cells : (i b mark next answer : ℕ) (s : Seen) (test : Bool) (out₀ out : List ℕ)
      → s ≡ seen_at words i → b ≡ cell words i → mark ≡ cell pictographs i → next ≡ ahead words (i + 1) (length words - (i + 1)) → test ≡ decided s b mark next → answer ≡ bool_byte test
      → i < length words → i < length out₀ → Written (boundary_at words pictographs) out₀ i out → Written (boundary_at words pictographs) out₀ (i + 1) (set out i answer)
  turn_cells i b mark next answer s test out₀ out es eb em en et ea lw lo cells =
      let a : answer ≡ boundary_at words pictographs i = ea ∙ bit test ∙ rw (et, es, eb, em, en) (sym (boundary_is i lw)) in
      rw a (written_more (boundary_at words pictographs) out₀ out i lo cells)

pub turn_seen : (words : List ℕ) (i b : ℕ) (s r : Seen) → s ≡ seen_at words i → b ≡ cell words i → r ≡ after s b → r ≡ seen_at words (i + 1)
unfolding seen_at
turn_seen words i b s r es eb e = e ∙ rw (es, eb, add-one i)
