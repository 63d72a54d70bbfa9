-- A turn of the run, and the run's cells: line answers laid over word answers are the merged ones. Assumes nothing.
use Prim.Native.Nat.{ℕ, zero, suc, ◌+◌, ◌<◌, ◌≤◌}
use mathlib.Core.Path.{◌≡◌, refl, sym, ◌∙◌, ap}
use mathlib.Core.List.{List, ◌++◌}
use native.Mathlib.Omega.{arith}
use native.Mathlib.Numerals.{add-one}
use lib.ListN.{length, drop, set, get_or}
use Rattle.basics.specs.Columns.{cells}
use Rattle.basics.proofs.Columns.{Written, unwritten, written_more, written_cell, cells_same}
use Rattle.records.specs.Text.{cell}
use Rattle.words.specs.Run as Words
use Rattle.words.proofs.Laws.{answer_bit}
use Rattle.lines.specs.Rules.{boundary_code, line_answer, line_after, or_word}
use Rattle.lines.specs.Run.{state_at, line_at, answer_at, answers}
use Rattle.lines.specs.Inner.{merged, laid_at}
use Rattle.lines.specs.declared.Strength.{Strength}
use Rattle.lines.specs.declared.Boundary.{Boundary}
use Rattle.lines.specs.declared.LineState.{LineState}

-- one turn: class, answer, its number and the new state as the code has them
module _ (strength : Strength) (table lines : List ℕ) (i : ℕ) (s : LineState) (at : s ≡ state_at table lines i) (class : ℕ) (ec : class ≡ cell lines i) where
  pub turn_state : (q : LineState) → q ≡ line_after table s class → q ≡ state_at table lines (i + 1)
  unfolding state_at
  turn_state q e = e ∙ rw (at, ec) (ap (state_at table lines) (sym (add-one i)))

  pub turn_cells : (a : Boundary) (k v : ℕ) (out₀ out : List ℕ) → a ≡ line_answer strength table s class → k ≡ boundary_code a → v ≡ merged k (get_or out i 0) → i < length out₀ → Written (laid_at strength table lines out₀) out₀ i out → Written (laid_at strength table lines out₀) out₀ (i + 1) (set out i v)
  turn_cells a k v out₀ out ea ek ev h e =
      let f : v ≡ laid_at strength table lines out₀ i =
      unfold laid_at line_at in ev ∙ rw (ek, ea, at, ec, unwritten (laid_at strength table lines out₀) out₀ out i h e) in
      rw f (written_more (laid_at strength table lines out₀) out₀ out i h e)

-- a word answer is 0 or 1, and so the number of the two answers as one is what is laid over its cell
or_word_lem : (b : Boundary) (word : ℕ) → word ≤ 1 → merged (boundary_code b) word ≡ boundary_code (or_word b word)
or_word_lem Boundary.None zero h = refl
or_word_lem Boundary.None (suc zero) h = refl
or_word_lem Boundary.None (suc (suc word)) h = absurd (omega arith)
or_word_lem Boundary.Word word h = refl
or_word_lem Boundary.Line word h = refl
or_word_lem Boundary.Mandatory word h = refl

-- laid over the cells that the word run left
pub merged_all : (strength : Strength) (table lines words pictographs out : List ℕ) (n : ℕ) → cells (laid_at strength table lines (Words.answers words pictographs n ++ drop n out)) n ≡ answers strength table lines words pictographs n
unfolding laid_at answer_at
merged_all strength table lines words pictographs out n =
    cells_same _ _ n (λ i h. rw (written_cell (Words.answer_at words pictographs) out n i h) (or_word_lem (line_at strength table lines i) (Words.answer_at words pictographs i) (answer_bit words pictographs i)))
