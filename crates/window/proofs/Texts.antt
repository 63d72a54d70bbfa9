-- The law for the three parts of a text that are asked for: its beginning (an open text, of which more may come), what stands from a
-- place on, and so many tokens from a place on. Assumes nothing.
use Prim.Native.Nat.{ℕ, ◌+◌, ◌≤◌}
use mathlib.Core.Path.{◌≡◌, sym, ◌∙◌, ap}
use mathlib.Core.Bool.{false}
use mathlib.Core.List.{List, ◌++◌}
use native.Mathlib.Omega.{arith}
use lib.ListN.{length, get_or, take, drop, length-append, length-take, length-drop, get_or-append, get_or-eq_default}
use lib.Seq.{get_or-take, get_or-drop}
use Rattle.parse.specs.declared.Parse.{Parse}
use Rattle.parse.specs.State.{token_at, with_place}
use Rattle.parse.specs.Rule.{Rule, run}
use Rattle.window.specs.Window.{shift, Window}
use Rattle.window.proofs.Run.{not_both, Sees, Inside, Does, sees_alike, run_window}

pub from_start : (text more : List ℕ) → Window (text ++ more) text 0
from_start text more = record { inside = simp length-append (omega arith); same = λ i h. ap (λ (j : ℕ). get_or (text ++ more) j 0) (omega arith) ∙ get_or-append text more 0 i h }

pub from_place : (text : List ℕ) (k : ℕ) → k ≤ length text → Window text (drop k text) k
from_place text k l = record {
  inside = simp length-drop (omega arith);
  same = λ i h. ap (λ (j : ℕ). get_or text j 0) (omega arith) ∙ sym (get_or-drop k text i 0);
}

pub so_many : (text : List ℕ) (k n : ℕ) → k ≤ length text → Window text (take n (drop k text)) k
so_many text k n l = record {
  inside = simp (length-take, length-drop) (omega arith);
  same = λ i h. ap (λ (j : ℕ). get_or text j 0) (omega arith) ∙ sym (get_or-take n (drop k text) i 0 (omega (arith, length-take n (drop k text))) ∙ get_or-drop k text i 0);
}

-- where the window goes to the end of the text, it is the same after it too
pub same_after : (text win : List ℕ) (k : ℕ) → Window text win k → length win + k ≡ length text → (i : ℕ) → length win ≤ i → token_at text (i + k) ≡ token_at win i
same_after text win k w e i h = get_or-eq_default text 0 (omega arith) ∙ sym (get_or-eq_default win 0 h)

pub shift_none : (s : Parse) → shift 0 s ≡ s
shift_none s = ap (λ (i : ℕ). with_place i s) (omega arith)

module _ (r : Rule) (sees : Sees r) where
  -- a rule whose tests see the current token alone, on a part of a text
  part_window : (text win : List ℕ) (k : ℕ) (w : Window text win k) (s : Parse) → Inside win s → Does text win k w r s
  part_window text win k w s i = run_window text win k w r s (sees_alike text win k w r sees s i) i

  -- the text so far, and every longer one
  pub run_longer : (text more : List ℕ) (s : Parse) → Inside text s → (run r text s).done ≡ false → run r (text ++ more) s ≡ run r text s
  run_longer text more s i f = ap (run r (text ++ more)) (sym (shift_none s)) ∙ part_window (text ++ more) text 0 (from_start text more) s i (not_both f) ∙ shift_none (run r text s)

  -- a run does not depend on what stands before its place
  pub run_dropped : (text : List ℕ) (k : ℕ) (s : Parse) → k ≤ length text → Inside (drop k text) s → run r text (shift k s) ≡ shift k (run r (drop k text) s)
  run_dropped text k s l i = part_window text (drop k text) k (from_place text k l) s i (λ d. simp length-drop (omega arith))

  -- so many tokens from its place on are enough, where it reads nothing past them
  pub run_taken : (text : List ℕ) (k n : ℕ) (s : Parse) → k ≤ length text → Inside (take n (drop k text)) s → (run r (take n (drop k text)) s).done ≡ false
      → run r text (shift k s) ≡ shift k (run r (take n (drop k text)) s)
  run_taken text k n s l i f = part_window text (take n (drop k text)) k (so_many text k n l) s i (not_both f)
