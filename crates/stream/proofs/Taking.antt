-- The stream token by token, from spot to spot. Assumes nothing.
use Prim.Native.Nat.{ℕ, ◌+◌, ◌<◌, ◌≤◌}
use mathlib.Core.Path.{◌≡◌, refl, sym, ◌∙◌, ap}
use mathlib.Core.Bool.{Bool}
use mathlib.Core.List.{List, [], ◌∷◌}
use native.Mathlib.Omega.{arith}
use lib.Dec.{ltb}
use lib.ListN.{length, get_or}
use borrow.Author.Tests.{ltb-true, ltb-false}
use Rattle.basics.proofs.Tests.{by_test}
use Rattle.classes.specs.declared.Mode.{Mode}
use Rattle.records.specs.Text.{Text}
use Rattle.stream.specs.declared.spots.Spot.{Spot}
use Rattle.stream.specs.Stream.{source_of, splits_of, split_in}
use Rattle.stream.specs.Inner.{pieces_in, Piece, rest, rest_at, behind_of}
use Rattle.stream.proofs.Piece.{length_split}
use Rattle.stream.proofs.Stream.{rest_here, rest_next, rest_over}

-- a record that is one token
pub rest_whole : (gives : ℕ → List ℕ) (n i token : ℕ) → i < n → gives i ≡ token ∷ [] → rest gives n i 0 ≡ token ∷ rest gives n (i + 1) 0
rest_whole gives n i token h q =
    let m : length (gives i) ≡ 1 = ap length q in
    rest_here gives n i 0 h (omega arith) ∙ ap (λ t. t ∷ rest gives n i 1) (ap (λ l. get_or l 0 0) q) ∙ ap (λ r. token ∷ r) (rest_next gives n i 1 h (omega arith))

module _ (mode : Mode) (khmer : Bool) (t : Text) where
  abbrev left : ℕ → ℕ → List ℕ
  left i k = rest (split_in mode khmer t) (length t.records.scalars) i k

  pub spot_inside : (i k : ℕ) → 0 < length (left i k) → i < length t.records.scalars
  spot_inside i k h =
      by_test (ltb i (length t.records.scalars))
      (λ b. ltb-true i (length t.records.scalars) b)
      (λ b. absurd (let z : length (left i k) ≡ 0 = ap length (rest_over (split_in mode khmer t) (length t.records.scalars) i k (ltb-false i (length t.records.scalars) b)) in omega arith))

  module _ (i k pieces : ℕ) (h : i < length t.records.scalars) (e : pieces ≡ pieces_in mode khmer t i) where
    long : length (split_in mode khmer t i) ≡ pieces
    long = length_split mode khmer (source_of t.records t.records.uses t.records.cemojis) (splits_of t.records) t.parts i ∙ sym e

    behind_rest : left i (k + 1) ≡ rest_at mode khmer t (behind_of i k pieces)
    behind_rest =
        by_test (ltb (k + 1) pieces)
        (λ b. rw b refl)
        (λ b. rw b (rest_next (split_in mode khmer t) (length t.records.scalars) i (k + 1) h (omega (arith, long, ltb-false (k + 1) pieces b))))

    -- token k of record i
    pub taken_here : (token : ℕ) (next : Spot) → k < pieces → Piece mode khmer t i k token → next ≡ behind_of i k pieces → left i k ≡ token ∷ rest_at mode khmer t next
    taken_here token next l q f =
        let inside : k < length (split_in mode khmer t i) = omega (arith, long) in
        rest_here (split_in mode khmer t) (length t.records.scalars) i k h inside
        ∙ ap (λ x. x ∷ left i (k + 1)) (sym (q inside))
        ∙ ap (λ r. token ∷ r) (behind_rest ∙ ap (rest_at mode khmer t) (sym f))

    -- a record that gives no more
    pub taken_on : pieces ≤ k → left i k ≡ left (i + 1) 0
    taken_on l = rest_next (split_in mode khmer t) (length t.records.scalars) i k h (omega (arith, long))
