-- On plain texts the clusters of SCOPE 12.5 are the simple parser's, by both engines, whose contracts are one.
-- Assumes nothing.
use Rattle.std.specs.Prelude.{Ok}
use Prim.Native.Nat.{ℕ, zero, suc, ◌+◌, ◌<◌, ◌≤◌}
use mathlib.Core.Path.{◌≡◌, refl, sym, ◌∙◌, ap}
use mathlib.Core.Bool.{Bool, true, false, cond}
use mathlib.Core.List.{List}
use native.Mathlib.Omega.{arith}
use lib.Dec.{eqb, ltb}
use lib.ListN.{length}
use borrow.Author.Tests.{le-ltb, ltb-false}
use Rattle.basics.proofs.Tests.{neither}
use Rattle.classes.specs.ClusterBreak as ClusterBreak
use Rattle.classes.specs.declared.Mode.{Mode}
use Rattle.records.specs.Text.{Text, cell}
use Rattle.records.specs.Refusals.{most, verdict}
use Rattle.records.specs.Sound.{Sound}
use Rattle.records.specs.declared.Parser.TheVariants.{Simple}
use Rattle.records.proofs.Accepted.{accepted_sound}
use Rattle.records.proofs.Marks.{clean_accepted}
use Rattle.records.proofs.Written as Written
use Rattle.segment.proofs.Regulars.{even}
use Rattle.uax29.specs.Clusters.{boundary_at, places_from}
use Rattle.uax29.specs.Graphemes.{start_at, grapheme_check, grapheme_verdict, grapheme_cells}
use Rattle.plain.specs.Clusters.{is_plain, cluster_starts}
use Rattle.plain.proofs.ClustersPlain.{clusters_plain}

-- # What the simple parser's check accepts, the check of these two of its columns accepts

module _ (t : Text) (accepted : verdict Simple t ≡ Ok tt) where
  abbrev sound : Sound Simple t
  sound = accepted_sound Simple t accepted

  abbrev breaks : List ℕ
  breaks = t.records.breaks

  abbrev marks : List ℕ
  marks = t.records.semojis

  size : length breaks ≡ length t.records.scalars
  size = (even Simple t sound Simple).break

  pub columns_accepted : grapheme_check breaks marks ≡ Ok tt
  columns_accepted =
      let long : length marks ≡ length t.records.scalars = (even Simple t sound Simple).emoji in
      let short : length t.records.scalars ≤ most = ltb-false most (length t.records.scalars) (neither (ltb most (length t.records.scalars)) _ sound.short).0 in
      clean_accepted ClusterBreak.len breaks marks 13 1 (length breaks) (omega (arith, size, short)) (long ∙ sym size)
      (λ k h. omega (arith, (sound.rows k (omega (arith, size))).breaks)) (λ k h. omega (arith, (sound.rows k (omega (arith, size))).semoji)) (omega arith) (omega arith) (omega arith)

-- # The places of the cells that are 1

module _ (c d : ℕ → Bool) where
  places_same : (n at : ℕ) → ((i : ℕ) → at ≤ i → i < at + n → c i ≡ d i) → places_from c at n ≡ places_from d at n
  unfolding places_from
  places_same zero at e = refl
  places_same (suc n) at e = rw (e at (omega arith) (omega arith), places_same n (at + 1) (λ i l h. e i (omega arith) (omega arith)))

bit_one : (b : Bool) → eqb (cond b 1 0) 1 ≡ b
bit_one true = refl
bit_one false = refl

is_one : (breaks marks : List ℕ) (i : ℕ) → eqb (start_at breaks marks i) 1 ≡ boundary_at breaks marks i
unfolding start_at
is_one breaks marks i = bit_one (boundary_at breaks marks i)

-- "On plain texts (8.1) the records with 1 are where the simple parser's clusters start, in both of its modes": with a cell for each
-- record, neither run refuses, and the cells that are 1 stand where the clusters start.
pub graphemes_plain : (mode : Mode) (t : Text) (out : List ℕ) → verdict Simple t ≡ Ok tt → is_plain mode t ≡ true → length t.records.breaks ≤ length out
    → (grapheme_verdict t.records.breaks t.records.semojis (length out) ≡ Ok tt)
    × (places_from (λ i. eqb (cell (grapheme_cells t.records.breaks t.records.semojis out) i) 1) 0 (length t.records.breaks) ≡ cluster_starts mode t)
graphemes_plain mode t out accepted plain long =
    let b : List ℕ = t.records.breaks in
    let m : List ℕ = t.records.semojis in
    let said : grapheme_verdict b m (length out) ≡ (Ok tt) = rw (columns_accepted t accepted, le-ltb (length out) (length b) long) in
    let same : (i : ℕ) → 0 ≤ i → i < 0 + length b → eqb (cell (grapheme_cells b m out) i) 1 ≡ boundary_at b m i =
    λ i l h. ap (λ x. eqb x 1) (Written.record_cell (start_at b m) (length b) out (grapheme_verdict b m (length out)) i (omega arith) said) ∙ is_one b m i in
    (said, places_same (λ i. eqb (cell (grapheme_cells b m out) i) 1) (boundary_at b m) (length b) 0 same ∙ sym (clusters_plain mode t accepted plain))
