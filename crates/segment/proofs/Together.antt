-- CR and LF in whole mode, over the public answers. Assumes nothing.
use Prim.Native.Nat.{ℕ, ◌+◌}
use mathlib.Core.Path.{◌≡◌, refl, sym, ◌∙◌, ap}
use mathlib.Core.Bool.{false}
use mathlib.Core.List.{List}
use native.Mathlib.Omega.{arith}
use lib.Dec.{eqb, ltb}
use lib.ListN.{length, get_or-eq_default}
use borrow.Author.Tests.{eqb-true, ltb-true, ltb-false}
use Rattle.basics.proofs.Tests.{by_test, both_of}
use Rattle.classes.specs.ClusterBreak as Break
use Rattle.classes.specs.declared.Mode.TheVariants.{Whole}
use Rattle.token.specs.Token.{kind_of, break_of}
use Rattle.records.specs.Text.{Text}
use Rattle.records.specs.Sound.{Sound}
use Rattle.records.specs.declared.Parser.TheVariants.{Simple}
use Rattle.records.proofs.Accepted.{accepted_sound}
use Rattle.stream.specs.Stream.{stream_of}
use Rattle.parse.specs.declared.Place.{Place}
use Rattle.parse.specs.State.{token_at}
use Rattle.simple.proofs.Together.{pair_at, together}
use Rattle.tables.specs.Symbols.{simple_regular}
use Rattle.segment.specs.declared.Segmenter.{Segmenter}
use Rattle.segment.specs.declared.What.TheVariants.{Found}
use Rattle.segment.specs.Calls.{grammar, called, refused, end, found, next_of}
use Rattle.segment.specs.Seen.{seen_by}
use Rattle.segment.proofs.Coverage.{next_case, accepted_short}
use Rattle.segment.proofs.Progress.{progress}
use Rattle.segment.proofs.Regulars.{direct_simple}

-- the kind of a token is its cluster break
kinds_breaks : (t : Text) → Sound Simple t → (i : ℕ) → kind_of (token_at (stream_of Whole Simple t) i) ≡ break_of (token_at (stream_of Whole Simple t) i)
unfolding simple_regular
kinds_breaks t s i = let d = direct_simple Whole Simple t s refl in
    rw d.same (by_test (ltb i (length (seen_by Simple t)))
    (λ h. let token = token_at (seen_by Simple t) i in
    eqb-true (kind_of token) (break_of token) (both_of (ltb (kind_of token) Break.len) (eqb (kind_of token) (break_of token)) (d.regular i (ltb-true i (length (seen_by Simple t)) h))).1)
    (λ h. let z = get_or-eq_default (seen_by Simple t) 0 {n = i} (ltb-false i (length (seen_by Simple t)) h) in ap kind_of z ∙ sym (ap break_of z)))

-- "CR and LF are not parted" (SCOPE 6.9): where the simple parser finds a cluster in whole mode, its next place does not stand between a CR
-- without the emoji mark and an LF.
pub step_together : (p : Place) (t : Text) (k : ℕ) → (next_of (record { parser = Simple; mode = Whole; place = p }) t).what ≡ Found
    → (next_of (record { parser = Simple; mode = Whole; place = p }) t).state.place.at ≡ k + 1 → pair_at (stream_of Whole Simple t) k ≡ false
unfolding refused end found called grammar
step_together p t k =
    let s : Segmenter = record { parser = Simple; mode = Whole; place = p } in
    let stream : List ℕ = stream_of Whole Simple t in
    next_case s t (λ a. a.what ≡ Found → a.state.place.at ≡ k + 1 → pair_at stream k ≡ false)
    (λ r e w h. absurd (let z : ◌≡◌ {A = ℕ} 0 1 = cc w in omega arith))
    (λ e l w h. absurd (let z : ◌≡◌ {A = ℕ} 0 1 = cc w in omega arith))
    (λ e l w h. absurd (let z : ◌≡◌ {A = ℕ} 0 1 = cc w in omega arith))
    (λ e l w h. together stream (kinds_breaks t (accepted_sound Simple t e)) p k (omega (arith, progress Simple Whole stream (accepted_short Whole Simple t e) p.at l, h)) h)
