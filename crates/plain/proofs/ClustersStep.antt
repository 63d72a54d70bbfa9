-- The stepping call on a plain text: from every boundary of UAX #29 it goes to the next one, or to the end.
-- Assumes nothing.
use Rattle.std.specs.Prelude.{Ok}
use Prim.Native.Nat.{ℕ, zero, suc, ◌+◌, ◌<◌, ◌≤◌}
use mathlib.Core.Path.{◌≡◌, sym, ◌∙◌, subst}
use mathlib.Core.Bool.{true, false≢true}
use mathlib.Core.List.{List}
use mathlib.Core.Logic.{⊎_elim}
use native.Mathlib.Nat.{eq-or-lt_of_le}
use native.Mathlib.Omega.{arith}
use lib.Dec.{ltb}
use lib.ListN.{length}
use borrow.Author.Tests.{ltb-true, ltb-false, lt-ltb}
use Rattle.basics.specs.Sets.{every}
use Rattle.basics.proofs.Tests.{by_test, both}
use Rattle.classes.specs.declared.Mode.{Mode}
use Rattle.records.specs.Text.{Text}
use Rattle.records.specs.Refusals.{verdict}
use Rattle.records.specs.declared.Parser.TheVariants.{Simple}
use Rattle.stream.specs.Stream.{stream_of}
use Rattle.parse.specs.declared.Parse.{Parse}
use Rattle.parse.specs.State.{place_of}
use Rattle.segment.specs.Calls.{called, found, next_of}
use Rattle.segment.specs.Runs.{calls_from}
use Rattle.segment.specs.declared.Answer.{Answer}
use Rattle.segment.proofs.Progress.{progress}
use Rattle.segment.proofs.Coverage.{next_case, accepted_short}
use Rattle.segment.proofs.Demands.{at}
use Rattle.uax29.specs.Clusters.{boundary_at}
use Rattle.plain.specs.Clusters.{plain_at, all_short, is_plain}
use Rattle.plain.proofs.ClustersNeighbours.{Columns}
use Rattle.plain.proofs.ClustersAfter.{Joined}
use Rattle.plain.proofs.ClustersCall.{Shows}
use Rattle.plain.proofs.ClustersPlain.{stream_length, stream_shows, plain_columns, starts_at_0, call_plain, calls_more}

-- the calls from one boundary on reach every later one
module _ (mode : Mode) (stream breaks marks : List ℕ) (short : length stream ≤ 65535) (shows : Shows stream breaks marks) (plain : Columns breaks marks) (place : ℕ) (inside : place < length stream) (here : boundary_at breaks marks place ≡ true) where
  reached : (n from : ℕ) → length stream ≤ from + n → from ≤ place → boundary_at breaks marks from ≡ true → all_short (calls_from Simple mode stream n from) ≡ true → (called Simple mode stream place).len < 32
  unfolding all_short
  reached zero from h l s e = absurd (omega arith)
  reached (suc n) from h l s e =
      let p : Parse = called Simple mode stream from in
      let i : from < length stream = omega arith in
      let less = both (ltb p.len 32) _ (subst (λ ps. all_short ps ≡ true) (calls_more mode stream n from (lt-ltb from (length stream) i)) e) in
      let small : p.len < 32 = ltb-true p.len 32 less.0 in
      let ends = call_plain mode stream breaks marks short shows plain from i s small in
      let passes : from < place_of stream p = progress Simple mode stream short from i in
      ⊎_elim
      (λ (q : from ≡ place). subst (λ j. (called Simple mode stream j).len < 32) q small)
      (λ (q : from < place). by_test (ltb place (place_of stream p))
      (λ k. absurd (false≢true (sym (ends.0 place q (ltb-true _ _ k)) ∙ here)))
      (λ k. let j : place_of stream p ≤ place = ltb-false place (place_of stream p) k in
      reached n (place_of stream p) (omega arith) j (ends.1 (omega arith)) less.1))
      (eq-or-lt_of_le l)

-- From a boundary to the next: none stands between, and one stands there unless it is the end.
abbrev pub Leads : List ℕ → List ℕ → ℕ → ℕ → Type 0
Leads breaks marks place next = (place < next) × Joined (boundary_at breaks marks) place next × (next < length breaks → boundary_at breaks marks next ≡ true)

module _ (mode : Mode) (t : Text) (accepted : verdict Simple t ≡ Ok tt) (plain : is_plain mode t ≡ true) (place : ℕ) (inside : place < length t.records.breaks) (here : boundary_at t.records.breaks t.records.semojis place ≡ true) where
  abbrev breaks : List ℕ
  breaks = t.records.breaks

  abbrev marks : List ℕ
  marks = t.records.semojis

  abbrev stream : List ℕ
  stream = stream_of mode Simple t

  leads : Leads breaks marks place (place_of stream (called Simple mode stream place))
  unfolding is_plain
  leads =
      let told = both (every (plain_at breaks marks) (length breaks)) _ plain in
      let size : length stream ≡ length breaks = stream_length mode t accepted in
      let short : length stream ≤ 65535 = accepted_short mode Simple t accepted in
      let shows : Shows stream breaks marks = stream_shows mode t accepted in
      let columns : Columns breaks marks = plain_columns breaks marks told.0 in
      let i : place < length stream = omega arith in
      let small = reached mode stream breaks marks short shows columns place i here (length stream) 0 (omega arith) (omega arith) (starts_at_0 breaks marks (omega arith)) told.1 in
      let ends = call_plain mode stream breaks marks short shows columns place i here small in
      (progress Simple mode stream short place i, ends.0, λ h. ends.1 (omega arith))

  pub step_plain : Leads breaks marks place (next_of (at Simple mode place) t).state.place.at
  unfolding found
  step_plain =
      let size : length stream ≡ length breaks = stream_length mode t accepted in
      next_case (at Simple mode place) t (λ (a : Answer). Leads breaks marks place a.state.place.at)
      (λ r e. absurd (let z : ◌≡◌ {A = ℕ} 0 1 = cc in omega arith)) (λ e l. absurd (omega arith)) (λ e l. absurd (omega arith)) (λ e l. leads)
