-- How a full run with spans comes out: refused for the six columns, or segment's own run and the columns filled. Assumes nothing.
use Rattle.std.specs.Prelude.{Ok, Err}
use Prim.Native.Nat.{ℕ, ◌*◌, ◌/◌, ◌<◌, ◌≤◌, min}
use mathlib.Core.Path.{◌≡◌, refl, sym, ◌∙◌, ap, subst}
use mathlib.Core.Bool.{true}
use mathlib.Core.List.{List, [], ◌∷◌}
use native.Mathlib.Omega.{arith}
use lib.Dec.{ltb}
use lib.ListN.{length}
use borrow.Author.Tests.{lt-ltb, le-ltb, ltb-true, ltb-false}
use Rattle.basics.proofs.Tests.{by_test}
use Rattle.classes.specs.declared.Mode.{Mode}
use Rattle.records.specs.Text.{Text}
use Rattle.records.specs.Refusals.{◌⊳◌, refusal, refuse, verdict}
use Rattle.records.specs.declared.Parser.{Parser}
use Rattle.records.specs.declared.Side.TheVariants.{Neither}
use Rattle.records.specs.Verdict.{Verdict}
use Rattle.stream.specs.Stream.{stream_of, most_tokens}
use Rattle.parse.specs.declared.Parse.{Parse}
use Rattle.segment.specs.declared.RunAnswer.{RunAnswer}
use Rattle.segment.specs.Runs.{calls_of, shortest, room_for, run_verdict, run_under, Ran, RanOf}
use Rattle.segment.specs.Inner.{Streamed, token_count}
use Rattle.segment.proofs.CallLaws.{streamed, counted}
use Rattle.spans.specs.Runs.{Columns, columns_of, lefts, shortest_of, span_verdict, spans_in, starts_in, ends_in, RanSpans}
use Rattle.spans.specs.Inner.{RoomyIn}

none_left : (calls : List Parse) → length calls ≡ 0 → calls ≡ []
none_left [] e = refl
none_left (p ∷ ps) e = absurd (omega arith)

less_min : (a b m : ℕ) → b < m → min a b < m
less_min a b m h = omega arith

half_less : (b n k : ℕ) → b / 2 < n → n ≡ k → b < 2 * k
half_less b n k h e = omega arith

half_enough : (b n k : ℕ) → n ≤ b / 2 → n ≡ k → 2 * k ≤ b
half_enough b n k h e = omega arith

module _ (parser : Parser) (mode : Mode) (t : Text) (scalars classes clusters o l m n s e : List ℕ) (count room : ℕ) (tokens : count ≡ token_count mode parser t) (roomed : room ≡ min (length o) (min (length l) (min (length m) (min (length n) (min (length s) (length e)))))) where
  abbrev cells : Columns
  cells = record { offsets = o; lengths = l; noffsets = m; nlengths = n; starts = s; ends = e }

  abbrev stream : List ℕ
  stream = stream_of mode parser t

  abbrev calls : List Parse
  calls = calls_of parser mode stream

  abbrev v : Verdict
  v = span_verdict parser mode t scalars classes clusters cells

  number : verdict parser t ≡ Ok tt → count ≡ length stream
  number ok = tokens ∙ counted mode parser t (streamed mode parser t ok).few

  -- Where the six columns are too short, the check refuses or 9 does.
  crowds : room / 2 < count → v ≡ verdict parser t ⊳ Err (refusal 9 Neither 0)
  unfolding run_verdict
  crowds h = go (verdict parser t) refl
    where
      go : (w : Verdict) → verdict parser t ≡ w → w ⊳ room_for (length stream) (min (shortest scalars classes clusters) (shortest_of cells)) ≡ w ⊳ Err (refusal 9 Neither 0)
      go (Err q) ok = refl
      go (Ok _) ok = let k : ltb (min (shortest scalars classes clusters) (shortest_of cells)) (2 * length stream) ≡ true = lt-ltb (min (shortest scalars classes clusters) (shortest_of cells)) (2 * length stream) (less_min (shortest scalars classes clusters) (shortest_of cells) (2 * length stream) (subst (λ (b : ℕ). b < 2 * length stream) roomed (half_less room count (length stream) h (number ok)))) in rw k

  pub ran_crowded : room / 2 < count → (r : RunAnswer) → r ≡ run_under (verdict parser t ⊳ Err (refusal 9 Neither 0)) [] → RanSpans parser mode t scalars classes clusters cells r scalars classes clusters cells
  ran_crowded h r er = record { base = (go (verdict parser t) v (crowds h) er).0; left = (go (verdict parser t) v (crowds h) er).1 }
    where
      go : (w u : Verdict) → u ≡ w ⊳ Err (refusal 9 Neither 0) → r ≡ run_under (w ⊳ Err (refusal 9 Neither 0)) [] → Ran u calls scalars classes clusters r scalars classes clusters × (cells ≡ lefts u (columns_of t.records.scalars stream 0 calls) cells)
      go (Ok _) u eu er = rw eu (record { answer = er; scalar = refl; class = refl; cluster = refl }, refl)
      go (Err q) u eu er = rw eu (record { answer = er; scalar = refl; class = refl; cluster = refl }, refl)

  -- Else the run is segment's own.
  enough : verdict parser t ≡ Ok tt → count ≤ room / 2 → 2 * length stream ≤ shortest_of cells
  enough ok h = subst (λ (b : ℕ). 2 * length stream ≤ b) roomed (half_enough room count (length stream) h (number ok))

  suffices : count ≤ room / 2 → v ≡ run_verdict parser mode t (shortest scalars classes clusters)
  unfolding run_verdict
  suffices h = go (verdict parser t) refl
    where
      same : (a b m : ℕ) → m ≤ b → ltb (min a b) m ≡ ltb a m
      same a b m k = by_test (ltb a m)
          (λ z. lt-ltb (min a b) m (omega (arith, ltb-true a m z)) ∙ sym z)
          (λ z. le-ltb (min a b) m (omega (arith, ltb-false a m z)) ∙ sym z)

      go : (w : Verdict) → verdict parser t ≡ w → w ⊳ room_for (length stream) (min (shortest scalars classes clusters) (shortest_of cells)) ≡ w ⊳ room_for (length stream) (shortest scalars classes clusters)
      go (Err q) ok = refl
      go (Ok _) ok = ap (λ b. refuse b 9 Neither 0) (same (shortest scalars classes clusters) (shortest_of cells) (2 * length stream) (enough ok h))

  module _ (h : count ≤ room / 2) (r : RunAnswer) (scalars' classes' clusters' : List ℕ) (ran : RanOf parser mode t scalars classes clusters r scalars' classes' clusters') where
    base_is : Ran v calls scalars classes clusters r scalars' classes' clusters'
    base_is = subst (λ (u : Verdict). Ran u calls scalars classes clusters r scalars' classes' clusters') (sym (suffices h)) ran

    -- no cluster: a refusal, or no token, and nothing to write
    pub ran_none : r.clusters ≡ 0 → RanSpans parser mode t scalars classes clusters cells r scalars' classes' clusters' cells
    unfolding spans_in starts_in ends_in
    ran_none z = record { base = base_is; left = go v base_is }
      where
        empty : calls ≡ [] → cells ≡ lefts (Ok tt) (columns_of t.records.scalars stream 0 calls) cells
        empty z = subst (λ ps. cells ≡ lefts (Ok tt) (columns_of t.records.scalars stream 0 ps) cells) (sym z) refl

        go : (u : Verdict) → Ran u calls scalars classes clusters r scalars' classes' clusters' → cells ≡ lefts u (columns_of t.records.scalars stream 0 calls) cells
        go (Err q) w = refl
        go (Ok _) w = empty (none_left calls (sym (ap (λ (a : RunAnswer). a.clusters) w.answer) ∙ z))

    is_accepted : (r.clusters ≡ 0 → ⊥) → v ≡ Ok tt
    is_accepted z = go v base_is refl
      where
        go : (u : Verdict) → Ran u calls scalars classes clusters r scalars' classes' clusters' → v ≡ u → v ≡ Ok tt
        go (Ok _) w k = k
        go (Err q) w k = absurd (z (ap (λ (a : RunAnswer). a.clusters) w.answer))

    check_accepted : v ≡ Ok tt → verdict parser t ≡ Ok tt
    unfolding run_verdict
    check_accepted ok = go (verdict parser t) refl ok
      where
        go : (w : Verdict) → verdict parser t ≡ w → w ⊳ room_for (length stream) (min (shortest scalars classes clusters) (shortest_of cells)) ≡ Ok tt → verdict parser t ≡ Ok tt
        go (Ok _) q k = q
        go (Err x) q k = absurd (let z : ◌≡◌ {A = ℕ} 0 1 = cc in omega arith)

    pub ran_roomy : (r.clusters ≡ 0 → ⊥) → RoomyIn parser mode t most_tokens cells
    ran_roomy z =
        let ok : verdict parser t ≡ (Ok tt) = check_accepted (is_accepted z) in
        let held : Streamed mode parser t = streamed mode parser t ok in
        record { streamed = held; fits = held.room; roomy = record { short = held.room; room = enough ok h } }

    pub ran_filled : (r.clusters ≡ 0 → ⊥) → (cells' : Columns) → cells' ≡ lefts (Ok tt) (columns_of t.records.scalars stream 0 calls) cells → RanSpans parser mode t scalars classes clusters cells r scalars' classes' clusters' cells'
    ran_filled z cells' f = record { base = base_is; left = f ∙ ap (λ (u : Verdict). lefts u (columns_of t.records.scalars stream 0 calls) cells) (sym (is_accepted z)) }
