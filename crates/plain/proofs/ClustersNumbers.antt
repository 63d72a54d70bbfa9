-- What a full run writes to its third column on a plain text: for each pushed character the number of UAX #29's cluster that its
-- record is in. Assumes nothing.
use Rattle.std.specs.Prelude.{Ok}
use Prim.Native.Nat.{ℕ, zero, suc, ◌+◌, ◌-◌, ◌<◌, ◌≤◌}
use mathlib.Core.Path.{◌≡◌, refl, sym, ◌∙◌, ap, subst}
use mathlib.Core.Bool.{true, false}
use mathlib.Core.List.{List, [], ◌∷◌, ◌++◌, map}
use native.Mathlib.Omega.{arith}
use lib.Dec.{ltb}
use lib.ListN.{length, take}
use borrow.Author.Tests.{ltb-true, ne_eqb}
use Rattle.basics.specs.Sets.{every}
use Rattle.basics.proofs.Tests.{by_test, both}
use Rattle.classes.specs.declared.Mode.{Mode}
use Rattle.classes.specs.declared.Mode.TheVariants.{Crate, Whole}
use Rattle.records.specs.Text.{Text}
use Rattle.records.specs.Refusals.{verdict}
use Rattle.records.specs.declared.Parser.TheVariants.{Simple}
use Rattle.token.specs.Token.{index_of}
use Rattle.stream.specs.Stream.{stream_of}
use Rattle.parse.specs.declared.Parse.{Parse}
use Rattle.parse.specs.declared.Pushed.{Pushed}
use Rattle.parse.specs.declared.Cluster.{Cluster}
use Rattle.parse.specs.State.{token_at, place_of, cluster_of}
use Rattle.parse.specs.Cover.{Covers, pushed}
use Rattle.parse.proofs.Covered.{cover_count}
use Rattle.segment.specs.Calls.{called}
use Rattle.segment.specs.Runs.{calls_from, column_of, cluster_in, RanOf}
use Rattle.segment.specs.Repeats.{repeated}
use Rattle.segment.specs.declared.RunAnswer.{RunAnswer}
use Rattle.segment.proofs.Progress.{progress}
use Rattle.segment.proofs.CallTurns.{call_within}
use Rattle.segment.proofs.Coverage.{accepted_short}
use Rattle.segment.proofs.Repeats.{call_once}
use Rattle.segment.proofs.Demands.{run_writes}
use Rattle.uax29.specs.Clusters.{boundary_at}
use Rattle.plain.specs.Clusters.{plain_at, all_short, is_plain, simple_calls, number_at, numbers_of}
use Rattle.plain.proofs.ClustersNeighbours.{Columns}
use Rattle.plain.proofs.ClustersAfter.{Joined}
use Rattle.plain.proofs.ClustersCall.{Shows}
use Rattle.plain.proofs.ClustersPlain.{stream_length, stream_shows, stream_index, plain_columns, starts_at_0, call_plain, calls_more, calls_none, calls_over}

module _ (breaks marks : List ℕ) where
  -- where no boundary stands the number stays
  number_stays : (d i : ℕ) → Joined (boundary_at breaks marks) i (i + d + 1) → number_at breaks marks (i + d) ≡ number_at breaks marks i
  unfolding number_at
  number_stays zero i j = let e : i + 0 ≡ i = omega arith in ap (number_at breaks marks) e
  number_stays (suc d) i j =
      let e : i + suc d ≡ suc (i + d) = omega arith in
      ap (number_at breaks marks) e ∙ rw (j (suc (i + d)) (omega arith) (omega arith)) (number_stays d i (λ k l h. j k l (omega arith)))

  -- and a boundary is one more
  number_next : (i : ℕ) → boundary_at breaks marks (suc i) ≡ true → number_at breaks marks (suc i) ≡ number_at breaks marks i + 1
  unfolding number_at
  number_next i e = rw e

  module _ (from to : ℕ) (passes : from < to) (joined : Joined (boundary_at breaks marks) from to) where
    number_within : (j : ℕ) → from ≤ j → j < to → number_at breaks marks j ≡ number_at breaks marks from
    number_within j l h =
        let e : from + (j - from) ≡ j = omega arith in
        ap (number_at breaks marks) (sym e) ∙ number_stays (j - from) from (λ k a d. joined k a (omega arith))

    number_after : boundary_at breaks marks to ≡ true → number_at breaks marks to ≡ number_at breaks marks from + 1
    number_after e =
        let s : to ≡ suc (to - 1) = omega arith in
        ap (number_at breaks marks) s ∙ number_next (to - 1) (subst (λ i. boundary_at breaks marks i ≡ true) s e)
        ∙ ap (λ n. n + 1) (number_within (to - 1) (omega arith) (omega arith))

-- the characters of one call, whose tokens lie between two places
same_numbers : (look : ℕ → ℕ) (number : ℕ → ℕ) (k : ℕ) (cs : List Pushed) (from to : ℕ) → Covers look from cs to → ((j : ℕ) → from ≤ j → j < to → (index_of (look j) ≡ j) × (number j ≡ k)) → map (cluster_in k) cs ≡ map (λ (c : Pushed). number c.index) cs
same_numbers look number k [] from to e f = refl
same_numbers look number k (c ∷ cs) from to e f =
    let n : from + 1 + c.noted + (length cs + _) ≡ to = cover_count look cs (from + 1 + c.noted) to e.1 in
    let here = f from (omega arith) (omega arith) in
    let i : c.index ≡ from = e.0.1 ∙ here.0 in
    let same : k ≡ number c.index = sym (ap number i ∙ here.1) in
    ap (λ x. x ∷ map (cluster_in k) cs) same
    ∙ ap (λ xs. number c.index ∷ xs) (same_numbers look number k cs (from + 1 + c.noted) to e.1 (λ j l h. f j (omega arith) h))

module _ (mode : Mode) (stream breaks marks : List ℕ) (short : length stream ≤ 65535) (shows : Shows stream breaks marks) (plain : Columns breaks marks) (index : (i : ℕ) → i < length stream → index_of (token_at stream i) ≡ i) where
  -- a cluster of fewer than 32 repeats no token, so its characters are the tokens of its call
  covers : (at : ℕ) → at < length stream → (called Simple mode stream at).len < 32 → Covers (token_at stream) at (pushed (called Simple mode stream at)) (place_of stream (called Simple mode stream at))
  covers at i small = call_once Simple stream short at i mode (none mode (cluster_of (called Simple mode stream at)) small)
    where
      none : (m : Mode) (c : Cluster) → c.len < 32 → repeated m Simple stream at c ≡ false
      none Crate c h = ne_eqb c.len 32 (λ e. absurd (omega arith))
      none Whole c h = refl

  numbers_are : (n at k : ℕ) → (at < length stream → (boundary_at breaks marks at ≡ true) × (number_at breaks marks at ≡ k)) → all_short (calls_from Simple mode stream n at) ≡ true → column_of cluster_in k (calls_from Simple mode stream n at) ≡ numbers_of breaks marks (calls_from Simple mode stream n at)
  unfolding column_of numbers_of all_short
  numbers_are zero at k s e = subst (λ ps. column_of cluster_in k ps ≡ numbers_of breaks marks ps) (sym (calls_none mode stream 0 at)) refl
  numbers_are (suc n) at k s e = by_test (ltb at (length stream))
      (λ q. let p : Parse = called Simple mode stream at in
      let to : ℕ = place_of stream p in
      let i : at < length stream = ltb-true at (length stream) q in
      let more = calls_more mode stream n at q in
      let less = both (ltb p.len 32) _ (subst (λ ps. all_short ps ≡ true) more e) in
      let small : p.len < 32 = ltb-true p.len 32 less.0 in
      let ends = call_plain mode stream breaks marks short shows plain at i (s i).0 small in
      let passes : at < to = progress Simple mode stream short at i in
      let within : to ≤ length stream = call_within Simple mode stream short at i in
      let these : map (cluster_in k) (pushed p) ≡ map (λ (c : Pushed). number_at breaks marks c.index) (pushed p) =
      same_numbers (token_at stream) (number_at breaks marks) k (pushed p) at to
      (covers at i small)
      (λ j l h. (index j (omega arith), number_within breaks marks at to passes ends.0 j l h ∙ (s i).1)) in
      let those : column_of cluster_in (k + 1) (calls_from Simple mode stream n to) ≡ numbers_of breaks marks (calls_from Simple mode stream n to) =
      numbers_are n to (k + 1) (λ h. (ends.1 h, number_after breaks marks at to passes ends.0 (ends.1 h) ∙ ap (λ x. x + 1) (s i).1)) less.1 in
      subst (λ ps. column_of cluster_in k ps ≡ numbers_of breaks marks ps) (sym more)
      (ap (λ xs. xs ++ column_of cluster_in (k + 1) (calls_from Simple mode stream n to)) these
      ∙ ap (λ xs. map (λ (c : Pushed). number_at breaks marks c.index) (pushed p) ++ xs) those))
      (λ q. subst (λ ps. column_of cluster_in k ps ≡ numbers_of breaks marks ps) (sym (calls_over mode stream n at q)) refl)

-- The cluster numbers of a run, from 0, are those of UAX #29's clusters.
pub numbers_plain : (mode : Mode) (t : Text) → verdict Simple t ≡ Ok tt → is_plain mode t ≡ true → column_of cluster_in 0 (simple_calls mode t) ≡ numbers_of t.records.breaks t.records.semojis (simple_calls mode t)
unfolding is_plain number_at
numbers_plain mode t accepted plain =
    let stream : List ℕ = stream_of mode Simple t in
    let breaks : List ℕ = t.records.breaks in
    let marks : List ℕ = t.records.semojis in
    let told = both (every (plain_at breaks marks) (length breaks)) _ plain in
    let size : length stream ≡ length breaks = stream_length mode t accepted in
    numbers_are mode stream breaks marks (accepted_short mode Simple t accepted) (stream_shows mode t accepted) (plain_columns breaks marks told.0)
    (λ i h. stream_index mode t accepted i (omega arith)) (length stream) 0 0 (λ h. (starts_at_0 breaks marks (omega arith), refl)) told.1

-- So the third lent column of every full run over a plain text holds them.
pub run_plain : (mode : Mode) (t : Text) (scalars classes clusters : List ℕ) (r : RunAnswer) (scalars' classes' clusters' : List ℕ) → RanOf Simple mode t scalars classes clusters r scalars' classes' clusters' → verdict Simple t ≡ Ok tt → r.verdict ≡ Ok tt → is_plain mode t ≡ true → take r.characters clusters' ≡ numbers_of t.records.breaks t.records.semojis (simple_calls mode t)
run_plain mode t scalars classes clusters r scalars' classes' clusters' ran accepted v plain =
    (run_writes Simple mode t scalars classes clusters r scalars' classes' clusters' ran v).4 ∙ numbers_plain mode t accepted plain
