-- The sentences of SCOPE 12.7 as theorems, over the public answers. Assumes nothing.
use Rattle.std.specs.Prelude.{Ok, Err}
use Prim.Native.Nat.{ℕ, zero, suc, ◌+◌, ◌-◌, ◌<◌, ◌≤◌, min}
use mathlib.Core.Path.{◌≡◌, refl, sym, ◌∙◌, ap, subst}
use mathlib.Core.Bool.{Bool, true, false, cond}
use mathlib.Core.List.{List, [], ◌∷◌, ◌++◌, map}
use mathlib.Core.Logic.{inl, inr, ⊎_elim}
use native.Mathlib.Omega.{arith}
use lib.Dec.{ltb}
use lib.ListN.{length, take, get_or}
use borrow.Author.Tests.{ltb-true, ltb-false}
use Rattle.basics.proofs.Tests.{by_test, if_intro}
use Rattle.classes.specs.declared.Mode.{Mode}
use Rattle.classes.specs.declared.Mode.TheVariants.{Crate, Whole}
use Rattle.records.specs.Text.{Text}
use Rattle.records.specs.Refusals.{◌⊳◌, verdict, is_complex}
use Rattle.records.specs.Offences.{table_of, ByTable, Asks}
use Rattle.records.specs.declared.Parser.{Parser}
use Rattle.records.specs.declared.Side.TheVariants.{Neither}
use Rattle.records.specs.declared.Refusal.{Refusal}
use Rattle.records.specs.Verdict.{Verdict}
use Rattle.records.proofs.Unique.{unique}
use Rattle.records.proofs.Tables.{first_line}
use Rattle.records.proofs.Judged.{alone, call_by_table}
use Rattle.stream.specs.Stream.{stream_of, gives}
use Rattle.stream.proofs.Alone.{NoneAlone, given_index, streams_same}
use Rattle.parse.specs.declared.Parse.{Parse}
use Rattle.parse.specs.declared.Pushed.{Pushed}
use Rattle.parse.specs.declared.Cluster.{Cluster}
use Rattle.parse.specs.State.{token_at, place_of, cluster_of, empty_cluster}
use Rattle.parse.specs.Cover.{IsOf, Covers, pushed, characters_of}
use Rattle.segment.specs.declared.Segmenter.{Segmenter}
use Rattle.segment.specs.declared.What.TheVariants.{Found}
use Rattle.segment.specs.declared.RunAnswer.{RunAnswer}
use Rattle.segment.specs.Calls.{next_of, called, found, end}
use Rattle.segment.specs.Met.{room_line}
use Rattle.segment.specs.Runs.{calls_from, calls_of, shortest, room_for, run_verdict, Ran}
use Rattle.segment.specs.Repeats.{repeated, unrepeated}
use Rattle.segment.proofs.CallLaws.{streamed}
use Rattle.segment.proofs.Progress.{progress}
use Rattle.segment.proofs.CallTurns.{call_within, call_length}
use Rattle.segment.proofs.Coverage.{tokens, accepted_short, call_some}
use Rattle.segment.proofs.Repeats.{call_unrepeated}
use Rattle.segment.proofs.Refusals.{under_verdict}
use Rattle.segment.proofs.Demands.{at, is_found, step_ends, step_keeps, step_distance, step_passes, step_once, step_some}
use Rattle.spans.specs.declared.SpanAnswer.{SpanAnswer}
use Rattle.spans.specs.Offsets.{offset_of, length_of, end_of}
use Rattle.spans.specs.Spans.{record_at, span_of, spans_from, start_of, end_from, celled, spans_of, spanned}
use Rattle.spans.specs.Runs.{Columns, columns_of, lefts, shortest_of, spans_in, starts_in, ends_in, RanSpans}
use Rattle.spans.specs.Joined.{span_answers, Stretch, stretches, character_stretches, cluster_stretches, once_in, once_stretches, all_spans, start_in, end_in, Joins, Meets, MeetsOrShares}
use Rattle.spans.proofs.Counting.{offset_next, offset_most}
use Rattle.spans.proofs.Along.{spans_length}
use Rattle.spans.proofs.Steps.{no_spans, none_spanned}
use Rattle.spans.proofs.Filling.{celled_first}
use Rattle.spans.proofs.Climbs.{Follows, Comes, Climbs, behind_from, climbs_at, climbs_end, climbs_within, climbs_rise, whole_climbs, unsplit_climbs}
use Rattle.spans.proofs.Joining.{joins_append, bytes_before, spans_join, end_some, start_some}

-- # All answers of an accepted text

-- the spans of the first n characters are the first n spans
take_spans : (scalars stream : List ℕ) (n p : ℕ) (cs : List Pushed) → take n (spans_from scalars stream p cs) ≡ spans_from scalars stream p (take n cs)
unfolding spans_from
take_spans scalars stream zero p cs = refl
take_spans scalars stream (suc n) p [] = refl
take_spans scalars stream (suc n) p (c ∷ cs) = ap (λ ss. span_of scalars stream p c ∷ ss) (take_spans scalars stream n (p + 1 + c.noted) cs)

take_fewer : {A : Type 0} (n m : ℕ) (l : List A) → n ≤ m → take n (take m l) ≡ take n l
take_fewer zero m l h = refl
take_fewer (suc n) zero l h = absurd (omega arith)
take_fewer (suc n) (suc m) [] h = refl
take_fewer (suc n) (suc m) (x ∷ l) h = ap (λ xs. x ∷ xs) (take_fewer n m l (omega arith))

module _ (parser : Parser) (mode : Mode) (t : Text) (accepted : verdict parser t ≡ Ok tt) where
  abbrev stream : List ℕ
  stream = stream_of mode parser t

  abbrev scalars : List ℕ
  scalars = t.records.scalars

  abbrev short : length stream ≤ 65535
  short = accepted_short mode parser t accepted

  abbrev few : length scalars ≤ 4096
  few = (streamed mode parser t accepted).few

  -- the answers of all calls, from the start to the end
  abbrev pub all : List SpanAnswer
  all = span_answers (length stream) (at parser mode 0) t

  -- how many bytes the text has
  abbrev pub bytes : ℕ
  bytes = offset_of scalars (length scalars)

  -- the first n spans of a call's cells
  first_spans : (n place : ℕ) → place < length stream → n ≤ (called parser mode stream place).len →
      take n (spans_of scalars stream place (cluster_of (called parser mode stream place))).chars ≡ spans_from scalars stream place (take n (pushed (called parser mode stream place)))
  unfolding spans_of
  first_spans n place i h =
      let p : Parse = called parser mode stream place in
      let m : length (spans_from scalars stream place (pushed p)) ≡ p.len = spans_length scalars stream place (pushed p) ∙ call_length parser mode stream short place i in
      sym (take_fewer n p.len (celled (spans_from scalars stream place (pushed p))) h)
      ∙ ap (take n) (celled_first (spans_from scalars stream place (pushed p)) p.len m)
      ∙ take_spans scalars stream n place (pushed p)

  -- What joins in the stream joins in the answers: `Next` says how a token's record may follow.
  module _ (Next : ℕ → ℕ → Type 0)
      (next : (p : ℕ) → p < length stream → Next (bytes_before scalars stream p) (offset_of scalars (record_at stream p)))
      (rises : (p k : ℕ) → p + k < length stream → record_at stream p ≤ record_at stream (p + k)) where
    abbrev once_of : ℕ → List Stretch
    once_of place = stretches (take (once_in mode parser stream place (cluster_of (called parser mode stream place))) (spans_of scalars stream place (cluster_of (called parser mode stream place))).chars)

    once_call : (place : ℕ) → place < length stream → Joins Next (bytes_before scalars stream place)
        (once_of place)
        (bytes_before scalars stream (place_of stream (called parser mode stream place)))
    once_call place i =
        let p : Parse = called parser mode stream place in
        let b : Bool = repeated mode parser stream place (cluster_of p) in
        let n : ℕ = cond b (p.len - 1) p.len in
        let few : n ≤ p.len = if_intro (λ (k : ℕ). k ≤ p.len) b _ _ (λ e. omega arith) (λ e. omega arith) in
        let cut : take n (pushed p) ≡ unrepeated mode parser stream place (cluster_of p) = cut_is b p.len p.chars in
        subst (λ ss. Joins Next (bytes_before scalars stream place) (stretches ss) (bytes_before scalars stream (place_of stream p))) (sym (first_spans n place i few ∙ ap (spans_from scalars stream place) cut))
        (spans_join scalars stream Next next rises (unrepeated mode parser stream place (cluster_of p)) place (place_of stream p) (call_unrepeated parser stream short place i mode) (call_within parser mode stream short place i))
      where
        cut_is : (b : Bool) (n : ℕ) (cs : List Pushed) → take (cond b (n - 1) n) (take n cs) ≡ cond b (take (n - 1) cs) (take n cs)
        cut_is true n cs = take_fewer (n - 1) n cs (omega arith)
        cut_is false n cs = take_fewer n n cs (omega arith)

    once_join : (n place : ℕ) → place ≤ length stream → length stream ≤ place + n →
        Joins Next (bytes_before scalars stream place) (once_stretches mode parser stream place (span_answers n (at parser mode place) t)) (bytes_before scalars stream (length stream))
    unfolding span_answers once_stretches spanned found end
    once_join zero place h l = let e : place ≡ length stream = omega arith in ap (bytes_before scalars stream) e
    once_join (suc n) place h l = by_test (ltb place (length stream))
        (λ e. let i : place < length stream = ltb-true place (length stream) e in
        let p : Parse = called parser mode stream place in
        rw (is_found (at parser mode place) t accepted i)
        (joins_append Next (once_of place) (once_stretches mode parser stream (place_of stream p) (span_answers n (at parser mode (place_of stream p)) t)) (bytes_before scalars stream place) (bytes_before scalars stream (place_of stream p)) (bytes_before scalars stream (length stream)) (once_call place i) (once_join n (place_of stream (called parser mode stream place)) (call_within parser mode stream short place i) (omega (arith, progress parser mode stream short place i)))))
        (λ e. let i : place ≡ length stream = omega (arith, ltb-false place (length stream) e) in
        rw (step_ends (at parser mode place) t accepted i) (ap (bytes_before scalars stream) i))

    -- the clusters, where nothing is repeated
    clusters_join : ((place : ℕ) → place < length stream → repeated mode parser stream place (cluster_of (called parser mode stream place)) ≡ false) → (n place : ℕ) → place ≤ length stream → length stream ≤ place + n →
        Joins Next (bytes_before scalars stream place) (cluster_stretches (span_answers n (at parser mode place) t)) (bytes_before scalars stream (length stream))
    unfolding span_answers cluster_stretches spanned found end spans_of
    clusters_join none zero place h l = let e : place ≡ length stream = omega arith in ap (bytes_before scalars stream) e
    clusters_join none (suc n) place h l = by_test (ltb place (length stream))
        (λ e. let i : place < length stream = ltb-true place (length stream) e in
        let p : Parse = called parser mode stream place in
        let covers : Covers (token_at stream) place (pushed p) (place_of stream p) = rw (none place i) at (call_unrepeated parser stream short place i mode) in
        let some : 0 < length (pushed p) = call_some parser mode stream short place i in
        rw (is_found (at parser mode place) t accepted i, start_some scalars stream (pushed p) place (place_of stream p) some covers, end_some scalars stream (pushed p) 0 place (place_of stream p) some covers)
        (next place i, clusters_join none n (place_of stream p) (call_within parser mode stream short place i) (omega (arith, progress parser mode stream short place i))))
        (λ e. let i : place ≡ length stream = omega (arith, ltb-false place (length stream) e) in
        rw (step_ends (at parser mode place) t accepted i) (ap (bytes_before scalars stream) i))

  -- in whole mode nothing is repeated
  none_whole : mode ≡ Whole → (place : ℕ) (c : Cluster) → repeated mode parser stream place c ≡ false
  none_whole w place c = go mode w
    where
      go : (m : Mode) → m ≡ Whole → repeated m parser stream place c ≡ false
      go Whole e = refl
      go Crate e = absurd (let z : ◌≡◌ {A = ℕ} 0 1 = cc in omega arith)

  once_whole : mode ≡ Whole → (place : ℕ) (later : List SpanAnswer) → once_stretches mode parser stream place later ≡ character_stretches later
  unfolding once_stretches character_stretches
  once_whole w place [] = refl
  once_whole w place (a ∷ later) = rw (none_whole w place a.answer.cluster) (ap (λ xs. stretches (take a.answer.cluster.len a.spans.chars) ++ xs) (once_whole w a.answer.state.place.at later))

  -- # Simple and Myanmar

  module _ (unsplit : is_complex parser ≡ false) where
    climbs : Climbs Comes 0 stream (length scalars)
    climbs = unsplit_climbs mode parser t few unsplit

    comes_up : (r i : ℕ) → Comes r i → r ≤ i + 1
    comes_up r i e = omega arith

    meets : (p : ℕ) → p < length stream → Meets (bytes_before scalars stream p) (offset_of scalars (record_at stream p))
    meets p h = ap (offset_of scalars) (sym (climbs_at Comes stream 0 (length scalars) p climbs h))

    rise : (p k : ℕ) → p + k < length stream → record_at stream p ≤ record_at stream (p + k)
    rise p k h = climbs_rise Comes comes_up stream 0 (length scalars) p k climbs h

    covered : bytes_before scalars stream (length stream) ≡ bytes
    covered = ap (offset_of scalars) (climbs_end Comes stream 0 (length scalars) climbs)

    -- In both modes, "once the repeats are struck out, the spans join without gap or overlap and cover the text".
    pub once_covers : Joins Meets 0 (once_stretches mode parser stream 0 all) bytes
    unfolding offset_of
    once_covers = subst (λ (k : ℕ). Joins Meets 0 (once_stretches mode parser stream 0 all) k) covered (once_join Meets meets rise (length stream) 0 (omega arith) (omega arith))

    -- "In whole mode, for simple and Myanmar, the spans join without gap or overlap and cover the text": those of the characters and their
    -- notes, and those of the clusters.
    pub spans_cover : mode ≡ Whole → Joins Meets 0 (character_stretches all) bytes
    spans_cover w = subst (λ xs. Joins Meets 0 xs bytes) (once_whole w 0 all) once_covers

    pub clusters_cover : mode ≡ Whole → Joins Meets 0 (cluster_stretches all) bytes
    unfolding offset_of
    clusters_cover w = subst (λ (k : ℕ). Joins Meets 0 (cluster_stretches all) k) covered
        (clusters_join Meets meets rise (λ place i. none_whole w place (cluster_of (called parser mode stream place))) (length stream) 0 (omega arith) (omega arith))

  -- # Complex

  -- every parser, where its tokens are those of whole mode
  module _ (same : stream_of mode parser t ≡ stream_of Whole parser t) where
    follows : Climbs Follows 0 stream (length scalars)
    follows = subst (λ l. Climbs Follows 0 l (length scalars)) (sym same) (whole_climbs Whole parser t few refl)

    follows_up : (r i : ℕ) → Follows r i → r ≤ i + 1
    follows_up r i f = ⊎_elim (λ (e : i ≡ r). omega arith) (λ (e : i + 1 ≡ r). omega arith) f

    shares : (p : ℕ) → p < length stream → MeetsOrShares scalars (bytes_before scalars stream p) (offset_of scalars (record_at stream p))
    shares p h = ⊎_elim
        (λ (e : record_at stream p ≡ behind_from 0 stream p). inl (ap (offset_of scalars) (sym e)))
        (λ (e : record_at stream p + 1 ≡ behind_from 0 stream p). inr (record_at stream p, (climbs_within Follows follows_up stream 0 (length scalars) p follows h, (refl, ap (offset_of scalars) (sym e) ∙ offset_next scalars (record_at stream p)))))
        (climbs_at Follows stream 0 (length scalars) p follows h)

    rise_on : (p k : ℕ) → p + k < length stream → record_at stream p ≤ record_at stream (p + k)
    rise_on p k h = climbs_rise Follows follows_up stream 0 (length scalars) p k follows h

    ends_all : bytes_before scalars stream (length stream) ≡ bytes
    ends_all = ap (offset_of scalars) (climbs_end Follows stream 0 (length scalars) follows)

    -- "once the repeats are struck out"
    pub once_shares : Joins (MeetsOrShares scalars) 0 (once_stretches mode parser stream 0 all) bytes
    unfolding offset_of
    once_shares = subst (λ (k : ℕ). Joins (MeetsOrShares scalars) 0 (once_stretches mode parser stream 0 all) k) ends_all (once_join (MeetsOrShares scalars) shares rise_on (length stream) 0 (omega arith) (omega arith))

    clusters_share_on : ((place : ℕ) (c : Cluster) → repeated mode parser stream place c ≡ false) → Joins (MeetsOrShares scalars) 0 (cluster_stretches all) bytes
    unfolding offset_of
    clusters_share_on none = subst (λ (k : ℕ). Joins (MeetsOrShares scalars) 0 (cluster_stretches all) k) ends_all
        (clusters_join (MeetsOrShares scalars) shares rise_on (λ place i. none place (cluster_of (called parser mode stream place))) (length stream) 0 (omega arith) (omega arith))

  -- "for complex two neighbours may share one record": in whole mode each span begins where the last one ended, or with the record that the
  -- last one ended with; so there is no gap, and the text is covered.
  pub spans_share : mode ≡ Whole → Joins (MeetsOrShares scalars) 0 (character_stretches all) bytes
  spans_share w = subst (λ xs. Joins (MeetsOrShares scalars) 0 xs bytes) (once_whole w 0 all) (once_shares (ap (λ (m : Mode). stream_of m parser t) w))

  pub clusters_share : mode ≡ Whole → Joins (MeetsOrShares scalars) 0 (cluster_stretches all) bytes
  clusters_share w = clusters_share_on (ap (λ (m : Mode). stream_of m parser t) w) (none_whole w)

  -- In crate mode the same "once the repeats are struck out", where no marked record is without parts.
  pub crate_shares : mode ≡ Crate → NoneAlone parser t → Joins (MeetsOrShares scalars) 0 (once_stretches mode parser stream 0 all) bytes
  crate_shares m f = once_shares (ap (λ (k : Mode). stream_of k parser t) m ∙ streams_same t parser f)

  -- "Offsets go to 16,384."
  pub bytes_most : bytes ≤ 16384
  bytes_most = omega (arith, offset_most scalars (length scalars), few)

  -- # The full run is the stepping calls

  run_answers : (n place : ℕ) → place ≤ length stream →
      (spans_in scalars stream place (calls_from parser mode stream n place) ≡ all_spans (span_answers n (at parser mode place) t))
      × ((starts_in scalars (calls_from parser mode stream n place) ≡ map start_in (span_answers n (at parser mode place) t))
      × (ends_in scalars stream place (calls_from parser mode stream n place) ≡ map end_in (span_answers n (at parser mode place) t)))
  unfolding calls_from span_answers spans_in starts_in ends_in all_spans spanned spans_of found end
  run_answers zero place h = (refl, (refl, refl))
  run_answers (suc n) place h = by_test (ltb place (length stream))
      (λ e. let i : place < length stream = ltb-true place (length stream) e in
      let p : Parse = called parser mode stream place in
      let later = run_answers n (place_of stream p) (call_within parser mode stream short place i) in
      let own : take p.len (spans_of scalars stream place (cluster_of p)).chars ≡ spans_from scalars stream place (pushed p) =
      first_spans p.len place i (omega arith) ∙ ap (spans_from scalars stream place) (take_fewer p.len p.len p.chars (omega arith)) in
      rw (e, is_found (at parser mode place) t accepted i) (
        ap (λ ss. spans_from scalars stream place (pushed p) ++ ss) later.0 ∙ ap (λ ss. ss ++ all_spans (span_answers n (at parser mode (place_of stream p)) t)) (sym own),
        (ap (λ xs. start_of scalars (pushed p) ∷ xs) later.1.0, ap (λ xs. end_from scalars stream 0 place (pushed p) ∷ xs) later.1.1),
      ))
      (λ e. let i : place ≡ length stream = omega (arith, ltb-false place (length stream) e) in
      rw (e, step_ends (at parser mode place) t accepted i) (refl, (refl, refl)))

  -- What a full run writes into the six columns is what the stepping calls hand out.
  pub run_spans : (spans_in scalars stream 0 (calls_of parser mode stream) ≡ all_spans all) × ((starts_in scalars (calls_of parser mode stream) ≡ map start_in all) × (ends_in scalars stream 0 (calls_of parser mode stream) ≡ map end_in all))
  run_spans = run_answers (length stream) 0 (omega arith)

-- # One answer

-- "Tokens that come from one record share its span": a character of any token that record i gives has the offset and the length of record i.
pub record_span : (mode : Mode) (parser : Parser) (t : Text) (i k : ℕ) → i < 4096 → k < length (gives mode parser t i) → (c : Pushed) → IsOf c (get_or (gives mode parser t i) k 0) →
    (scalars stream : List ℕ) (p : ℕ) → ((span_of scalars stream p c).offset ≡ offset_of scalars i) × ((span_of scalars stream p c).length ≡ length_of scalars i)
unfolding span_of
record_span mode parser t i k h l c is scalars stream p =
    let e : c.index ≡ i = is.1 ∙ given_index mode parser t i k h l in
    (ap (offset_of scalars) e, ap (length_of scalars) e)

-- "The empty cluster has 0 and 0": at the end of the text and with a refusal.
pub step_none : (s : Segmenter) (t : Text) → ((next_of s t).what ≡ Found → ⊥) → (spanned s t).spans ≡ no_spans
unfolding spanned empty_cluster
step_none s t h = sym (none_spanned t.records.scalars (tokens s t) s.place.at (next_of s t).cluster (ap (λ (c : Cluster). c.len) (step_keeps s t h).2))

-- a call on a token of an accepted text
module _ (s : Segmenter) (t : Text) (accepted : verdict s.parser t ≡ Ok tt) (inside : s.place.at < length (tokens s t)) where
  abbrev here : List ℕ
  here = t.records.scalars

  -- "an end, that of the last token it pushed or noted": where no token is repeated, the token before the next place
  pub step_end : repeated s.mode s.parser (tokens s t) s.place.at (next_of s t).cluster ≡ false →
      (spanned s t).spans.end ≡ end_of here (record_at (tokens s t) ((next_of s t).state.place.at - 1))
  unfolding spanned spans_of
  step_end none =
      let covers : Covers (token_at (tokens s t)) s.place.at (characters_of (next_of s t).cluster) (next_of s t).state.place.at = rw none at (step_once s t accepted inside) in
      let some = step_some s t accepted inside in
      let back : suc ((next_of s t).state.place.at - 1) ≡ (next_of s t).state.place.at = omega (arith, step_passes s t accepted inside, step_distance s t) in
      end_some here (tokens s t) (characters_of (next_of s t).cluster) 0 s.place.at (next_of s t).state.place.at some covers
      ∙ ap (bytes_before here (tokens s t)) (sym back) ∙ offset_next here (record_at (tokens s t) ((next_of s t).state.place.at - 1))

-- # What the contracts shut out

-- The refusals of a full run: 1 to 7 and 9, by the table, where 9 is by the shortest of the nine columns; with a refusal no column changes.
module _ (parser : Parser) (mode : Mode) (t : Text) (scalars classes clusters : List ℕ) (cells : Columns) (r : RunAnswer) (scalars' classes' clusters' : List ℕ) (cells' : Columns) (ran : RanSpans parser mode t scalars classes clusters cells r scalars' classes' clusters' cells') where
  abbrev room : ℕ
  room = min (shortest scalars classes clusters) (shortest_of cells)

  ran_verdict : r.verdict ≡ run_verdict parser mode t room
  ran_verdict = ap (λ (a : RunAnswer). a.verdict) ran.base.answer ∙ under_verdict (run_verdict parser mode t room) (calls_of parser mode (stream_of mode parser t))

  ran_lines : r.verdict ≡ verdict parser t ⊳ first_line (room_line parser mode t room ∷ []) Neither 0
  unfolding run_verdict
  ran_lines = ran_verdict ∙ ap (λ v. verdict parser t ⊳ v) (sym (alone (room_for (length (stream_of mode parser t)) room)))

  pub run_by_table : ByTable (1 ∷ 2 ∷ 3 ∷ 4 ∷ 5 ∷ 6 ∷ 7 ∷ 9 ∷ []) (table_of parser t (room_line parser mode t room ∷ [])) r.verdict × Asks parser r.verdict
  run_by_table =
      call_by_table _ parser t (room_line parser mode t room ∷ []) (record { before = refl; parts = λ i. refl; records = λ i. refl; after = refl })
      r.verdict ran_lines

  pub run_keeps : (q : Refusal) → r.verdict ≡ Err q → (cells' ≡ cells) × ((scalars' ≡ scalars) × ((classes' ≡ classes) × (clusters' ≡ clusters)))
  run_keeps q h = go (run_verdict parser mode t room) (sym ran_verdict ∙ h) ran.left ran.base
    where
      go : (v : Verdict) → v ≡ Err q → cells' ≡ lefts v (columns_of t.records.scalars (stream_of mode parser t) 0 (calls_of parser mode (stream_of mode parser t))) cells →
          Ran v (calls_of parser mode (stream_of mode parser t)) scalars classes clusters r scalars' classes' clusters' → (cells' ≡ cells) × ((scalars' ≡ scalars) × ((classes' ≡ classes) × (clusters' ≡ clusters)))
      go (Ok _) e l w = absurd (let z : ◌≡◌ {A = ℕ} 0 1 = cc in omega arith)
      go (Err p) e l w = (l, (w.scalar, (w.class, w.cluster)))

-- No two results fulfil these contracts (SCOPE 10).
pub step_unique : (s : Segmenter) (t : Text) (a b : SpanAnswer) → a ≡ spanned s t → b ≡ spanned s t → a ≡ b
step_unique s t = unique (spanned s t)

pub run_unique : (parser : Parser) (mode : Mode) (t : Text) (scalars classes clusters : List ℕ) (cells : Columns) (r q : RunAnswer) (scalars' classes' clusters' scalars'' classes'' clusters'' : List ℕ) (cells' cells'' : Columns) →
    RanSpans parser mode t scalars classes clusters cells r scalars' classes' clusters' cells' → RanSpans parser mode t scalars classes clusters cells q scalars'' classes'' clusters'' cells'' →
    (r ≡ q) × ((scalars' ≡ scalars'') × ((classes' ≡ classes'') × ((clusters' ≡ clusters'') × (cells' ≡ cells''))))
run_unique parser mode t scalars classes clusters cells r q scalars' classes' clusters' scalars'' classes'' clusters'' cells' cells'' a b =
    (unique _ r q a.base.answer b.base.answer, (unique _ scalars' scalars'' a.base.scalar b.base.scalar, (unique _ classes' classes'' a.base.class b.base.class, (unique _ clusters' clusters'' a.base.cluster b.base.cluster, unique _ cells' cells'' a.left b.left))))
