-- The six columns under way: what is written, and what is still to be. Assumes nothing.
use Rattle.std.specs.Prelude.{Ok}
use Prim.Native.Nat.{ℕ, suc, ◌+◌, ◌-◌, ◌*◌, ◌<◌, ◌≤◌}
use mathlib.Core.Path.{◌≡◌, refl, sym, ◌∙◌, ap, subst}
use mathlib.Core.List.{List, [], ◌∷◌, ◌++◌, map, map-append}
use native.Mathlib.Omega.{arith}
use native.Mathlib.Numerals.{add-one}
use lib.ListN.{length, take, drop, set, replicate, length-map, length-append, length-set, length-drop, length-take}
use lib.Seq.{sets, length-sets, take_at}
use Rattle.classes.specs.declared.Mode.{Mode}
use Rattle.records.specs.declared.Parser.{Parser}
use Rattle.parse.specs.declared.Parse.{Parse}
use Rattle.parse.specs.State.{place_of, cluster_of}
use Rattle.parse.specs.Cover.{pushed, characters_of}
use Rattle.segment.specs.Calls.{called}
use Rattle.segment.specs.Runs.{calls_at, calls_of, characters}
use Rattle.segment.proofs.Progress.{progress}
use Rattle.segment.proofs.Written.{sets_append, write_all}
use Rattle.segment.proofs.CallTurns.{call_within, call_most, call_length, call_room, calls_step, calls_end}
use Rattle.segment.proofs.Coverage.{calls_room, calls_some}
use Rattle.spans.specs.declared.offsets.Counted.{Counted}
use Rattle.spans.specs.declared.Span.{Span}
use Rattle.spans.specs.declared.Spans.{Spans}
use Rattle.spans.specs.Offsets.{offset_of}
use Rattle.spans.specs.Spans.{spans_from, start_of, first_record, end_from, no_span, celled, spans_of}
use Rattle.spans.specs.Runs.{Columns, columns_of, lefts, spans_in, starts_in, ends_in, offset_in, length_in, noffset_in, nlength_in}
use Rattle.spans.specs.Inner.{Counts, Asked, Fits, Roomy}
use Rattle.spans.proofs.Along.{spans_length}

-- # One column

-- with what is still to be written from cell w on it is the whole
abbrev pub Under : List ℕ → List ℕ → List ℕ → ℕ → List ℕ → Type 0
Under l₀ all l w left = (length l ≡ length l₀) × (sets l w left ≡ sets l₀ 0 all)

under_many : (f : Span → ℕ) (l₀ all l l' : List ℕ) (w n : ℕ) (xs left : List Span) → length xs ≡ n → Under l₀ all l w (map f (xs ++ left)) → l' ≡ sets l w (map f xs) → Under l₀ all l' (w + n) (map f left)
under_many f l₀ all l l' w n xs left m u e =
    let k : length (map f xs) ≡ n = length-map xs f ∙ m in
    let a : sets l w (map f xs ++ map f left) ≡ sets l' (w + n) (map f left) = sets_append l (map f xs) (map f left) w ∙ rw (k, e) in
    (ap length e ∙ length-sets l w (map f xs) ∙ u.0, sym a ∙ ap (sets l w) (sym (map-append f xs left)) ∙ u.1)

under_one : (l₀ all l : List ℕ) (w x : ℕ) (left : List ℕ) → Under l₀ all l w (x ∷ left) → Under l₀ all (set l w x) (w + 1) left
under_one l₀ all l w x left u = (length-set l w x ∙ u.0, ap (λ (k : ℕ). sets (set l w x) k left) (add-one w) ∙ u.1)

under_over : (l₀ all l : List ℕ) (w : ℕ) (left : List ℕ) → left ≡ [] → length all ≤ length l₀ → Under l₀ all l w left → l ≡ all ++ drop (length all) l₀
under_over l₀ all l w left e h u = ap (sets l w) (sym e) ∙ u.1 ∙ write_all l₀ all h

-- the six of them
columns_same : (o l m n s e o' l' m' n' s' e' : List ℕ) → o ≡ o' → l ≡ l' → m ≡ m' → n ≡ n' → s ≡ s' → e ≡ e' →
    ◌≡◌ {A = Columns} (record { offsets = o; lengths = l; noffsets = m; nlengths = n; starts = s; ends = e }) (record { offsets = o'; lengths = l'; noffsets = m'; nlengths = n'; starts = s'; ends = e' })
columns_same o l m n s e o' l' m' n' s' e' a b c d f g = rw (a, b, c, d, f, g)

-- # The spans in their cells

celled_length : (xs : List Span) → length xs ≤ 32 → length (celled xs) ≡ 32
celled_length xs h = length-append xs (drop (length xs) (replicate 32 no_span)) ∙ omega (arith, length-drop (length xs) (replicate 32 no_span))

pub celled_first : (xs : List Span) (n : ℕ) → length xs ≡ n → take n (celled xs) ≡ xs
celled_first xs n e = take_at xs (drop (length xs) (replicate 32 no_span)) n e

-- # What is left of a run

module _ (parser : Parser) (mode : Mode) (scalars stream : List ℕ) where
  abbrev call_at : ℕ → Parse
  call_at at = called parser mode stream at

  abbrev spans_left : ℕ → List Span
  spans_left at = spans_in scalars stream at (calls_at parser mode stream at)

  abbrev starts_left : ℕ → List ℕ
  starts_left at = starts_in scalars (calls_at parser mode stream at)

  abbrev ends_left : ℕ → List ℕ
  ends_left at = ends_in scalars stream at (calls_at parser mode stream at)

  spans_in_length : (at : ℕ) (ps : List Parse) → length (spans_in scalars stream at ps) ≡ characters ps
  unfolding spans_in characters
  spans_in_length at [] = refl
  spans_in_length at (p ∷ ps) = length-append (spans_from scalars stream at (pushed p)) _ ∙ omega (arith, spans_length scalars stream at (pushed p), spans_in_length (place_of stream p) ps)

  starts_length : (ps : List Parse) → length (starts_in scalars ps) ≡ length ps
  unfolding starts_in
  starts_length [] = refl
  starts_length (p ∷ ps) = ap suc (starts_length ps)

  ends_length : (at : ℕ) (ps : List Parse) → length (ends_in scalars stream at ps) ≡ length ps
  unfolding ends_in
  ends_length at [] = refl
  ends_length at (p ∷ ps) = ap suc (ends_length (place_of stream p) ps)

  -- the columns with k clusters and w characters written, and the bytes counted up to some record
  pub record Filling (cells₀ cells : Columns) (along : Counted) (at k w : ℕ) : Type 0 where
    pub inside : at ≤ length stream
    pub few : k ≤ at
    pub room : w ≤ 2 * at
    pub counts : Counts scalars along
    pub offset : Under cells₀.offsets (map offset_in (spans_left 0)) cells.offsets w (map offset_in (spans_left at))
    pub length : Under cells₀.lengths (map length_in (spans_left 0)) cells.lengths w (map length_in (spans_left at))
    pub noffset : Under cells₀.noffsets (map noffset_in (spans_left 0)) cells.noffsets w (map noffset_in (spans_left at))
    pub nlength : Under cells₀.nlengths (map nlength_in (spans_left 0)) cells.nlengths w (map nlength_in (spans_left at))
    pub start : Under cells₀.starts (starts_left 0) cells.starts k (starts_left at)
    pub end : Under cells₀.ends (ends_left 0) cells.ends k (ends_left at)

  pub fill_starts : (cells₀ : Columns) → Filling cells₀ cells₀ (record { index = 0; bytes = 0 }) 0 0 0
  unfolding offset_of
  fill_starts cells₀ =
      record {
        inside = omega arith;
        few = omega arith;
        room = omega arith;
        counts = refl;
        offset = (refl, refl);
        length = (refl, refl);
        noffset = (refl, refl);
        nlength = (refl, refl);
        start = (refl, refl);
        end = (refl, refl);
      }

  module _ (cells₀ cells : Columns) (along : Counted) (at k w : ℕ) (roomy : Roomy stream cells₀) (s : Filling cells₀ cells along at k w) where
    abbrev short : length stream ≤ 65535
    short = omega (arith, roomy.short)

    module _ (h : at < length stream) (p : Parse) (e : p ≡ called parser mode stream at) where
      step : calls_at parser mode stream at ≡ call_at at ∷ calls_at parser mode stream (place_of stream (call_at at))
      step = calls_step parser mode stream short at h

      pushed_length : length (pushed (call_at at)) ≡ (call_at at).len
      pushed_length = call_length parser mode stream short at h

      spans_number : length (spans_from scalars stream at (pushed (call_at at))) ≡ (call_at at).len
      spans_number = spans_length scalars stream at (pushed (call_at at)) ∙ pushed_length

      -- what a cluster's spans ask
      pub fill_asks : Asked scalars along (cluster_of p) at
      fill_asks = subst (λ (q : Parse). Asked scalars along (cluster_of q) at) (sym e) (record {
        counts = s.counts;
        most = call_most parser mode stream short at h;
        cells = omega (arith, pushed_length, length-take (call_at at).len (call_at at).chars);
        near = omega (arith, roomy.short);
      })

      -- twice as many cells as there are tokens are enough
      pub fill_fits : (r : Spans) → r ≡ spans_of scalars stream at (cluster_of p) → Fits r p.len w cells.offsets cells.lengths cells.noffsets cells.nlengths
      unfolding spans_of
      fill_fits r er = subst (λ (x : Spans). Fits x p.len w cells.offsets cells.lengths cells.noffsets cells.nlengths) (sym er)
          (subst (λ (q : Parse). Fits (spans_of scalars stream at (cluster_of q)) q.len w cells.offsets cells.lengths cells.noffsets cells.nlengths) (sym e)
          (let most = call_most parser mode stream short at h in
          let room = call_room parser mode stream short at h in
          let within = call_within parser mode stream short at h in
          record {
            most = most;
            cells = omega (arith, most, celled_length (spans_from scalars stream at (pushed (call_at at))) (omega (arith, spans_number, most)));
            near = omega (arith, s.room, roomy.short);
            at_offsets = omega (arith, s.room, s.offset.0, roomy.room, room, within);
            at_lengths = omega (arith, s.room, s.length.0, roomy.room, room, within);
            at_noffsets = omega (arith, s.room, s.noffset.0, roomy.room, room, within);
            at_nlengths = omega (arith, s.room, s.nlength.0, roomy.room, room, within);
          }))

      pub fill_falls : (at' : ℕ) → at' ≡ place_of stream p → length stream - at' < length stream - at
      fill_falls at' ea = omega (arith, ea ∙ ap (place_of stream) e, progress parser mode stream short at h)

      pub fill_cell : (k < length cells.starts) × (k < length cells.ends)
      fill_cell = (omega (arith, s.few, s.start.0, roomy.room), omega (arith, s.few, s.end.0, roomy.room))

      spans_step : spans_left at ≡ spans_from scalars stream at (pushed (call_at at)) ++ spans_left (place_of stream (call_at at))
      unfolding spans_in
      spans_step = ap (spans_in scalars stream at) step

      starts_step : starts_left at ≡ start_of scalars (pushed (call_at at)) ∷ starts_left (place_of stream (call_at at))
      unfolding starts_in
      starts_step = ap (starts_in scalars) step

      ends_step : ends_left at ≡ end_from scalars stream 0 at (pushed (call_at at)) ∷ ends_left (place_of stream (call_at at))
      unfolding ends_in
      ends_step = ap (ends_in scalars stream at) step

      chars_turn : (f : Span → ℕ) (l₀ l l' : List ℕ) → Under l₀ (map f (spans_left 0)) l w (map f (spans_left at)) → l' ≡ sets l w (map f (take (call_at at).len (spans_of scalars stream at (cluster_of (call_at at))).chars)) → Under l₀ (map f (spans_left 0)) l' (w + (call_at at).len) (map f (spans_left (place_of stream (call_at at))))
      unfolding spans_of
      chars_turn f l₀ l l' u el =
          under_many f l₀ (map f (spans_left 0)) l l' w (call_at at).len (spans_from scalars stream at (pushed (call_at at))) (spans_left (place_of stream (call_at at))) spans_number
          (subst (λ xs. Under l₀ (map f (spans_left 0)) l w (map f xs)) spans_step u)
          (el ∙ ap (λ xs. sets l w (map f xs)) (celled_first (spans_from scalars stream at (pushed (call_at at))) (call_at at).len spans_number))

      -- the columns behind a cluster with these spans and this first record, of n characters, whose call handed back a place
      abbrev After : Spans → ℕ → ℕ → ℕ → List ℕ → List ℕ → List ℕ → List ℕ → Type 0
      After x first i count o l m n =
          Filling cells₀ (record { offsets = o; lengths = l; noffsets = m; nlengths = n; starts = set cells.starts k x.start; ends = set cells.ends k x.end })
          (record { index = first; bytes = x.start }) i (k + 1) (w + count)

      abbrev written : (Span → ℕ) → List ℕ → ℕ → Spans → List ℕ
      written f l n x = sets l w (map f (take n x.chars))

      turned : (o l m n : List ℕ) →
          o ≡ written offset_in cells.offsets (call_at at).len (spans_of scalars stream at (cluster_of (call_at at))) → l ≡ written length_in cells.lengths (call_at at).len (spans_of scalars stream at (cluster_of (call_at at))) →
          m ≡ written noffset_in cells.noffsets (call_at at).len (spans_of scalars stream at (cluster_of (call_at at))) → n ≡ written nlength_in cells.nlengths (call_at at).len (spans_of scalars stream at (cluster_of (call_at at))) →
          After (spans_of scalars stream at (cluster_of (call_at at))) (first_record (pushed (call_at at))) (place_of stream (call_at at)) (call_at at).len o l m n
      unfolding spans_of
      turned o l m n e₁ e₂ e₃ e₄ =
          record {
            inside = call_within parser mode stream short at h;
            few = omega (arith, s.few, progress parser mode stream short at h);
            room = omega (arith, s.room, call_room parser mode stream short at h);
            counts = refl;
            offset = chars_turn offset_in cells₀.offsets cells.offsets o s.offset e₁;
            length = chars_turn length_in cells₀.lengths cells.lengths l s.length e₂;
            noffset = chars_turn noffset_in cells₀.noffsets cells.noffsets m s.noffset e₃;
            nlength = chars_turn nlength_in cells₀.nlengths cells.nlengths n s.nlength e₄;
            start = under_one cells₀.starts (starts_left 0) cells.starts k (start_of scalars (pushed (call_at at))) (starts_left (place_of stream (call_at at))) (subst (λ xs. Under cells₀.starts (starts_left 0) cells.starts k xs) starts_step s.start);
            end = under_one cells₀.ends (ends_left 0) cells.ends k (end_from scalars stream 0 at (pushed (call_at at))) (ends_left (place_of stream (call_at at))) (subst (λ xs. Under cells₀.ends (ends_left 0) cells.ends k xs) ends_step s.end);
          }

      pub fill_turn : (r : Spans) → r ≡ spans_of scalars stream at (cluster_of p) → (first : ℕ) → first ≡ first_record (characters_of (cluster_of p)) → (at' : ℕ) → at' ≡ place_of stream p →
          (o l m n : List ℕ) → o ≡ written offset_in cells.offsets p.len r → l ≡ written length_in cells.lengths p.len r → m ≡ written noffset_in cells.noffsets p.len r → n ≡ written nlength_in cells.nlengths p.len r →
          After r first at' p.len o l m n
      fill_turn r er first ef at' ea o l m n e₁ e₂ e₃ e₄ =
          let q : Parse = call_at at in
          let x : Spans = spans_of scalars stream at (cluster_of q) in
          let es : r ≡ x = er ∙ ap (λ (y : Parse). spans_of scalars stream at (cluster_of y)) e in
          let same : (f : Span → ℕ) (c : List ℕ) → written f c p.len r ≡ written f c q.len x = λ f c. ap (λ (y : Parse). written f c y.len r) e ∙ ap (written f c q.len) es in
          let t : After x (first_record (pushed q)) (place_of stream q) q.len o l m n = turned o l m n (e₁ ∙ same offset_in cells.offsets) (e₂ ∙ same length_in cells.lengths) (e₃ ∙ same noffset_in cells.noffsets) (e₄ ∙ same nlength_in cells.nlengths) in
          let t₁ : After r (first_record (pushed q)) (place_of stream q) q.len o l m n = subst (λ (y : Spans). After y (first_record (pushed q)) (place_of stream q) q.len o l m n) (sym es) t in
          let t₂ : After r (first_record (pushed p)) (place_of stream p) p.len o l m n = subst (λ (y : Parse). After r (first_record (pushed y)) (place_of stream y) y.len o l m n) (sym e) t₁ in
          let t₃ : After r first (place_of stream p) p.len o l m n = subst (λ (i : ℕ). After r i (place_of stream p) p.len o l m n) (sym ef) t₂ in
          subst (λ (i : ℕ). After r first i p.len o l m n) (sym ea) t₃

    pub fill_over : length stream ≤ at → cells ≡ lefts (Ok tt) (columns_of scalars stream 0 (calls_of parser mode stream)) cells₀
    unfolding spans_in starts_in ends_in
    fill_over h =
        let none : calls_at parser mode stream at ≡ [] = calls_end parser mode stream short at h in
        let wide : (f : Span → ℕ) → length (map f (spans_left 0)) ≤ 2 * length stream = λ f. omega (arith, length-map (spans_left 0) f, spans_in_length 0 (calls_of parser mode stream), calls_room parser mode stream short (length stream) 0 (omega arith)) in
        let many : length (calls_of parser mode stream) ≤ length stream = omega (arith, (calls_some parser mode stream short (length stream) 0 (omega arith)).1) in
        let left : (f : Span → ℕ) → map f (spans_left at) ≡ [] = λ f. ap (λ ps. map f (spans_in scalars stream at ps)) none in
        columns_same _ _ _ _ _ _ _ _ _ _ _ _
        (under_over cells₀.offsets (map offset_in (spans_left 0)) cells.offsets w _ (left offset_in) (omega (arith, wide offset_in, roomy.room)) s.offset)
        (under_over cells₀.lengths (map length_in (spans_left 0)) cells.lengths w _ (left length_in) (omega (arith, wide length_in, roomy.room)) s.length)
        (under_over cells₀.noffsets (map noffset_in (spans_left 0)) cells.noffsets w _ (left noffset_in) (omega (arith, wide noffset_in, roomy.room)) s.noffset)
        (under_over cells₀.nlengths (map nlength_in (spans_left 0)) cells.nlengths w _ (left nlength_in) (omega (arith, wide nlength_in, roomy.room)) s.nlength)
        (under_over cells₀.starts (starts_left 0) cells.starts k _ (ap (starts_in scalars) none) (omega (arith, starts_length (calls_of parser mode stream), many, roomy.room)) s.start)
        (under_over cells₀.ends (ends_left 0) cells.ends k _ (ap (ends_in scalars stream at) none) (omega (arith, ends_length 0 (calls_of parser mode stream), many, roomy.room)) s.end)
