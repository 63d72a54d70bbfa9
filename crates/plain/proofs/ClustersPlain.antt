-- On every accepted plain text the simple parser's clusters start where UAX #29's boundaries stand, in both modes.
-- Assumes nothing.
use Rattle.std.specs.Prelude.{Ok}
use Prim.Native.Nat.{ℕ, zero, suc, ◌+◌, ◌-◌, ◌<◌, ◌≤◌}
use mathlib.Core.Path.{◌≡◌, refl, sym, ◌∙◌, ap, subst}
use mathlib.Core.Bool.{Bool, true, false, cond, not, ◌&&◌, ◌||◌, false≢true}
use mathlib.Core.List.{List, [], ◌∷◌}
use native.Mathlib.Numerals.{add-one}
use native.Mathlib.Omega.{arith}
use lib.Dec.{eqb, ltb}
use lib.ListN.{length, drop, get_or}
use borrow.Author.Tests.{eqb-true, ltb-true, ltb-false, le-ltb}
use Rattle.basics.proofs.Sets.{every_at}
use Rattle.basics.proofs.Tests.{by_test, both}
use Rattle.basics.specs.Sets.{member, every, any as any_of}
use Rattle.classes.specs.ClusterBreak.{XX}
use Rattle.classes.specs.declared.Mode.{Mode}
use Rattle.records.specs.Text.{Text, cell, record_lengths}
use Rattle.records.specs.Refusals.{uneven, verdict}
use Rattle.records.specs.Sound.{Sound}
use Rattle.records.specs.declared.Parser.TheVariants.{Simple}
use Rattle.records.proofs.Accepted.{accepted_sound}
use Rattle.token.specs.Token.{kind_of, break_of, emoji_of, index_of}
use Rattle.token.proofs.Fields.{Says}
use Rattle.stream.specs.Stream.{Source, source_of, own_token, itself, gather, stream_of}
use Rattle.stream.proofs.Accepted.{simple_says}
use Rattle.stream.proofs.Stream.{length_records}
use Rattle.parse.specs.declared.Parse.{Parse}
use Rattle.parse.specs.State.{token_at, place_of}
use Rattle.simple.specs.Grammar.{is_extension}
use Rattle.segment.specs.Calls.{grammar, called}
use Rattle.segment.specs.Runs.{calls_from}
use Rattle.segment.proofs.Progress.{progress}
use Rattle.segment.proofs.CallTurns.{call_within}
use Rattle.segment.proofs.Coverage.{accepted_short}
use Rattle.uax29.specs.Clusters.{controls, applies, decide, edge, any, GB1, before_in, boundary_at, places_from, boundaries}
use Rattle.uax29.proofs.ClustersSides.{some_after}
use Rattle.plain.specs.Clusters.{plain_kinds, extensions, plain_mark, plain_pair, plain_at, all_short, is_plain, starts_from, cluster_starts}
use Rattle.plain.proofs.ClustersNeighbours.{Columns, Calm, calm_parts}
use Rattle.plain.proofs.ClustersAfter.{Joined, After, full, over, halted, goes}
use Rattle.plain.proofs.ClustersCall.{Shows, Nowhere, extension_is, call_after}

-- # The tokens of an accepted text, and the columns of a plain one

-- the token of a record
record_token : (s : Source) (n i k : ℕ) → k < n → get_or (gather (itself s) i n) k 0 ≡ own_token s (cell s.emojis (i + k)) (i + k)
unfolding gather itself
record_token s zero i k h = absurd (omega arith)
record_token s (suc n) i zero h = let e : i ≡ i + 0 = omega arith in ap (λ j. own_token s (cell s.emojis j) j) e
record_token s (suc n) i (suc k) h =
    let e : i + 1 + k ≡ i + suc k = omega arith in
    record_token s n (i + 1) k (omega arith) ∙ ap (λ j. own_token s (cell s.emojis j) j) e

second_false : (a b c : Bool) → (a || (b || c)) ≡ false → b ≡ false
second_false true b c e = absurd (false≢true (sym e))
second_false false true c e = absurd (false≢true (sym e))
second_false false false c e = refl

not-false : (b : Bool) → not b ≡ false → b ≡ true
not-false true e = refl
not-false false e = absurd (false≢true (sym e))

second_even : (x y : ℕ) (ns : List ℕ) → uneven (x ∷ y ∷ ns) ≡ false → y ≡ x
second_even x y ns e = eqb-true y x (not-false (eqb y x) (second_false (not (eqb x x)) (not (eqb y x)) (any_of (λ n. not (eqb n x)) ns) e))

module _ (mode : Mode) (t : Text) (accepted : verdict Simple t ≡ Ok tt) where
  abbrev sound : Sound Simple t
  sound = accepted_sound Simple t accepted

  same_length : length t.records.breaks ≡ length t.records.scalars
  same_length = second_even (length t.records.scalars) (length t.records.breaks) (drop 2 (record_lengths t.records)) sound.even

  pub stream_length : length (stream_of mode Simple t) ≡ length t.records.breaks
  unfolding stream_of
  stream_length = length_records (source_of t.records t.records.breaks t.records.semojis) (length t.records.scalars) 0 ∙ sym same_length

  module _ (i : ℕ) (h : i < length t.records.breaks) where
    abbrev source : Source
    source = source_of t.records t.records.breaks t.records.semojis

    own_token_lem : token_at (stream_of mode Simple t) i ≡ own_token source (cell t.records.semojis i) i
    unfolding stream_of
    own_token_lem =
        let e : 0 + i ≡ i = omega arith in
        record_token source (length t.records.scalars) 0 i (omega (arith, same_length)) ∙ ap (λ j. own_token source (cell t.records.semojis j) j) e

    own_says : Says (own_token source (cell t.records.semojis i) i) (cell t.records.scalars i) (cell t.records.breaks i) (cell t.records.breaks i) (cell t.records.categories i) (cell t.records.semojis i) (cell t.records.selectors i) i
    own_says = simple_says Simple t sound i (omega (arith, same_length))

  -- a token knows its record
  pub stream_index : (i : ℕ) → i < length t.records.breaks → index_of (token_at (stream_of mode Simple t) i) ≡ i
  stream_index i h = ap index_of (own_token_lem i h) ∙ (own_says i h).its_index

  pub stream_shows : Shows (stream_of mode Simple t) t.records.breaks t.records.semojis
  stream_shows = record {
    size = stream_length;
    kind = λ i h. ap kind_of (own_token_lem i h) ∙ (own_says i h).its_kind;
    break = λ i h. ap break_of (own_token_lem i h) ∙ (own_says i h).its_break;
    emoji = λ i h. ap emoji_of (own_token_lem i h) ∙ (own_says i h).its_emoji;
  }

marked_plain : (kind mark : ℕ) → plain_mark kind mark ≡ true → eqb mark 1 ≡ true → kind ≡ XX
unfolding plain_mark
marked_plain kind mark e m = let q : mark ≡ 1 = eqb-true mark 1 m in eqb-true kind XX (rw q at e)

pair_plain : (a b : Bool) → not (a && b) ≡ true → b ≡ true → a ≡ false
pair_plain false b e h = refl
pair_plain true b e h = absurd (false≢true (rw h at e))

plain_at_lem : (breaks marks : List ℕ) (i : ℕ) → plain_at breaks marks i ≡ true → (member plain_kinds (cell breaks i) ≡ true) × (plain_mark (cell breaks i) (cell marks i) ≡ true) × (plain_pair (cell breaks i) (cell breaks (i + 1)) ≡ true)
unfolding plain_at
plain_at_lem breaks marks i e =
    let first = both (member plain_kinds (cell breaks i)) (plain_mark (cell breaks i) (cell marks i) && plain_pair (cell breaks i) (cell breaks (i + 1))) e in
    let second = both (plain_mark (cell breaks i) (cell marks i)) (plain_pair (cell breaks i) (cell breaks (i + 1))) first.1 in
    (first.0, second.0, second.1)

pub plain_columns : (breaks marks : List ℕ) → every (plain_at breaks marks) (length breaks) ≡ true → Columns breaks marks
unfolding plain_pair
plain_columns breaks marks e = record {
  kind = λ i h. (plain_at_lem breaks marks i (every_at (plain_at breaks marks) (length breaks) i e h)).0;
  mark = λ i h m. marked_plain (cell breaks i) (cell marks i) (plain_at_lem breaks marks i (every_at (plain_at breaks marks) (length breaks) i e h)).1 m;
  pair = λ i h x. pair_plain (member controls (cell breaks i)) (member extensions (cell breaks (i + 1)))
      (plain_at_lem breaks marks i (every_at (plain_at breaks marks) (length breaks) i e (omega arith))).2 (ap (λ j. member extensions (cell breaks j)) (add-one i) ∙ x);
}

-- # One call

-- GB1
pub starts_at_0 : (breaks marks : List ℕ) → 0 < length breaks → boundary_at breaks marks 0 ≡ true
unfolding boundary_at decide applies before_in GB1 edge any
starts_at_0 breaks marks h = rw (le-ltb (length breaks) 0 (omega arith), some_after breaks marks 0 h)

module _ (mode : Mode) (stream breaks marks : List ℕ) (short : length stream ≤ 65535) (shows : Shows stream breaks marks) (plain : Columns breaks marks) where
  abbrev b : ℕ → Bool
  b = boundary_at breaks marks

  -- a call that passed a token and has fewer than 32 characters ends at the end of the text or at a boundary, and passes none
  abbrev Ends : ℕ → ℕ → Type 0
  Ends from to = Joined b from to × (to < length stream → b to ≡ true)

  module _ (from : ℕ) (inside : from < length stream) (starts : b from ≡ true) where
    parts_at : (j : ℕ) → from < j → j < length stream → Calm breaks marks j → is_extension stream j ≡ false → b j ≡ true
    parts_at zero l h c x = absurd (omega arith)
    parts_at (suc i) l h c x = calm_parts breaks marks plain i (omega (arith, shows.size)) c (sym (extension_is stream breaks marks shows plain from inside starts (suc i) h) ∙ x)

    ends_at : (p : Parse) → After stream b from (λ j. Calm breaks marks j × (is_extension stream j ≡ false)) Nowhere p → p.len < 32 → from < place_of stream p → Ends from (place_of stream p)
    ends_at p (full l) h k = absurd (omega arith)
    ends_at p (over o) h k =
        let e : place_of stream p ≡ length stream = ap (λ d. cond d (length stream) p.at) o.done in
        subst (Ends from) (sym e) (o.past, λ q. absurd (omega arith))
    ends_at p (halted st x) h k = absurd x
    ends_at p (goes st x) h k =
        let e : place_of stream p ≡ p.at = ap (λ d. cond d (length stream) p.at) st.done in
        subst (Ends from) (sym e) (st.past, λ q. parts_at p.at (subst (λ j. from < j) e k) q x.0 x.1)

    -- Where a call starts at a boundary, it ends at the next one.
    pub call_plain : (called Simple mode stream from).len < 32 → Ends from (place_of stream (called Simple mode stream from))
    unfolding called grammar
    call_plain h = ends_at (called Simple mode stream from) (call_after stream breaks marks shows plain from inside starts mode) h (progress Simple mode stream short from inside)

-- # All calls

module _ (c : ℕ → Bool) where
  place_here : (i n : ℕ) → c i ≡ true → places_from c i (suc n) ≡ i ∷ places_from c (i + 1) n
  unfolding places_from
  place_here i n e = rw e

  place_not : (i n : ℕ) → c i ≡ false → places_from c i (suc n) ≡ places_from c (i + 1) n
  unfolding places_from
  place_not i n e = rw e

  -- places at which there is nothing are passed over
  pass_over : (d m i : ℕ) → ((k : ℕ) → i ≤ k → k < i + d → c k ≡ false) → places_from c i (d + m) ≡ places_from c (i + d) m
  pass_over zero m i f =
      let e : i ≡ i + 0 = omega arith in
      let z : 0 + m ≡ m = omega arith in
      ap (places_from c i) z ∙ ap (λ j. places_from c j m) e
  pass_over (suc d) m i f =
      let e : i + 1 + d ≡ i + suc d = omega arith in
      let z : suc d + m ≡ suc (d + m) = omega arith in
      ap (places_from c i) z ∙ place_not i (d + m) (f i (omega arith) (omega arith))
      ∙ pass_over d m (i + 1) (λ k l h. f k (omega arith) (omega arith)) ∙ ap (λ j. places_from c j m) e

  -- from one place at which there is something to the next
  next_place : (n from to : ℕ) → from < to → to ≤ n → c from ≡ true → Joined c from to → places_from c from (n - from) ≡ from ∷ places_from c to (n - to)
  next_place n from to l h e j =
      let m : n - from ≡ suc ((to - from - 1) + (n - to)) = omega arith in
      let q : from + 1 + (to - from - 1) ≡ to = omega arith in
      ap (places_from c from) m ∙ place_here from ((to - from - 1) + (n - to)) e
      ∙ ap (λ ps. from ∷ ps) (pass_over (to - from - 1) (n - to) (from + 1) (λ k a d. j k (omega arith) (omega arith)) ∙ ap (λ i. places_from c i (n - to)) q)

module _ (mode : Mode) (stream : List ℕ) (n at : ℕ) where
  pub calls_more : ltb at (length stream) ≡ true → calls_from Simple mode stream (suc n) at ≡ called Simple mode stream at ∷ calls_from Simple mode stream n (place_of stream (called Simple mode stream at))
  unfolding calls_from
  calls_more e = rw e

  pub calls_none : calls_from Simple mode stream 0 at ≡ []
  unfolding calls_from
  calls_none = refl

  pub calls_over : ltb at (length stream) ≡ false → calls_from Simple mode stream (suc n) at ≡ []
  unfolding calls_from
  calls_over e = rw e

module _ (mode : Mode) (stream breaks marks : List ℕ) (short : length stream ≤ 65535) (shows : Shows stream breaks marks) (plain : Columns breaks marks) where
  none_left : (at : ℕ) → length stream ≤ at → [] ≡ places_from (boundary_at breaks marks) at (length stream - at)
  unfolding places_from
  none_left at h = let z : length stream - at ≡ 0 = omega arith in sym (ap (places_from (boundary_at breaks marks) at) z)

  -- the calls from a boundary on
  starts_are : (n at : ℕ) → at ≤ length stream → length stream ≤ at + n → (at < length stream → boundary_at breaks marks at ≡ true) → all_short (calls_from Simple mode stream n at) ≡ true → starts_from stream at (calls_from Simple mode stream n at) ≡ places_from (boundary_at breaks marks) at (length stream - at)
  unfolding starts_from all_short
  starts_are zero at l h s e = ap (starts_from stream at) (calls_none mode stream 0 at) ∙ none_left at (omega arith)
  starts_are (suc n) at l h s e = by_test (ltb at (length stream))
      (λ q. let p : Parse = called Simple mode stream at in
      let i : at < length stream = ltb-true at (length stream) q in
      let more = calls_more mode stream n at q in
      let less = both (ltb p.len 32) _ (subst (λ ps. all_short ps ≡ true) more e) in
      let ends = call_plain mode stream breaks marks short shows plain at i (s i) (ltb-true p.len 32 less.0) in
      let passes : at < place_of stream p = progress Simple mode stream short at i in
      let within : place_of stream p ≤ length stream = call_within Simple mode stream short at i in
      ap (starts_from stream at) more
      ∙ ap (λ ps. at ∷ ps) (starts_are n (place_of stream p) within (omega arith) ends.1 less.1)
      ∙ sym (next_place (boundary_at breaks marks) (length stream) at (place_of stream p) passes within (s i) ends.0))
      (λ q. ap (starts_from stream at) (calls_over mode stream n at q) ∙ none_left at (ltb-false at (length stream) q))

-- "The simple parser's clusters start where UAX #29 has a grapheme cluster boundary, its emoji mark being read as
-- Extended_Pictographic"; "the boundary at the text's start belongs to the answer and the one at its end does not" (SCOPE 8.2).
pub clusters_plain : (mode : Mode) (t : Text) → verdict Simple t ≡ Ok tt → is_plain mode t ≡ true → cluster_starts mode t ≡ boundaries t.records.breaks t.records.semojis
unfolding is_plain
clusters_plain mode t accepted plain =
    let stream : List ℕ = stream_of mode Simple t in
    let breaks : List ℕ = t.records.breaks in
    let marks : List ℕ = t.records.semojis in
    let told = both (every (plain_at breaks marks) (length breaks)) _ plain in
    let size : length stream ≡ length breaks = stream_length mode t accepted in
    let all : length stream - 0 ≡ length breaks = omega arith in
    starts_are mode stream breaks marks (accepted_short mode Simple t accepted) (stream_shows mode t accepted) (plain_columns breaks marks told.0)
    (length stream) 0 (omega arith) (omega arith) (λ h. starts_at_0 breaks marks (omega arith)) told.1
    ∙ ap (places_from (boundary_at breaks marks) 0) all
