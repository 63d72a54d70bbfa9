-- What the code of a call rests on: the parser's rule is chosen by its name, and the tokens in the array are the stream.
-- Assumes nothing.
use Rattle.std.specs.Prelude.{Ok, Err}
use Prim.Native.Nat.{ℕ, ◌<◌, ◌≤◌, min}
use mathlib.Core.Path.{◌≡◌, refl, sym, ◌∙◌}
use mathlib.Core.Bool.{Bool, true, false}
use mathlib.Core.List.{List, [], ◌∷◌}
use mathlib.Core.Logic.{⊎_elim}
use native.Mathlib.Omega.{arith}
use lib.ListN.{length, take}
use lib.Seq.{take_all}
use borrow.Author.Tests.{lt-ltb, le-ltb, eq-eqb, ne_eqb}
use denote.Enum.Declared.{tag_of}
use types.Run.{OneOf}
use Rattle.classes.specs.declared.Mode.{Mode}
use Rattle.records.specs.Text.{Text}
use Rattle.records.specs.Refusals.{refusal, most, verdict, is_khmer}
use Rattle.records.specs.declared.Parser.{Parser}
use Rattle.records.specs.contracts.Parser.{the_type}
use Rattle.records.specs.declared.Parser.TheVariants.{Simple, Myanmar, Complex, Khmer}
use Rattle.records.specs.declared.Side.TheVariants.{Neither}
use Rattle.records.specs.declared.Refusal.{Refusal}
use Rattle.records.specs.Verdict.{Verdict}
use Rattle.records.proofs.Accepted.{accepted_sound}
use Rattle.stream.specs.Stream.{source_of, splits_of, itself, split, gather, stream_of, count_from}
use Rattle.stream.proofs.Accepted.{few, stream_room}
use Rattle.stream.proofs.Stream.{count_stream, length_records}
use Rattle.parse.specs.declared.Parse.{Parse}
use Rattle.parse.specs.Rule.{Rule, run}
use Rattle.parse.specs.State.{begin}
use Rattle.complex.specs.Grammar.{cluster}
use Rattle.segment.specs.declared.Segmenter.{Segmenter}
use Rattle.segment.specs.declared.Answer.{Answer}
use Rattle.segment.specs.Calls.{grammar, joins, called, refused, end, found, answer_in, next_of}
use Rattle.segment.specs.Inner.{Streamed, Filled, token_count}

-- a call by the rule g of a parser
pub call_is : (parser : Parser) (mode : Mode) (stream : List ℕ) (at : ℕ) (s r : Parse) (j : Bool) (g : Rule) → grammar parser ≡ g → j ≡ joins parser → s ≡ begin (record { at = at }) mode j → r ≡ run g stream s → r ≡ called parser mode stream at
unfolding called
call_is parser mode stream at s r j g eg ej es er = er ∙ rw (es, ej, ← eg)

-- the parsers of the arm for both forms of the complex one
pub complex_is : (parser : Parser) → OneOf (2 ∷ 3 ∷ []) (tag_of the_type parser) → grammar parser ≡ cluster (is_khmer parser)
unfolding grammar
complex_is Simple h = absurd (⊎_elim (λ e. omega (arith, e)) (λ e. omega (arith, e)) h)
complex_is Myanmar h = absurd (⊎_elim (λ e. omega (arith, e)) (λ e. omega (arith, e)) h)
complex_is Complex h = refl
complex_is Khmer h = refl

module _ (s : Segmenter) (stream : List ℕ) where
  pub answer_past : (r : Answer) → length stream < s.place.at → r ≡ refused s (refusal 8 Neither 0) → r ≡ answer_in s stream
  unfolding answer_in
  answer_past r h e = rw (lt-ltb (length stream) s.place.at h) e

  pub answer_over : (r : Answer) → s.place.at ≤ length stream → s.place.at ≡ length stream → r ≡ end s → r ≡ answer_in s stream
  unfolding answer_in
  answer_over r l h e = rw (le-ltb (length stream) s.place.at l, eq-eqb s.place.at (length stream) h) e

  pub answer_found : (r : Answer) (p : Parse) → s.place.at ≤ length stream → (s.place.at ≡ length stream → ⊥) → p ≡ called s.parser s.mode stream s.place.at → r ≡ found s stream p → r ≡ answer_in s stream
  unfolding answer_in
  answer_found r p l n ep e = rw (le-ltb (length stream) s.place.at l, ne_eqb s.place.at (length stream) n, ← ep) e

-- where the stream fits, the cells that are filled are the stream
pub all_fits : (stream cells : List ℕ) (room n : ℕ) → Filled stream room n cells → length stream ≤ room → take n cells ≡ stream
all_fits stream cells room n w h = w.same ∙ take_all n stream (omega (arith, w.number))

-- the stream by the parser's name
module _ (mode : Mode) (parser : Parser) (t : Text) where
  pub stream_simple : parser ≡ Simple → stream_of mode parser t ≡ gather (itself (source_of t.records t.records.breaks t.records.semojis)) 0 (length t.records.scalars)
  unfolding stream_of
  stream_simple e = rw e

  pub stream_myanmar : parser ≡ Myanmar → stream_of mode parser t ≡ gather (itself (source_of t.records t.records.myanmars t.records.memojis)) 0 (length t.records.scalars)
  unfolding stream_of
  stream_myanmar e = rw e

  pub stream_complex : parser ≡ Complex → stream_of mode parser t ≡ gather (split mode false (source_of t.records t.records.uses t.records.cemojis) (splits_of t.records) t.parts) 0 (length t.records.scalars)
  unfolding stream_of
  stream_complex e = rw e

  pub stream_khmer : parser ≡ Khmer → stream_of mode parser t ≡ gather (split mode true (source_of t.records t.records.uses t.records.cemojis) (splits_of t.records) t.parts) 0 (length t.records.scalars)
  unfolding stream_of
  stream_khmer e = rw e

  -- the tokens that were filled in, or collected, are the stream's
  pub by_parts : (stream : List ℕ) (room n : ℕ) (cells : List ℕ) → stream_of mode parser t ≡ stream → (n ≡ min (length stream) room) × (take n cells ≡ take n stream) → Filled (stream_of mode parser t) room n cells
  by_parts stream room n cells e f = rw e (record { number = f.0; same = f.1 })

  -- every accepted text fits
  pub streamed : verdict parser t ≡ Ok tt → Streamed mode parser t
  streamed e =
      record { few = few parser t (accepted_sound parser t e); room = stream_room mode parser t (accepted_sound parser t e) }

-- a count of so many is the number of tokens
split_counted : (mode : Mode) (khmer : Bool) (t : Text) → length t.records.scalars ≤ 4096 →
    count_from mode khmer t.records.scalars t.records.decomposes t.records.counts 0 (min (length t.records.scalars) most)
    ≡ length (gather (split mode khmer (source_of t.records t.records.uses t.records.cemojis) (splits_of t.records) t.parts) 0 (length t.records.scalars))
split_counted mode khmer t h =
    let m : min (length t.records.scalars) most ≡ length t.records.scalars = omega arith in
    rw m (sym (count_stream mode khmer (source_of t.records t.records.uses t.records.cemojis) (splits_of t.records) t.parts (length t.records.scalars) 0))

pub counted : (mode : Mode) (parser : Parser) (t : Text) → length t.records.scalars ≤ 4096 → token_count mode parser t ≡ length (stream_of mode parser t)
unfolding stream_of
counted mode Simple t h = sym (length_records (source_of t.records t.records.breaks t.records.semojis) (length t.records.scalars) 0)
counted mode Myanmar t h = sym (length_records (source_of t.records t.records.myanmars t.records.memojis) (length t.records.scalars) 0)
counted mode Complex t h = split_counted mode false t h
counted mode Khmer t h = split_counted mode true t h

pub fits_in : (mode : Mode) (parser : Parser) (t : Text) (m r : ℕ) → Streamed mode parser t → r ≡ token_count mode parser t → r ≤ m → length (stream_of mode parser t) ≤ m
fits_in mode parser t m r w e h = omega (arith, e, counted mode parser t w.few)

pub count_fits : (mode : Mode) (parser : Parser) (t : Text) (r : ℕ) → Streamed mode parser t → r ≡ token_count mode parser t → length (stream_of mode parser t) ≤ r
count_fits mode parser t r w e = omega (arith, e, counted mode parser t w.few)

module _ (s : Segmenter) (t : Text) where
  pub next_accepted : (v : Verdict) (r : Answer) → v ≡ verdict s.parser t → v ≡ Ok tt → (Streamed s.mode s.parser t → r ≡ answer_in s (stream_of s.mode s.parser t)) → r ≡ next_of s t
  unfolding next_of
  next_accepted v r e h f = rw (← e, h) (f (streamed s.mode s.parser t (sym e ∙ h)))

  pub next_refused : (v : Verdict) (a : Answer) (r : Refusal) → v ≡ verdict s.parser t → v ≡ Err r → a ≡ refused s r → a ≡ next_of s t
  unfolding next_of
  next_refused v a r e h f = rw (← e, h) f
