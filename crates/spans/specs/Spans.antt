-- The bytes of one answer: "Each pushed character gets the UTF-8 offset and length of its record (1 to 4 bytes a scalar), and the notes
-- directly after it get one joint offset and length, from the first noted record to the last, both 0 without notes. A cluster gets a
-- start, that of its first character, and an end, that of the last token it pushed or noted." (SCOPE 12.7)
use Rattle.std.specs.Prelude.{ℕ, ◌+◌, ◌-◌, cond, List, [], ◌∷◌, ◌++◌, eqb, length, drop, get_or, replicate}
use Rattle.token.specs.Token.{index_of}
use Rattle.records.specs.Text.{Text}
use Rattle.stream.specs.Stream.{stream_of}
use Rattle.parse.specs.declared.Pushed.{Pushed}
use Rattle.parse.specs.declared.Cluster.{Cluster}
use Rattle.parse.specs.State.{token_at, nothing}
use Rattle.parse.specs.Cover.{characters_of}
use Rattle.segment.specs.declared.Segmenter.{Segmenter}
use Rattle.segment.specs.Calls.{next_of}
use Rattle.spans.specs.declared.Span.{Span}
use Rattle.spans.specs.declared.Spans.{Spans}
use Rattle.spans.specs.declared.SpanAnswer.{SpanAnswer}
use Rattle.spans.specs.Offsets.{offset_of, length_of, end_of}

-- the record of the token at a place
abbrev pub record_at : List ℕ → ℕ → ℕ
record_at stream p = index_of (token_at stream p)

-- a value for the notes of a character, and 0 without notes
abbrev pub if_noted : Pushed → ℕ → ℕ
if_noted c n = cond (eqb c.noted 0) 0 n

-- a character whose token is the one at place p: its notes are the tokens directly after it
unfoldable pub span_of : List ℕ → List ℕ → ℕ → Pushed → Span
span_of scalars stream p c =
    record {
      offset = offset_of scalars c.index;
      length = length_of scalars c.index;
      noffset = if_noted c (offset_of scalars (record_at stream (p + 1)));
      nlength = if_noted c (end_of scalars (record_at stream (p + c.noted)) - offset_of scalars (record_at stream (p + 1)));
    }

-- characters one after the other, the first of them at place p
unfoldable pub spans_from : List ℕ → List ℕ → ℕ → List Pushed → List Span
spans_from scalars stream p [] = []
spans_from scalars stream p (c ∷ cs) = span_of scalars stream p c ∷ spans_from scalars stream (p + 1 + c.noted) cs

-- "a start, that of its first character"
abbrev pub first_record : List Pushed → ℕ
first_record cs = (get_or cs 0 nothing).index

abbrev pub start_of : List ℕ → List Pushed → ℕ
start_of scalars cs = offset_of scalars (first_record cs)

-- "an end, that of the last token it pushed or noted": of a character and its notes, and of the last of several, and n where there is none
abbrev pub last_record : List ℕ → ℕ → Pushed → ℕ
last_record stream p c = cond (eqb c.noted 0) c.index (record_at stream (p + c.noted))

unfoldable pub end_from : List ℕ → List ℕ → ℕ → ℕ → List Pushed → ℕ
end_from scalars stream n p [] = n
end_from scalars stream n p (c ∷ cs) = end_from scalars stream (end_of scalars (last_record stream p c)) (p + 1 + c.noted) cs

-- a cluster whose call began at a place; its cells past the characters are 0, and the empty cluster "has 0 and 0"
abbrev pub no_span : Span
no_span = record { offset = 0; length = 0; noffset = 0; nlength = 0 }

abbrev pub celled : List Span → List Span
celled spans = spans ++ drop (length spans) (replicate 32 no_span)

unfoldable pub spans_of : List ℕ → List ℕ → ℕ → Cluster → Spans
spans_of scalars stream at c =
    record {
      chars = celled (spans_from scalars stream at (characters_of c));
      start = start_of scalars (characters_of c);
      end = end_from scalars stream 0 at (characters_of c);
    }

-- the stepping call's answer, and the spans of its cluster beside it
unfoldable pub spanned : Segmenter → Text → SpanAnswer
spanned s t =
    record {
      answer = next_of s t;
      spans = spans_of t.records.scalars (stream_of s.mode s.parser t) s.place.at (next_of s t).cluster;
    }
