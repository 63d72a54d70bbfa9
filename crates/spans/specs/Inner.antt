-- What only private contracts need: bytes counted along the records, and columns under way.
use Rattle.std.specs.Prelude.{ℕ, ◌+◌, ◌*◌, ◌≤◌, ◌≡◌, cond, List, map, ltb, length, take, Ok}
use Rattle.std.proofs.lemmas.List.Edits.{sets}
use Rattle.classes.specs.declared.Mode.{Mode}
use Rattle.records.specs.Text.{Text}
use Rattle.records.specs.declared.Parser.{Parser}
use Rattle.stream.specs.Stream.{stream_of, most_tokens}
use Rattle.parse.specs.declared.Cluster.{Cluster}
use Rattle.segment.specs.declared.Segmenter.{Segmenter}
use Rattle.segment.specs.Runs.{calls_of}
use Rattle.segment.specs.Inner.{Streamed}
use Rattle.segment.specs.Standing.{Cells, Output}
use Rattle.spans.specs.declared.offsets.Counted.{Counted}
use Rattle.spans.specs.declared.Spans.{Spans}
use Rattle.spans.specs.Offsets.{offset_of}
use Rattle.spans.specs.Spans.{spans_of}
use Rattle.spans.specs.Runs.{Columns, columns_of, lefts, shortest_of, offset_in, length_in, noffset_in, nlength_in, entries, exits}

-- the bytes before the record are counted
abbrev pub Counts : List ℕ → Counted → Type 0
Counts scalars c = c.bytes ≡ offset_of scalars c.index

abbrev pub counted_before : Counted → ℕ → Counted
counted_before c i = cond (ltb i c.index) (record { index = 0; bytes = 0 }) c

-- a place that a sum with a number of notes does not wrap
abbrev pub Near : ℕ → Type 0
Near at = at ≤ 0x1000000

-- a cluster whose characters lie in its cells, and whose call began at a place of an accepted text
pub record Asked (scalars : List ℕ) (from : Counted) (c : Cluster) (at : ℕ) : Type 0 where
  pub counts : Counts scalars from
  pub most : c.len ≤ 32
  pub cells : c.len ≤ length c.chars
  pub near : at ≤ most_tokens

-- the same of a stepping call, with room for so many tokens
pub record Spannable (s : Segmenter) (t : Text) (c : Cluster) (room : ℕ) : Type 0 where
  pub streamed : Streamed s.mode s.parser t
  pub fits : length (stream_of s.mode s.parser t) ≤ room
  pub most : c.len ≤ 32
  pub cells : c.len ≤ length c.chars
  pub near : s.place.at ≤ most_tokens

abbrev pub SpansAt : Segmenter → Text → Cluster → Spans → Type 0
SpansAt s t c r = r ≡ spans_of t.records.scalars (stream_of s.mode s.parser t) s.place.at c

-- room for the characters of one cluster
pub record Fits (spans : Spans) (len at : ℕ) (offsets lengths noffsets nlengths : List ℕ) : Type 0 where
  pub most : len ≤ 32
  pub cells : len ≤ length spans.chars
  pub near : at ≤ 65535
  pub at_offsets : at + len ≤ length offsets
  pub at_lengths : at + len ≤ length lengths
  pub at_noffsets : at + len ≤ length noffsets
  pub at_nlengths : at + len ≤ length nlengths

-- these characters, written from a cell on
pub record Written (spans : Spans) (len at : ℕ) (offsets lengths noffsets nlengths : Output) : Type 0 where
  pub at_offsets : offsets.exit.now ≡ sets offsets.entry.now at (map offset_in (take len spans.chars))
  pub at_lengths : lengths.exit.now ≡ sets lengths.entry.now at (map length_in (take len spans.chars))
  pub at_noffsets : noffsets.exit.now ≡ sets noffsets.entry.now at (map noffset_in (take len spans.chars))
  pub at_nlengths : nlengths.exit.now ≡ sets nlengths.entry.now at (map nlength_in (take len spans.chars))

-- the six columns as they are lent
abbrev pub cells_of : Cells → Cells → Cells → Cells → Cells → Cells → Columns
cells_of o l m n s e =
    record { offsets = o.now; lengths = l.now; noffsets = m.now; nlengths = n.now; starts = s.now; ends = e.now }

-- twice as many cells as there are tokens
pub record Roomy (stream : List ℕ) (cells : Columns) : Type 0 where
  pub short : length stream ≤ most_tokens
  pub room : 2 * length stream ≤ shortest_of cells

pub record RoomyIn (parser : Parser) (mode : Mode) (t : Text) (room : ℕ) (cells : Columns) : Type 0 where
  pub streamed : Streamed mode parser t
  pub fits : length (stream_of mode parser t) ≤ room
  pub roomy : Roomy (stream_of mode parser t) cells

-- the columns filled by all calls
abbrev pub FilledOn : Parser → Mode → List ℕ → List ℕ → Output → Output → Output → Output → Output → Output → Type 0
FilledOn parser mode scalars stream o l m n s e =
    exits o l m n s e ≡ lefts (Ok tt) (columns_of scalars stream 0 (calls_of parser mode stream)) (entries o l m n s e)

abbrev pub FilledIn : Parser → Mode → Text → Output → Output → Output → Output → Output → Output → Type 0
FilledIn parser mode t o l m n s e = FilledOn parser mode t.records.scalars (stream_of mode parser t) o l m n s e
