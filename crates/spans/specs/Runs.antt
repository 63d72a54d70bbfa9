-- The full run with spans: segment's own run, "four more columns with a cell for each pushed character (offset, length, notes' offset, notes'
-- length) and two with a cell for each cluster (start, end)", all of them output columns for refusal 9 (SCOPE 12.7).
use Rattle.std.specs.Prelude.{ℕ, min, ◌≡◌, List, [], ◌∷◌, ◌++◌, map, length, drop, Ok, Err}
use Rattle.classes.specs.declared.Mode.{Mode}
use Rattle.records.specs.declared.Parser.{Parser}
use Rattle.records.specs.Verdict.{Verdict}
use Rattle.records.specs.Text.{Text}
use Rattle.stream.specs.Stream.{stream_of}
use Rattle.parse.specs.declared.Parse.{Parse}
use Rattle.parse.specs.State.{place_of}
use Rattle.parse.specs.Cover.{pushed}
use Rattle.segment.specs.declared.RunAnswer.{RunAnswer}
use Rattle.segment.specs.Runs.{calls_of, shortest, run_verdict, Ran}
use Rattle.segment.specs.Standing.{Output}
use Rattle.spans.specs.declared.Span.{Span}
use Rattle.spans.specs.Spans.{spans_from, start_of, end_from}

-- the spans of the characters of calls, the first of them from a place; the starts of their clusters, and the ends
unfoldable pub spans_in : List ℕ → List ℕ → ℕ → List Parse → List Span
spans_in scalars stream at [] = []
spans_in scalars stream at (p ∷ ps) = spans_from scalars stream at (pushed p) ++ spans_in scalars stream (place_of stream p) ps

unfoldable pub starts_in : List ℕ → List Parse → List ℕ
starts_in scalars [] = []
starts_in scalars (p ∷ ps) = start_of scalars (pushed p) ∷ starts_in scalars ps

unfoldable pub ends_in : List ℕ → List ℕ → ℕ → List Parse → List ℕ
ends_in scalars stream at [] = []
ends_in scalars stream at (p ∷ ps) = end_from scalars stream 0 at (pushed p) ∷ ends_in scalars stream (place_of stream p) ps

-- the values of the four columns
abbrev pub offset_in : Span → ℕ
offset_in s = s.offset

abbrev pub length_in : Span → ℕ
length_in s = s.length

abbrev pub noffset_in : Span → ℕ
noffset_in s = s.noffset

abbrev pub nlength_in : Span → ℕ
nlength_in s = s.nlength

-- a lent column afterwards
abbrev pub left_under : Verdict → List ℕ → List ℕ → List ℕ
left_under (Ok _) values cells = values ++ drop (length values) cells
left_under (Err r) values cells = cells

-- the six columns of spans, as they are lent and as they are left: a column is the values that it is to hold
pub record Columns : Type 0 where
  pub offsets : List ℕ
  pub lengths : List ℕ
  pub noffsets : List ℕ
  pub nlengths : List ℕ
  pub starts : List ℕ
  pub ends : List ℕ

-- what they hold of calls from a place on
abbrev pub columns_of : List ℕ → List ℕ → ℕ → List Parse → Columns
columns_of scalars stream at calls =
    record {
      offsets = map offset_in (spans_in scalars stream at calls);
      lengths = map length_in (spans_in scalars stream at calls);
      noffsets = map noffset_in (spans_in scalars stream at calls);
      nlengths = map nlength_in (spans_in scalars stream at calls);
      starts = starts_in scalars calls;
      ends = ends_in scalars stream at calls;
    }

abbrev pub lefts : Verdict → Columns → Columns → Columns
lefts v values cells =
    record {
      offsets = left_under v values.offsets cells.offsets;
      lengths = left_under v values.lengths cells.lengths;
      noffsets = left_under v values.noffsets cells.noffsets;
      nlengths = left_under v values.nlengths cells.nlengths;
      starts = left_under v values.starts cells.starts;
      ends = left_under v values.ends cells.ends;
    }

-- the length of the shortest of them
abbrev pub shortest_of : Columns → ℕ
shortest_of c =
    min (length c.offsets) (min (length c.lengths) (min (length c.noffsets) (min (length c.nlengths) (min (length c.starts) (length c.ends)))))

-- the verdict of a run over nine columns: segment's, by the shortest of all
abbrev pub span_verdict : Parser → Mode → Text → List ℕ → List ℕ → List ℕ → Columns → Verdict
span_verdict parser mode t scalars classes clusters cells =
    run_verdict parser mode t (min (shortest scalars classes clusters) (shortest_of cells))

-- a run over any text: segment's, and the six columns
pub record RanSpans (parser : Parser) (mode : Mode) (t : Text) (scalars classes clusters : List ℕ) (cells : Columns) (r : RunAnswer) (scalars' classes' clusters' : List ℕ) (cells' : Columns) : Type 0 where
  pub base : Ran (span_verdict parser mode t scalars classes clusters cells) (calls_of parser mode (stream_of mode parser t)) scalars classes clusters r scalars' classes' clusters'
  pub left : cells' ≡ lefts (span_verdict parser mode t scalars classes clusters cells) (columns_of t.records.scalars (stream_of mode parser t) 0 (calls_of parser mode (stream_of mode parser t))) cells

-- The same as a contract says it: columns as they were lent, and as they are left

abbrev pub entries : Output → Output → Output → Output → Output → Output → Columns
entries o l m n s e =
    record { offsets = o.entry.now; lengths = l.entry.now; noffsets = m.entry.now; nlengths = n.entry.now; starts = s.entry.now; ends = e.entry.now }

abbrev pub exits : Output → Output → Output → Output → Output → Output → Columns
exits o l m n s e =
    record { offsets = o.exit.now; lengths = l.exit.now; noffsets = m.exit.now; nlengths = n.exit.now; starts = s.exit.now; ends = e.exit.now }

abbrev pub RanSpansIn : Parser → Mode → Text → Output → Output → Output → Output → Output → Output → Output → Output → Output → RunAnswer → Type 0
RanSpansIn parser mode t os oc on o l m n s e r =
    RanSpans parser mode t os.entry.now oc.entry.now on.entry.now (entries o l m n s e) r os.exit.now oc.exit.now on.exit.now (exits o l m n s e)
