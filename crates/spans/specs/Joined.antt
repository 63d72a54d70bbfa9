-- What is said of all spans together: that they "join without gap or overlap and cover the text" (SCOPE 12.7).
use Rattle.std.specs.Prelude.{ℕ, zero, suc, ◌+◌, ◌-◌, ◌<◌, ◌≡◌, cond, List, [], ◌∷◌, ◌++◌, ◌⊎◌, eqb, length, take}
use Rattle.classes.specs.declared.Mode.{Mode}
use Rattle.records.specs.Text.{Text}
use Rattle.records.specs.declared.Parser.{Parser}
use Rattle.parse.specs.declared.Cluster.{Cluster}
use Rattle.segment.specs.declared.Segmenter.{Segmenter}
use Rattle.segment.specs.Repeats.{repeated, when_found}
use Rattle.spans.specs.declared.Span.{Span}
use Rattle.spans.specs.declared.SpanAnswer.{SpanAnswer}
use Rattle.spans.specs.Offsets.{offset_of, end_of}
use Rattle.spans.specs.Spans.{spanned}

-- the answers of the stepping calls with spans, from a state on, each from the state that the one before handed back, up to the first that
-- finds no cluster; n at most
unfoldable pub span_answers : ℕ → Segmenter → Text → List SpanAnswer
span_answers zero s t = []
span_answers (suc n) s t =
    let a = spanned s t in
    let later = span_answers n a.answer.state t in
    when_found a.answer.what (a ∷ later)

-- a stretch of bytes: from an offset up to another
pub record Stretch : Type 0 where
  pub from : ℕ
  pub to : ℕ

-- of a character: its own, and that of its notes, if it has some
abbrev pub own_of : Span → Stretch
own_of s = record { from = s.offset; to = s.offset + s.length }

abbrev pub notes_of : Span → List Stretch
notes_of s = cond (eqb s.nlength 0) [] (record { from = s.noffset; to = s.noffset + s.nlength } ∷ [])

unfoldable pub stretches : List Span → List Stretch
stretches [] = []
stretches (s ∷ ss) = own_of s ∷ (notes_of s ++ stretches ss)

-- the stretches of all characters of answers, and those of their clusters
unfoldable pub character_stretches : List SpanAnswer → List Stretch
character_stretches [] = []
character_stretches (a ∷ later) = stretches (take a.answer.cluster.len a.spans.chars) ++ character_stretches later

unfoldable pub cluster_stretches : List SpanAnswer → List Stretch
cluster_stretches [] = []
cluster_stretches (a ∷ later) = record { from = a.spans.start; to = a.spans.end } ∷ cluster_stretches later

-- the same of the characters "once the repeats are struck out" (SCOPE 12.7), of answers the first of which began at a place
abbrev pub once_in : Mode → Parser → List ℕ → ℕ → Cluster → ℕ
once_in mode parser stream at c = cond (repeated mode parser stream at c) (c.len - 1) c.len

unfoldable pub once_stretches : Mode → Parser → List ℕ → ℕ → List SpanAnswer → List Stretch
once_stretches mode parser stream at [] = []
once_stretches mode parser stream at (a ∷ later) =
    stretches (take (once_in mode parser stream at a.answer.cluster) a.spans.chars) ++ once_stretches mode parser stream a.answer.state.place.at later

-- what a full run writes, out of the answers
unfoldable pub all_spans : List SpanAnswer → List Span
all_spans [] = []
all_spans (a ∷ later) = take a.answer.cluster.len a.spans.chars ++ all_spans later

abbrev pub start_in : SpanAnswer → ℕ
start_in a = a.spans.start

abbrev pub end_in : SpanAnswer → ℕ
end_in a = a.spans.end

-- stretches from one offset to another, in each of which the next may begin as `Next` has it, by where the last one ended
abbrev pub Joins : (ℕ → ℕ → Type 0) → ℕ → List Stretch → ℕ → Type 0
Joins Next e [] to = e ≡ to
Joins Next e (x ∷ xs) to = Next e x.from × Joins Next x.to xs to

-- "without gap or overlap"
abbrev pub Meets : ℕ → ℕ → Type 0
Meets e from = e ≡ from

-- "two neighbours may share one record": the next one begins where the last one ended, or where a record begins that the last one ended with
abbrev pub Shares : List ℕ → ℕ → ℕ → Type 0
Shares scalars e from = (i : ℕ) × ((i < length scalars) × ((from ≡ offset_of scalars i) × (e ≡ end_of scalars i)))

abbrev pub MeetsOrShares : List ℕ → ℕ → ℕ → Type 0
MeetsOrShares scalars e from = (e ≡ from) ⊎ Shares scalars e from
