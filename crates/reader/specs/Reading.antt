-- What a reader answers: it "borrows the columns and keeps its place" (SCOPE 4.4).
use Rattle.records.specs.Text.{lent}
use Rattle.segment.specs.Calls.{next_of}
use Rattle.segment.specs.declared.Answer.{Answer}
use Rattle.segment.specs.declared.Segmenter.{Segmenter}
use Rattle.reader.specs.declared.Reader.{Reader}

-- what the stepping call answers at its place
abbrev pub answer_of : Reader → Answer
answer_of r = next_of r.state (lent r.columns)

-- the same columns, at another state
abbrev pub moved_to : Reader → Segmenter → Reader
moved_to r state = record { state = state; columns = r.columns }
