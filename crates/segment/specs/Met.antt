-- "An enum's cases have their numbers from this document by a definition that the contracts use" (SCOPE 10): what a call met (4.4). And
-- the lines of the table of refusals that are the stepping call's and the full run's own.
use Rattle.std.specs.Prelude.{ℕ, ◌*◌, ◌<◌, ◌≡◌, List, Ok, Err, ltb, length}
use Rattle.classes.specs.declared.Mode.{Mode}
use Rattle.records.specs.Text.{Text}
use Rattle.records.specs.Offences.{Line, line}
use Rattle.records.specs.declared.Parser.{Parser}
use Rattle.records.specs.Verdict.{Verdict}
use Rattle.stream.specs.Stream.{stream_of}
use Rattle.segment.specs.declared.Segmenter.{Segmenter}
use Rattle.segment.specs.declared.Answer.{Answer}
use Rattle.segment.specs.declared.What.{What}
use Rattle.segment.specs.declared.What.TheVariants.{Found, Over, Refused}
use Rattle.segment.specs.Calls.{called, refused, end, found}

-- # What a call met

-- as a number: a cluster, the end, a refusal
abbrev pub what_code : What → ℕ
what_code Found = 0
what_code Over = 1
what_code (Refused r) = 2

-- the refusal, with the table's number, its side and its index
abbrev pub refusal_in : What → Verdict
refusal_in Found = Ok tt
refusal_in Over = Ok tt
refusal_in (Refused r) = Err r

-- the whole answer: before the end the next place, the cluster and the number of tokens passed; at the end the same place, the empty
-- cluster and 0; with a refusal the place that was given, the empty cluster and 0 (SCOPE 4.2, 5.4)
abbrev pub Met : Segmenter → List ℕ → Answer → What → Type 0
Met s stream a Found = (s.place.at < length stream) × (a ≡ found s stream (called s.parser s.mode stream s.place.at))
Met s stream a Over = (s.place.at ≡ length stream) × (a ≡ end s)
Met s stream a (Refused r) = a ≡ refused s r

-- # The calls' own lines

-- 8: "the place is beyond the end"
abbrev pub place_line : Segmenter → Text → Line
place_line s t = line 8 (ltb (length (stream_of s.mode s.parser t)) s.place.at)

-- 9: "the shortest of the output columns has too few cells: in a full run fewer than 2 for each token"
abbrev pub room_line : Parser → Mode → Text → ℕ → Line
room_line parser mode t cells = line 9 (ltb cells (2 * length (stream_of mode parser t)))
