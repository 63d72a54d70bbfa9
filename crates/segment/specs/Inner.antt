-- What only private contracts need: calls and runs on an array of tokens.
use Rattle.std.specs.Prelude.{ℕ, ◌+◌, ◌*◌, ◌≤◌, min, List, true, false, ◌≡◌, length, take}
use Rattle.classes.specs.declared.Mode.{Mode}
use Rattle.records.specs.declared.Parser.{Parser}
use Rattle.records.specs.declared.Parser.TheVariants.{Simple, Myanmar, Complex, Khmer}
use Rattle.records.specs.Text.{Text}
use Rattle.stream.specs.Stream.{stream_of, count_in, most_tokens}
use Rattle.parse.specs.declared.Parse.{Parse}
use Rattle.segment.specs.declared.RunAnswer.{RunAnswer}
use Rattle.segment.specs.declared.Segmenter.{Segmenter}
use Rattle.segment.specs.declared.Answer.{Answer}
use Rattle.segment.specs.Calls.{answer_in}
use Rattle.segment.specs.Runs.{calls_of, shortest, room_for, Ran}

-- a text whose tokens fit the arrays of a call, as every accepted one does
pub record Streamed (mode : Mode) (parser : Parser) (t : Text) : Type 0 where
  pub few : length t.records.scalars ≤ 4096
  pub room : length (stream_of mode parser t) ≤ most_tokens

-- the first n cells are the stream's, as many as there is room for
pub record Filled (stream : List ℕ) (room n : ℕ) (cells : List ℕ) : Type 0 where
  pub number : n ≡ min (length stream) room
  pub same : take n cells ≡ take n stream

-- how many tokens the first 4,096 records give to a parser
abbrev pub token_count : Mode → Parser → Text → ℕ
token_count mode Simple t = length t.records.scalars
token_count mode Myanmar t = length t.records.scalars
token_count mode Complex t = count_in mode false t
token_count mode Khmer t = count_in mode true t

-- a call whose tokens fit in so many cells
abbrev pub NextIn : Segmenter → Text → ℕ → Answer → Type 0
NextIn s t room r = length (stream_of s.mode s.parser t) ≤ room → r ≡ answer_in s (stream_of s.mode s.parser t)

-- a call on an accepted text
abbrev pub NextOn : Segmenter → Text → Answer → Type 0
NextOn s t r = Streamed s.mode s.parser t → r ≡ answer_in s (stream_of s.mode s.parser t)

-- a run over the tokens of an accepted text
abbrev pub RanOn : Parser → Mode → List ℕ → List ℕ → List ℕ → List ℕ → RunAnswer → List ℕ → List ℕ → List ℕ → Type 0
RanOn parser mode stream scalars classes clusters =
    Ran (room_for (length stream) (shortest scalars classes clusters)) (calls_of parser mode stream) scalars classes clusters

-- the room that the characters of one call need
pub record Fits (p : Parse) (at : ℕ) (scalars classes clusters : List ℕ) : Type 0 where
  pub most : p.len ≤ 32
  pub cells : p.len ≤ length p.chars
  pub scalar : at + p.len ≤ length scalars
  pub class : at + p.len ≤ length classes
  pub cluster : at + p.len ≤ length clusters

-- the room that a run needs
pub record Roomy (stream scalars classes clusters : List ℕ) : Type 0 where
  pub short : length stream ≤ most_tokens
  pub scalar : 2 * length stream ≤ length scalars
  pub class : 2 * length stream ≤ length classes
  pub cluster : 2 * length stream ≤ length clusters
