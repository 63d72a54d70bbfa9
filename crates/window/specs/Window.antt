-- A part of a text that a parse runs on, the same parse on the whole text, and the tests that look at the current token only. "Let the
-- lent columns hold the text so far" (Req 09): the text so far is such a part, from the start on.
use Rattle.std.specs.Prelude.{ℕ, ◌+◌, ◌≤◌, ◌<◌, ◌≡◌, List, length}
use Rattle.parse.specs.declared.Parse.{Parse}
use Rattle.parse.specs.State.{token_at, with_place}
use Rattle.parse.specs.Rule.{Test}

-- the same parse with its place k tokens later
abbrev pub shift : ℕ → Parse → Parse
shift k s = with_place (s.at + k) s

-- `win` is what stands in `text` from place k on, so far
pub record Window (text win : List ℕ) (k : ℕ) : Type 0 where
  pub inside : length win + k ≤ length text
  pub same : (i : ℕ) → i < length win → token_at text (i + k) ≡ token_at win i

-- a test of the current token alone: the same token, the same answer
abbrev pub Near : Test → Type 0
Near p = (text text' : List ℕ) (i j : ℕ) → token_at text i ≡ token_at text' j → p text i ≡ p text' j
