-- "Every way of extending": a list that grew by one list after another.
use Rattle.std.specs.Prelude.{ℕ, List, [], ◌∷◌, ◌++◌}

-- what it is at the end, after all that came
unfoldable pub grown : List ℕ → List (List ℕ) → List ℕ
grown stream [] = stream
grown stream (more ∷ later) = grown (stream ++ more) later
