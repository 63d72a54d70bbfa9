-- What only private contracts need: line answers laid over cells that hold word answers.
use Rattle.std.specs.Prelude.{ℕ, cond, List, eqb}
use Rattle.records.specs.Text.{cell}
use Rattle.lines.specs.Rules.{boundary_code}
use Rattle.lines.specs.Run.{line_at}
use Rattle.lines.specs.declared.Strength.{Strength}

-- the number of a line answer, and the word answer where that is none
abbrev pub merged : ℕ → ℕ → ℕ
merged line word = cond (eqb line 0) word line

-- what is laid over the cell at an index of a column
unfoldable pub laid_at : Strength → List ℕ → List ℕ → List ℕ → ℕ → ℕ
laid_at strength table lines out i = merged (boundary_code (line_at strength table lines i)) (cell out i)
