-- What only private contracts need. What a loop over a table asks of its way to the cells: the cell of the token that a run is at.
use Rattle.std.specs.Prelude.{ℕ, ◌<◌, ◌≤◌, ◌≡◌, Bool, false, cond, List, length}
use Rattle.classes.specs.declared.Mode.{Mode}
use Rattle.token.specs.Token.{scalar_of}
use Rattle.records.specs.declared.Parser.{Parser}
use Rattle.records.specs.declared.Parser.TheVariants.{Simple, Myanmar, Complex, Khmer}
use Rattle.parse.specs.State.{token_at}
use Rattle.tables.specs.Symbols.{index_of, rows_of, table_of, cell_at, Regular}
use Rattle.segment.specs.Calls.{joins}
use Rattle.segment.specs.Going.{crowded_at}
use Rattle.segment.specs.declared.going.Going.{Going}
use Rattle.segment.specs.declared.going.Look.{Look}

-- no room for CR and LF
abbrev pub crowds : Parser → Mode → List ℕ → ℕ → ℕ → ℕ → ℕ → Bool
crowds Simple mode text row i o stop = crowded_at mode text row i o stop
crowds Myanmar mode text row i o stop = false
crowds Complex mode text row i o stop = false
crowds Khmer mode text row i o stop = false

-- the cell by which a cluster is over
abbrev pub over_cell : ℕ
over_cell = 48

-- the cell of the token at its place; where the cluster under way ends before it, the one by which it is over
unfoldable pub looked : Parser → Mode → List ℕ → Going → ℕ
looked parser mode text g =
    cond (crowds parser mode text g.row g.at g.characters g.stop) over_cell
    (cell_at (joins parser) (table_of parser) (scalar_of (token_at text g.at)) (index_of parser mode text g.at g.row) g.row)

-- a run at a token of its text
pub record Facing (parser : Parser) (text : List ℕ) (g : Going) : Type 0 where
  pub inside : g.at < length text
  pub row_in : g.row < rows_of parser
  pub regular : Regular parser text
  pub room : g.characters ≤ 65535

-- the token's cell and its scalar
pub record Sees (parser : Parser) (mode : Mode) (text : List ℕ) (g : Going) (r : Look) : Type 0 where
  pub cell : r.cell ≡ looked parser mode text g
  pub scalar : r.scalar ≡ scalar_of (token_at text g.at)
