-- What one line says in a file. "Refusals: 11 malformed line, 12 unknown value, ..; in it the lowest number"
use Rattle.std.specs.Prelude.{ℕ, List, Some, None}
use Rattle.properties.specs.declared.File.{File}
use Rattle.properties.specs.Names.{Value, code_of}
use Rattle.properties.specs.declared.Line.{Line}
use Rattle.properties.specs.declared.Ruling.{Ruling}
use Rattle.properties.specs.declared.Ruling.TheVariants.{Nothing, Refused, Range}
use Rattle.properties.specs.Lines.{line_of, value_in}

abbrev pub range_ruled : ℕ → ℕ → Value → Ruling
range_ruled first last (Some code) = Range first last code
range_ruled first last None = Refused 12

abbrev pub ruled : Line → Value → Ruling
ruled Line.Skipped value = Nothing
ruled Line.Malformed value = Refused 11
ruled (Line.Range first last) value = range_ruled first last value

unfoldable pub ruling_of : File → List ℕ → Ruling
ruling_of file line = ruled (line_of line) (code_of file (value_in line))
