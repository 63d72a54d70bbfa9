-- What the table says of a text's scalars.
use Rattle.std.specs.Prelude.{ℕ, List, get_or}
use Rattle.label.specs.declared.lookup.Field.{Field}
use Rattle.label.specs.Lines.{field_of, said}
use Rattle.label.specs.Table.{table}

unfoldable pub said_at : Field → List ℕ → ℕ → ℕ
said_at field scalars i = said (field_of field) table (get_or scalars i 0)
