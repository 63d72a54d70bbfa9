use mathlib.Core.Path.{refl}
use Rattle.tables.specs.Symbols.{table_of}
use Rattle.tables.specs.ComplexTable.{complex_table}
use Rattle.tables.specs.KhmerTable.{khmer_table}
use Rattle.segment.proofs.direct.use_table.Goals as goal

pub returns-then-khmer : goal.returns-then-khmer
returns-then-khmer c = rw c.if-khmer.true (unfold table_of khmer_table in refl)

pub returns-else-khmer : goal.returns-else-khmer
returns-else-khmer c = rw c.if-khmer.false (unfold table_of complex_table in refl)
