use Rattle.properties.proofs.Outcomes.{read_long, read_over, read_lines}
use Rattle.properties.proofs.reading.read.Goals as goal

pub returns-then-bytes-gt-MOST : goal.returns-then-bytes-gt-MOST
returns-then-bytes-gt-MOST c = search read_long

pub returns-then-cells-held : goal.returns-then-cells-held
returns-then-cells-held c = search read_over

pub read_lines-requires : goal.read_lines-requires
read_lines-requires c = search read_lines
