use mathlib.Core.Path.{sym, ◌∙◌}
use Rattle.properties.proofs.ranges.Rows.code_among.Goals as goal

pub search-requires : goal.search-requires
search-requires c = (c.requires.0, sym c.requires.1 ∙ c.if-sorted.true)
