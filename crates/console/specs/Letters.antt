-- The letters of a line of answers.
use Rattle.std.specs.Prelude.{ℕ}
use Rattle.records.specs.declared.Side.{Side}
use Rattle.records.specs.declared.Side.TheVariants.{Record, Part, Neither}

-- `r`, `p` and `-`
abbrev pub side_letter : Side → ℕ
side_letter Record = 114
side_letter Part = 112
side_letter Neither = 45
