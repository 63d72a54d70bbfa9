-- A cluster's space as a number, and its scalar: none, newline, or from a scalar (SCOPE 4.1).
use Rattle.std.specs.Prelude.{ℕ}
use Rattle.parse.specs.declared.Space.{Space}
use Rattle.parse.specs.declared.Space.TheVariants.{None, Newline, From}

abbrev pub space_code : Space → ℕ
space_code None = 0
space_code Newline = 1
space_code (From scalar) = 2

-- the scalar that it is from, and 0 where it is from none
abbrev pub space_scalar : Space → ℕ
space_scalar None = 0
space_scalar Newline = 0
space_scalar (From scalar) = scalar
