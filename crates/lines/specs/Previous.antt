-- The class of the record before, or none at the start of the text.
use Rattle.std.specs.Prelude.{ℕ, Option}

abbrev pub Previous : Type 0
Previous = Option ℕ
