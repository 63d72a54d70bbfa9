-- The class of the next record, or none at the end of the text.
use Rattle.std.specs.Prelude.{ℕ, Option}

abbrev pub Next : Type 0
Next = Option ℕ
