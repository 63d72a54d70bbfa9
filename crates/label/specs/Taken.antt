-- How many scalars were read, or why none: the byte or the number, counted from 0.
use Rattle.std.specs.Prelude.{ℕ, Result}
use Rattle.label.specs.declared.texts.Unread.{Unread}

abbrev pub Taken : Type 0
Taken = Result ℕ Unread
