-- Rows of choices, read from the top: the first row whose test holds gives the answer.
use Rattle.std.specs.Prelude.{Bool, cond}

infixr 20 ◌⇒◌▹◌
abbrev pub ◌⇒◌▹◌ : {A : Type 0} → Bool → A → A → A
test ⇒ answer ▹ later = cond test answer later
