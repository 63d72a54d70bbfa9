-- A cluster's emoji as a number: none, Default, Text or Color (SCOPE 4.1).
use Rattle.std.specs.Prelude.{ℕ}
use Rattle.parse.specs.declared.Emoji.{Emoji}
use Rattle.parse.specs.declared.Emoji.TheVariants.{None, Default, Text, Color}

abbrev pub emoji_code : Emoji → ℕ
emoji_code None = 0
emoji_code Default = 1
emoji_code Text = 2
emoji_code Color = 3
