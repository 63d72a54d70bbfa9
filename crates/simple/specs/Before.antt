-- The simple parser as it was before CR and LF were kept together at 32 characters (SCOPE 12.4): only the theorems on what that moved
-- need it.
use Rattle.classes.specs.declared.Shape.TheVariants.{Base, Control}
use Rattle.classes.specs.ClusterBreak.{CN, CR, LF, PP}
use Rattle.parse.specs.Rule.{Rule, while, ◌▸◌, ◌⇒◌∣◌, take, accept_as, many_as, is, is_emoji}
use Rattle.parse.specs.Shared.{emojis, newline}
use Rattle.simple.specs.Grammar.{is_extension, extension, syllable}

unfoldable pub control_before : Rule
control_before =
    is CN ⇒ take Control
    ∣ is LF ⇒ newline
    ∣ is CR ⇒ newline ▸ accept_as LF Control
    ∣ syllable

unfoldable pub start_before : Rule
start_before = is_emoji ⇒ emojis ∣ control_before

unfoldable pub cluster_before : Rule
cluster_before = many_as PP Base ▸ start_before ▸ while is_extension extension
