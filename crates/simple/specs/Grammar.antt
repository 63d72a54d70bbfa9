-- The simple parser, src/text/cluster/simple.rs: a rule for its `parse`, for its `parse_extension` and for each longer arm. It goes
-- by the cluster break, and its `accept` and `accept_any` push Base. The emoji loop and its `parse_emoji_extension` are the shared `emojis`.
use Rattle.std.specs.Prelude.{[], ◌∷◌}
use Rattle.classes.specs.declared.Shape.TheVariants.{Base, Mark, Control, Vs, Zwnj, Zwj}
use Rattle.classes.specs.ClusterBreak.{CN, CR, LF, L, «V», T, LV, LVT, RI, EX, SM, ZWJ, PP}
use Rattle.classes.specs.Scalar.{ZWNJ}
use Rattle.parse.specs.Rule.{Rule, Test, skip, mark, while, ◌▸◌, ◌⇒◌∣◌, take, accept_as, many_as, is, is_scalar, is_emoji, is_selector, one_of, set_broken, set_space_from_char, force_normalize}
use Rattle.parse.specs.Shared.{emojis, newline, newline_with}

-- `parse_extension`, where it answers true
unfoldable pub is_extension : Test
is_extension = one_of (EX ∷ SM ∷ ZWJ ∷ [])

-- `parse_extension`: a mark that may compose with what it follows
unfoldable pub combining : Rule
combining = mark force_normalize ▸ take Mark

-- `parse_extension`, its arm `EX`
unfoldable pub extend : Rule
extend =
    is_scalar ZWNJ ⇒ take Zwnj
    ∣ is_selector ⇒ take Vs
    ∣ combining

-- `parse_extension`
unfoldable pub extension : Rule
extension =
    is EX ⇒ extend
    ∣ is SM ⇒ combining
    ∣ take Zwj

-- the arm `L`; each arm of Hangul takes two at most
unfoldable pub leading : Rule
leading = take Base ▸ (one_of (L ∷ «V» ∷ LV ∷ LVT ∷ []) ⇒ take Base ∣ skip)

-- the arm `LV | V`
unfoldable pub vowel : Rule
vowel = take Base ▸ (one_of («V» ∷ T ∷ []) ⇒ take Base ∣ skip)

-- the arm `LVT | T`
unfoldable pub trailing : Rule
trailing = take Base ▸ accept_as T Base

-- the last three arms: one RI to a cluster; an extension at the start is broken, and is left to the loop at the end of `parse`
unfoldable pub other : Rule
other =
    is RI ⇒ accept_as RI Base
    ∣ is_extension ⇒ mark set_broken
    ∣ mark set_space_from_char ▸ take Base

-- the arms of Hangul
unfoldable pub syllable : Rule
syllable =
    is L ⇒ leading
    ∣ one_of (LV ∷ «V» ∷ []) ⇒ vowel
    ∣ one_of (LVT ∷ T ∷ []) ⇒ trailing
    ∣ other

-- `match self.kind()`: the arms `CN`, `LF` and `CR`; CR and LF are not parted in whole mode, also at 32 characters
unfoldable pub control : Rule
control =
    is CN ⇒ take Control
    ∣ is LF ⇒ newline
    ∣ is CR ⇒ newline_with LF ▸ accept_as LF Control
    ∣ syllable

-- `if self.emoji()` and its `else`
unfoldable pub start : Rule
start = is_emoji ⇒ emojis ∣ control

-- `parse`: prepended characters, before the emoji mark is looked at; one start; extensions, after controls too
unfoldable pub cluster : Rule
cluster = many_as PP Base ▸ start ▸ while is_extension extension
