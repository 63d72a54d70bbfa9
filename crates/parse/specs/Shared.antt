-- The rules that stand in more than one of the Rust parsers, once: the emoji loop (simple.rs, myanmar.rs, complex.rs) and the arm
-- for class O (myanmar.rs, complex.rs).
use Rattle.std.specs.Prelude.{ℕ, eqb}
use Rattle.basics.specs.Choices.{◌⇒◌▹◌}
use Rattle.classes.specs.declared.Shape.{Shape}
use Rattle.classes.specs.declared.Shape.TheVariants.{Base, Mark, Control, Zwnj, Zwj}
use Rattle.classes.specs.ClusterBreak.{EX, ZWJ as ZWJ-break}
use Rattle.classes.specs.Category.{Format, Control as Control-category}
use Rattle.classes.specs.Scalar.{CR, LF, ZWNJ, ZWJ, VS15, VS16}
use Rattle.token.specs.Token.{scalar_of, category_of}
use Rattle.parse.specs.declared.Emoji.TheVariants.{Default, Text, Color}
use Rattle.parse.specs.declared.Space.TheVariants.{Newline}
use Rattle.parse.specs.Rule.{Rule, skip, stop, push, note, mark, while, scope, fit, ◌▸◌, ◌⇒◌∣◌, take, next_is, is_break, is_scalar, is_emoji, set_emoji, set_space, set_space_from_char}

-- `parse_emoji_extension`, its arm EX: U+FE0F and U+FE0E "are noted instead" (SCOPE 6.2)
unfoldable pub emoji_mark : Rule
emoji_mark =
    is_scalar ZWNJ ⇒ take Zwnj
    ∣ is_scalar VS16 ⇒ mark (set_emoji Color) ▸ note
    ∣ is_scalar VS15 ⇒ mark (set_emoji Text) ▸ note
    ∣ take Mark

-- `parse_emoji_extension`; where it answers false, and so breaks the loop around it, it is a stop
unfoldable pub emoji_extension : Rule
emoji_extension = while (is_break EX) emoji_mark ▸ (is_break ZWJ-break ⇒ take Zwj ∣ stop)

-- a turn of the loop `while self.emoji()`
unfoldable pub emoji_turn : Rule
emoji_turn = take Base ▸ emoji_extension

-- the arm `if self.emoji()`
unfoldable pub emojis : Rule
emojis = mark (set_emoji Default) ▸ scope (while is_emoji emoji_turn)

-- the class of a character of class O, by its category
abbrev pub other_class : ℕ → Shape
other_class t =
    eqb (category_of t) Format ⇒ (eqb (scalar_of t) ZWNJ ⇒ Zwnj ▹ eqb (scalar_of t) ZWJ ⇒ Zwj ▹ Control)
    ▹ eqb (category_of t) Control-category ⇒ Control
    ▹ Base

unfoldable pub newline : Rule
newline = mark (set_space Newline) ▸ take Control

-- a newline that the token behind it belongs to, where that is of a kind: "if 31 characters are already pushed and the next token is" of
-- that kind, "the cluster ends before" it, "with space none" (SCOPE 6.9)
unfoldable pub newline_with : ℕ → Rule
newline_with k = fit (next_is k) (set_space Newline) (λ t. Control)

-- the arm `O`: "uniform clustering of CRLF across the parsers", by scalar
unfoldable pub other_arm : Rule
other_arm =
    is_scalar CR ⇒ newline ▸ (is_scalar LF ⇒ take Control ∣ skip)
    ∣ is_scalar LF ⇒ newline
    ∣ mark set_space_from_char ▸ push other_class
