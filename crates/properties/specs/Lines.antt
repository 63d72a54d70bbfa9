-- A line of a property file: "Lines hold a scalar or a range with two dots, a semicolon, a value, and perhaps a comment after a number sign;
-- blank and comment lines are skipped."
--
--     line    = blanks [ scalars blanks ";" blanks value blanks ] [ "#" anything ]
--     scalars = hex [ ".." hex ]
--     value   = one or more bytes, none of them a blank, ";" or "#"
use Rattle.std.specs.Prelude.{ℕ, zero, suc, ◌+◌, ◌-◌, Bool, cond, ◌||◌, List, [], ◌∷◌, eqb, leb, length, get_or, take, drop, Some, None}
use Prim.Native.Char.{code}
use Rattle.basics.specs.Choices.{◌⇒◌▹◌}
use Rattle.basics.specs.Sets.{any}
use Rattle.cases.specs.Numbers.{number_of, Number}
use Rattle.cases.specs.Spans.{before, up_to, after}
use Rattle.properties.specs.declared.Line.{Line}
use Rattle.properties.specs.declared.Line.TheVariants.{Skipped, Malformed, Range}

-- blanks are space and tab
unfoldable pub is_blank : ℕ → Bool
is_blank b = eqb b (code " ") || eqb b (code "\t")

-- how many blanks stand at the start
unfoldable pub leading : List ℕ → ℕ
leading [] = 0
leading (b ∷ bs) = cond (is_blank b) (suc (leading bs)) 0

-- where those at the end of the first n bytes begin
unfoldable pub ending : List ℕ → ℕ → ℕ
ending bs zero = 0
ending bs (suc n) = cond (is_blank (get_or bs n 0)) (ending bs n) (suc n)

unfoldable pub untailed : List ℕ → List ℕ
untailed bs = take (ending bs (length bs)) bs

-- without the blanks at both ends
unfoldable pub trimmed : List ℕ → List ℕ
trimmed bs = untailed (drop (leading bs) bs)

-- one CR directly before the end of a line belongs to that end
unfoldable pub without_CR : List ℕ → List ℕ
without_CR line = eqb (get_or line (length line - 1) 0) (code "\r") ⇒ take (length line - 1) line ▹ line

-- what stands before the comment
unfoldable pub body_of : List ℕ → List ℕ
body_of line = trimmed (up_to (code "#") (without_CR line))

unfoldable pub scalars_of : List ℕ → List ℕ
scalars_of body = trimmed (up_to (code ";") body)

unfoldable pub value_of : List ℕ → List ℕ
value_of body = trimmed (after (code ";") body)

unfoldable pub is_between : ℕ → Bool
is_between b = is_blank b || eqb b (code ";")

-- no byte at all, or a second value or a third field behind the first
unfoldable pub no_value : List ℕ → Bool
no_value value = eqb (length value) 0 || any is_between value

-- "A scalar above 10FFFF .. is malformed; D800 to DFFF are read.": digits of either case, whose whole value is judged
unfoldable pub hex : List ℕ → Number
hex digits = number_of 16 0x10FFFF digits

unfoldable pub first_of : List ℕ → Number
first_of scalars = hex (up_to (code ".") scalars)

-- without dots it is the one scalar
unfoldable pub last_of : List ℕ → Number
last_of scalars =
    leb (length scalars) (before (code ".") scalars) ⇒ first_of scalars
    ▹ eqb (get_or scalars (before (code ".") scalars + 1) 0) (code ".") ⇒ hex (drop (before (code ".") scalars + 2) scalars)
    ▹ None

-- "a range that runs downward is malformed"
abbrev pub range_of : Number → Number → Line
range_of None last = Malformed
range_of (Some first) None = Malformed
range_of (Some first) (Some last) = leb first last ⇒ Range first last ▹ Malformed

-- a line without its LF
unfoldable pub line_of : List ℕ → Line
line_of line =
    eqb (length (body_of line)) 0 ⇒ Skipped
    ▹ no_value (value_of (body_of line)) ⇒ Malformed
    ▹ range_of (first_of (scalars_of (body_of line))) (last_of (scalars_of (body_of line)))

-- the bytes of its value
unfoldable pub value_in : List ℕ → List ℕ
value_in line = value_of (body_of line)
