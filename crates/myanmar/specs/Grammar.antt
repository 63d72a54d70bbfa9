-- The grammar of src/text/cluster/myanmar.rs, a rule for each function of the Rust and in its order. A call of it steps over U+034F:
-- it is begun with `joins` true.
use Rattle.std.specs.Prelude.{ℕ, ◌+◌, false, cond, List, [], ◌∷◌, eqb}
use Rattle.basics.specs.Sets.{member}
use Rattle.classes.specs.declared.Shape.TheVariants.{Base, Kinzi, Halant, VPre as VPre-shape, VBlw as VBlw-shape, MedialRa, Anusvara, Vs, Other}
use Rattle.classes.specs.MyanmarClass.{A, As, C, D, D0, DB, H, IV, J, MH, MR, MW, MY, O, P, PT, R, S, «V», VAbv, VBlw, VPre, VPst, VS, WJ}
use Rattle.classes.specs.Scalar.{kinzi_firsts, ASAT, VIRAMA}
use Rattle.token.specs.Token.{scalar_of}
use Rattle.parse.specs.State.{token_at}
use Rattle.parse.specs.Rule.{Rule, Test, skip, stop, mark, while, thrice, ◌▸◌, ◌⇒◌∣◌, take, accept, accept_as, many, many_as, is, is_emoji, one_of, set_broken}
use Rattle.parse.specs.Shared.{emojis, other_arm}

-- the scalar of the token at a place
abbrev pub scalar_at : List ℕ → ℕ → ℕ
scalar_at text i = scalar_of (token_at text i)

-- "Three tokens in a row with the scalars U+1004, U+101B or U+105A, then U+103A, then U+1039" (SCOPE 6.8)
unfoldable pub is_kinzi : Test
is_kinzi text i = cond (member kinzi_firsts (scalar_at text i)) (cond (eqb (scalar_at text (i + 1)) ASAT) (eqb (scalar_at text (i + 2)) VIRAMA) false) false

-- `if self.accept(kind)? { self.accept(As)?; }`
unfoldable pub accept_with_as : ℕ → Rule
accept_with_as kind = is kind ⇒ take Other ▸ accept As ∣ skip

-- `parse_stacked_consonant_or_vowel`, a turn of its loop; `vt`, which returns after the loop, is a stop
unfoldable pub stacked : Rule
stacked = take Halant ▸ (one_of (C ∷ IV ∷ []) ⇒ take Base ▸ accept_as VS Vs ∣ stop)

-- `parse_post_base_vowel`, a turn of its loop
unfoldable pub post_base_vowel : Rule
post_base_vowel = take Other ▸ accept MH ▸ many As ▸ many VAbv ▸ many_as A Anusvara ▸ accept_with_as DB

-- `parse_pwo_tone_mark`, a turn of its loop
unfoldable pub pwo_tone_mark : Rule
pwo_tone_mark = take Other ▸ (is As ⇒ take Other ▸ accept_as A Anusvara ∣ many_as A Anusvara ▸ accept DB ▸ accept As)

-- `parse`, the arm `C | IV | D | DB`, in four pieces
unfoldable pub medials : Rule
medials = many As ▸ accept_with_as MY ▸ accept_as MR MedialRa ▸ (is MW ⇒ take Other ▸ accept MH ▸ accept As ∣ accept_with_as MH)

unfoldable pub vowels : Rule
vowels = many_as VPre VPre-shape ▸ many VAbv ▸ many_as VBlw VBlw-shape ▸ many_as A Anusvara ▸ accept_with_as DB

unfoldable pub finals : Rule
finals = while (is VPst) post_base_vowel ▸ while (is PT) pwo_tone_mark ▸ many «V» ▸ accept J

unfoldable pub base : Rule
base = take Base ▸ accept_as VS Vs ▸ while (is H) stacked ▸ medials ▸ vowels ▸ finals

-- `parse`, its last arm: a kinzi, then by the class of the token that is current now; where the last token is taken once more
-- that is by its own class
unfoldable pub kinzi : Rule
kinzi = is_kinzi ⇒ thrice Kinzi ∣ skip

unfoldable pub syllable : Rule
syllable = one_of (C ∷ IV ∷ D ∷ DB ∷ []) ⇒ base ∣ mark set_broken ▸ take Other

-- `parse`, the arm `P | S | R | WJ | D0`
abbrev pub alone : List ℕ
alone = P ∷ S ∷ R ∷ WJ ∷ D0 ∷ []

unfoldable pub is_alone : Test
is_alone = one_of alone

-- `parse`
unfoldable pub cluster : Rule
cluster =
    is_emoji ⇒ emojis
    ∣ is O ⇒ other_arm
    ∣ is_alone ⇒ take Other
    ∣ kinzi ▸ syllable
