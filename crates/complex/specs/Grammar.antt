-- The complex parser, src/text/cluster/complex.rs, "based on Microsoft's Universal Shaping Engine specification": a rule for each of its
-- functions and for each longer arm. It goes by the USE class, and its `accept` and `accept_any` push Other. `khmer` says whether
-- the script is Khmer. The emoji loop and the arm `O` are the shared `emojis` and `other_arm`.
use Rattle.std.specs.Prelude.{ℕ, Bool, true, false, cond, [], ◌∷◌, eqb}
use Rattle.basics.specs.Choices.{◌⇒◌▹◌}
use Rattle.classes.specs.declared.Shape.{Shape}
use Rattle.classes.specs.declared.Shape.TheVariants.{Base, Halant, Reph, Vs, Zwnj, Zwj, Other, VPre as VPre-shape, VBlw as VBlw-shape, VMPre as VMPre-shape}
use Rattle.classes.specs.UseClass.{B, CMAbv, CMBlw, CS, FAbv, FBlw, FM, FPst, GB, H, HN, IND, MAbv, MBlw, MPre, MPst, N, O, R, Rsv, S, SMAbv, SMBlw, SUB, VAbv, VBlw, VMAbv, VMBlw, VMPre, VMPst, VPre, VPst, VS, WJ, ZWJ, ZWNJ}
use Rattle.classes.specs.Scalar.{COENG}
use Rattle.token.specs.Token.{kind_of}
use Rattle.parse.specs.Rule.{Rule, Test, stop, push, mark, while, ◌▸◌, ◌⇒◌∣◌, take, accept, accept_as, many, many_as, is, is_scalar, is_emoji, one_of, set_broken}
use Rattle.parse.specs.Shared.{emojis, other_arm}

-- a test that is made only where the flag is set
unfoldable pub given : Bool → Test → Test
given flag p text i = cond flag (p text i) false

-- `to_shape_class`
abbrev pub to_shape_class : ℕ → Shape
to_shape_class k =
    eqb k B ⇒ Base
    ▹ eqb k H ⇒ Halant
    ▹ eqb k VPre ⇒ VPre-shape
    ▹ eqb k VMPre ⇒ VMPre-shape
    ▹ eqb k VBlw ⇒ VBlw-shape
    ▹ eqb k R ⇒ Reph
    ▹ eqb k ZWNJ ⇒ Zwnj
    ▹ eqb k ZWJ ⇒ Zwj
    ▹ Other

-- `self.accept_any_as(self.kind().to_shape_class())`
unfoldable pub by_kind : Rule
by_kind = push (λ t. to_shape_class (kind_of t))

unfoldable pub base_vs : Rule
base_vs = take Base ▸ accept_as VS Vs

unfoldable pub symbol_marks : Rule
symbol_marks = many SMAbv ▸ many SMBlw

unfoldable pub consonant_marks : Rule
consonant_marks = many CMAbv ▸ many CMBlw

-- U+17D2 in Khmer: Other after a base, where any other halant is Halant
unfoldable pub is_coeng : Bool → Test
is_coeng khmer = given khmer (is_scalar COENG)

unfoldable pub halant : Bool → Rule
halant khmer = is_coeng khmer ⇒ take Other ∣ take Halant

-- `parse_halant_base`, where it does something
unfoldable pub opens_halant : Test
opens_halant = one_of (SUB ∷ H ∷ [])

-- `parse_halant_base`; where it sets `vt`, after which `parse_standard_tail` returns, it is a stop
unfoldable pub halant_base : Bool → Rule
halant_base khmer =
    is SUB ⇒ take Other ▸ consonant_marks
    ∣ halant khmer ▸ (is B ⇒ base_vs ▸ consonant_marks ∣ stop)

-- `parse_vowel_modifier`, where it answers true; the halant is the Rust's "spec break"
unfoldable pub is_vowel_modifier : Test
is_vowel_modifier = one_of (VMPre ∷ VMAbv ∷ VMBlw ∷ VMPst ∷ H ∷ [])

-- `parse_vowel_modifier`
unfoldable pub vowel_modifier : Rule
vowel_modifier = is VMPre ⇒ take VMPre-shape ∣ take Other

unfoldable pub medials : Rule
medials = accept MPre ▸ accept MAbv ▸ accept MBlw ▸ accept MBlw ▸ accept MPst

unfoldable pub vowels : Rule
vowels = many_as VPre VPre-shape ▸ many VAbv ▸ many VBlw ▸ many VPst

unfoldable pub finals : Rule
finals = many FAbv ▸ many FBlw ▸ many FPst ▸ accept FM

-- `parse_standard_tail`, behind the consonant marks
unfoldable pub syllable : Bool → Rule
syllable khmer = while opens_halant (halant_base khmer) ▸ medials ▸ vowels ▸ while is_vowel_modifier vowel_modifier ▸ finals

-- `parse_standard_tail`, where it is no symbol. The Rust ignores the results of these two runs: where one ended at a cluster of 32 or
-- at the end of the text it goes on with the same token. With refusal 6 that pushes nothing (SCOPE 6.6, Ignored.antt), so that
-- the rule need not say it.
unfoldable pub marked_syllable : Bool → Rule
marked_syllable khmer = consonant_marks ▸ syllable khmer

unfoldable pub is_symbol_mark : Bool → Test
is_symbol_mark symbol = given symbol (one_of (SMAbv ∷ SMBlw ∷ []))

-- `parse_standard_tail`
unfoldable pub standard_tail : Bool → Bool → Rule
standard_tail khmer symbol = accept_as VS Vs ▸ (is_symbol_mark symbol ⇒ symbol_marks ∣ marked_syllable khmer)

-- `parse_standard`; behind R and CS any token that is no base is a broken member
unfoldable pub standard : Bool → Bool → Rule
standard khmer symbol =
    one_of (B ∷ GB ∷ []) ⇒ take Base ▸ standard_tail khmer symbol
    ∣ mark set_broken ▸ by_kind

-- `parse_halant_number`; where it is no number that follows, it is a stop
unfoldable pub halant_number : Rule
halant_number = take Halant ▸ (is N ⇒ base_vs ∣ stop)

-- the arm `N`
unfoldable pub number : Rule
number = base_vs ▸ while (is HN) halant_number

-- the arm `S`
unfoldable pub symbol : Rule
symbol = base_vs ▸ symbol_marks

-- the arms from `B | GB` on: only GB is a potential symbol
unfoldable pub letter : Bool → Rule
letter khmer =
    is B ⇒ standard khmer false
    ∣ is GB ⇒ standard khmer true
    ∣ is N ⇒ number
    ∣ is S ⇒ symbol
    ∣ standard khmer false

-- `parse`
unfoldable pub cluster : Bool → Rule
cluster khmer =
    is_emoji ⇒ emojis
    ∣ is O ⇒ other_arm
    ∣ one_of (IND ∷ Rsv ∷ WJ ∷ []) ⇒ base_vs
    ∣ is R ⇒ take Reph ▸ standard khmer false
    ∣ is CS ⇒ take Other ▸ standard khmer false
    ∣ letter khmer
