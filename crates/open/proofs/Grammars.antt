-- Every test of the complex parser sees the current token alone, and so does every test of the simple parser but the newline's, and of
-- the Myanmar parser but the kinzi's. Assumes nothing.
use mathlib.Core.Path.{refl}
use mathlib.Core.Bool.{Bool, true, false}
use Rattle.parse.specs.Rule.{Test, while}
use Rattle.parse.specs.Shared.{newline}
use Rattle.window.specs.Window.{Near}
use Rattle.window.proofs.Run.{Sees}
use Rattle.window.proofs.Shared.{nears, near_emoji, near_is, near_scalar, near_one, sees_emojis, sees_other}
use Rattle.simple.specs.Grammar as Simple-rules
use Rattle.simple.specs.Before.{cluster_before, start_before, control_before}
use Rattle.myanmar.specs.Grammar as Myanmar-rules
use Rattle.complex.specs.Grammar as Complex-rules

-- the simple parser, but for its newline
pub sees_hangul : Sees Simple-rules.syllable
unfolding Simple-rules.syllable Simple-rules.other Simple-rules.trailing Simple-rules.vowel Simple-rules.leading Simple-rules.is_extension
sees_hangul = search nears depth 40 fits 20000

pub sees_extensions : Sees (while Simple-rules.is_extension Simple-rules.extension)
unfolding Simple-rules.extension Simple-rules.extend Simple-rules.combining Simple-rules.is_extension
sees_extensions = search nears depth 20 fits 5000

-- the simple parser before its newline looked ahead
pub sees_before : Sees cluster_before
unfolding cluster_before start_before control_before newline
sees_before =
    ((near_is _, (refl, tt)), ((near_emoji, (sees_emojis, (near_is _, (tt, (near_is _, ((tt, tt), (near_is _, (((tt, tt), (near_is _, (tt, tt))), sees_hangul)))))))), sees_extensions))

-- the Myanmar parser, behind a kinzi
pub sees_syllable : Sees Myanmar-rules.syllable
unfolding Myanmar-rules.syllable Myanmar-rules.base Myanmar-rules.finals Myanmar-rules.vowels Myanmar-rules.medials Myanmar-rules.pwo_tone_mark Myanmar-rules.post_base_vowel Myanmar-rules.stacked Myanmar-rules.accept_with_as
sees_syllable = search nears depth 40 fits 20000

pub near_alone : Near Myanmar-rules.is_alone
unfolding Myanmar-rules.is_alone
near_alone = near_one Myanmar-rules.alone

near_given : (flag : Bool) (p : Test) → Near p → Near (Complex-rules.given flag p)
unfolding Complex-rules.given
near_given flag p n text text' i j e = rw (n text text' i j e)

near_coeng : (khmer : Bool) → Near (Complex-rules.is_coeng khmer)
unfolding Complex-rules.is_coeng
near_coeng khmer = near_given khmer _ (near_scalar _)

near_symbol : (symbol : Bool) → Near (Complex-rules.is_symbol_mark symbol)
unfolding Complex-rules.is_symbol_mark
near_symbol symbol = near_given symbol _ (near_one _)

sees_tail : (khmer symbol : Bool) → Sees (Complex-rules.standard khmer symbol)
unfolding Complex-rules.standard Complex-rules.standard_tail Complex-rules.marked_syllable Complex-rules.syllable Complex-rules.finals Complex-rules.vowels Complex-rules.medials Complex-rules.vowel_modifier Complex-rules.is_vowel_modifier Complex-rules.halant_base Complex-rules.opens_halant Complex-rules.halant Complex-rules.consonant_marks Complex-rules.symbol_marks Complex-rules.base_vs Complex-rules.by_kind
sees_tail khmer symbol = search (nears, near_coeng, near_symbol) depth 40 fits 20000

sees_base : Sees Complex-rules.base_vs
unfolding Complex-rules.base_vs
sees_base = search nears depth 10

sees_number : Sees Complex-rules.number
unfolding Complex-rules.number Complex-rules.halant_number Complex-rules.base_vs
sees_number = search nears depth 20 fits 5000

sees_symbol : Sees Complex-rules.symbol
unfolding Complex-rules.symbol Complex-rules.symbol_marks Complex-rules.base_vs
sees_symbol = search nears depth 20 fits 5000

sees_letter : (khmer : Bool) → Sees (Complex-rules.letter khmer)
unfolding Complex-rules.letter
sees_letter khmer = (near_is _, (sees_tail khmer false, (near_is _, (sees_tail khmer true, (near_is _, (sees_number, (near_is _, (sees_symbol, sees_tail khmer false))))))))

pub sees_complex : (khmer : Bool) → Sees (Complex-rules.cluster khmer)
unfolding Complex-rules.cluster
sees_complex khmer =
    let tail = sees_tail khmer false in
    (near_emoji, (sees_emojis, (near_is _, (sees_other, (near_one _, (sees_base, (near_is _, ((tt, tail), (near_is _, ((tt, tail), sees_letter khmer))))))))))
