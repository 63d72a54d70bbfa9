-- Written by tools/tables: the rules that can be left within a cluster of the simple grammar, and that its table is theirs.
-- Assumes nothing.
use Prim.Native.Nat.{ℕ, zero, suc, ◌/◌, ◌%◌, ◌<◌}
use mathlib.Core.Path.{◌≡◌, refl}
use mathlib.Core.Bool.{Bool, true, false, cond}
use mathlib.Core.List.{List, [], ◌∷◌, map}
use lib.Dec.{eqb}
use lib.ListN.{get_or}
use Rattle.classes.specs.declared.Shape.TheVariants.{Base, Mark, Control, Vs, Zwnj, Zwj}
use Rattle.parse.specs.declared.Emoji.TheVariants.{Default, Text, Color}
use Rattle.parse.specs.declared.Space.TheVariants.{Newline}
use Rattle.parse.specs.Rule.{Test, Rule, skip, stop, push, note, mark, seq, choose, while, scope, fit, is, next_is, is_break, is_scalar, is_emoji, is_selector, one_of, set_broken, set_emoji, set_space, set_space_from_char, force_normalize}
use Rattle.parse.specs.Shared.{emoji_mark, emoji_extension, emoji_turn, emojis, newline, newline_with}
use Rattle.simple.specs.Grammar.{is_extension, combining, extend, extension, leading, vowel, trailing, other, syllable, control, start, cluster}
use Rattle.tables.specs.SimpleTable.{simple_table}
use Rattle.parse.proofs.Free.{free}
use Rattle.residual.proofs.Residual.{spare, first}
use Rattle.tables.proofs.Cells.{Cell, cell_of, fresh, or_fresh, decoded_by, okay, tabulate, tab_at, agree}

unfoldable pub r0 : Rule
r0 = push (λ t. Zwnj)

unfoldable pub r1 : Rule
r1 = push (λ t. Vs)

unfoldable pub r2 : Rule
r2 = mark force_normalize

unfoldable pub r3 : Rule
r3 = push (λ t. Mark)

unfoldable pub r4 : Rule
r4 = seq r2 r3

unfoldable pub r5 : Rule
r5 = choose is_selector r1 r4

unfoldable pub r6 : Rule
r6 = choose (is_scalar 8204) r0 r5

unfoldable pub r7 : Rule
r7 = push (λ t. Zwj)

unfoldable pub r8 : Rule
r8 = choose (is 11) r4 r7

unfoldable pub r9 : Rule
r9 = choose (is 10) r6 r8

unfoldable pub r10 : Rule
r10 = while (one_of (10 ∷ 11 ∷ 12 ∷ [])) r9

unfoldable pub r11 : Rule
r11 = push (λ t. Control)

unfoldable pub r12 : Rule
r12 = choose (is 3) r11 skip

unfoldable pub r13 : Rule
r13 = seq r12 r10

unfoldable pub r14 : Rule
r14 = push (λ t. Base)

unfoldable pub r15 : Rule
r15 = choose (one_of (4 ∷ 5 ∷ 7 ∷ 8 ∷ [])) r14 skip

unfoldable pub r16 : Rule
r16 = seq r15 r10

unfoldable pub r17 : Rule
r17 = choose (one_of (5 ∷ 6 ∷ [])) r14 skip

unfoldable pub r18 : Rule
r18 = seq r17 r10

unfoldable pub r19 : Rule
r19 = choose (is 6) r14 skip

unfoldable pub r20 : Rule
r20 = seq r19 r10

unfoldable pub r21 : Rule
r21 = while (is 13) r14

unfoldable pub r22 : Rule
r22 = mark (set_emoji Default)

unfoldable pub r23 : Rule
r23 = mark (set_emoji Color)

unfoldable pub r24 : Rule
r24 = seq r23 note

unfoldable pub r25 : Rule
r25 = mark (set_emoji Text)

unfoldable pub r26 : Rule
r26 = seq r25 note

unfoldable pub r27 : Rule
r27 = choose (is_scalar 65038) r26 r3

unfoldable pub r28 : Rule
r28 = choose (is_scalar 65039) r24 r27

unfoldable pub r29 : Rule
r29 = choose (is_scalar 8204) r0 r28

unfoldable pub r30 : Rule
r30 = while (is_break 10) r29

unfoldable pub r31 : Rule
r31 = choose (is_break 12) r7 stop

unfoldable pub r32 : Rule
r32 = seq r30 r31

unfoldable pub r33 : Rule
r33 = seq r14 r32

unfoldable pub r34 : Rule
r34 = while is_emoji r33

unfoldable pub r35 : Rule
r35 = scope r34

unfoldable pub r36 : Rule
r36 = seq r22 r35

unfoldable pub r37 : Rule
r37 = mark (set_space Newline)

unfoldable pub r38 : Rule
r38 = seq r37 r11

unfoldable pub r39 : Rule
r39 = fit (next_is 3) (set_space Newline) (λ t. Control)

unfoldable pub r40 : Rule
r40 = seq r39 r12

unfoldable pub r41 : Rule
r41 = seq r14 r15

unfoldable pub r42 : Rule
r42 = seq r14 r17

unfoldable pub r43 : Rule
r43 = seq r14 r19

unfoldable pub r44 : Rule
r44 = choose (is 9) r14 skip

unfoldable pub r45 : Rule
r45 = mark set_broken

unfoldable pub r46 : Rule
r46 = mark set_space_from_char

unfoldable pub r47 : Rule
r47 = seq r46 r14

unfoldable pub r48 : Rule
r48 = choose (one_of (10 ∷ 11 ∷ 12 ∷ [])) r45 r47

unfoldable pub r49 : Rule
r49 = choose (is 9) r44 r48

unfoldable pub r50 : Rule
r50 = choose (one_of (8 ∷ 6 ∷ [])) r43 r49

unfoldable pub r51 : Rule
r51 = choose (one_of (7 ∷ 5 ∷ [])) r42 r50

unfoldable pub r52 : Rule
r52 = choose (is 4) r41 r51

unfoldable pub r53 : Rule
r53 = choose (is 2) r40 r52

unfoldable pub r54 : Rule
r54 = choose (is 3) r38 r53

unfoldable pub r55 : Rule
r55 = choose (is 1) r11 r54

unfoldable pub r56 : Rule
r56 = choose is_emoji r36 r55

unfoldable pub r57 : Rule
r57 = seq r56 r10

unfoldable pub r58 : Rule
r58 = seq r21 r57

unfoldable pub r59 : Rule
r59 = seq r32 r34

unfoldable pub r60 : Rule
r60 = scope r59

unfoldable pub r61 : Rule
r61 = seq r60 r10

unfoldable pub r62 : Rule
r62 = seq r35 r10

abbrev pub rules : List Rule
rules = r10 ∷ r13 ∷ r16 ∷ r18 ∷ r20 ∷ r58 ∷ r61 ∷ r62 ∷ []

-- a token of each symbol
abbrev samples : List ℕ
samples =
    65 ∷ 136314945 ∷ 272629825 ∷ 408944705 ∷ 545259585 ∷ 681574465 ∷
    817889345 ∷ 954204225 ∷ 1090519105 ∷ 1226833985 ∷ 1363148865 ∷ 1499463745 ∷
    1635778625 ∷ 1772093505 ∷ 8589934657 ∷ 8726249537 ∷ 8862564417 ∷ 8998879297 ∷
    9135194177 ∷ 9271509057 ∷ 9407823937 ∷ 9544138817 ∷ 9680453697 ∷ 9816768577 ∷
    9953083457 ∷ 10089398337 ∷ 10225713217 ∷ 10362028097 ∷ 18543018049 ∷ 1363157004 ∷
    18543026188 ∷ 1363213838 ∷ 18543083022 ∷ 1363213839 ∷ 18543083023 ∷ 27132952641 ∷
    9953091596 ∷ 27132960780 ∷ 9953148430 ∷ 27133017614 ∷ 9953148431 ∷ 27133017615 ∷
    []

abbrev pub sample_at : ℕ → ℕ
sample_at j = get_or samples j 0

abbrev pub answer_at : ℕ → Test → Bool
answer_at j p = p (sample_at j ∷ []) 0

abbrev cell_in : ℕ → Rule → Cell
cell_in j r = cell_of (sample_at j) (first (answer_at j) r)

abbrev pub expected : ℕ → ℕ → Cell
expected j zero = fresh (cell_in j cluster)
expected j (suc r) = or_fresh (cell_in j (get_or rules r skip)) (cell_in j cluster)

-- one computed test over the whole table
right : tabulate (λ j. expected (j / 9) (j % 9)) 0 378 ≡ map (decoded_by rules) simple_table
unfolding simple_table cluster start emojis emoji_turn emoji_extension emoji_mark control newline newline_with syllable leading one_of vowel trailing other is_extension extension extend combining r0 r1 r2 r3 r4 r5 r6 r7 r8 r9 r10 r11 r12 r13 r14 r15 r16 r17 r18 r19 r20 r21 r22 r23 r24 r25 r26 r27 r28 r29 r30 r31 r32 r33 r34 r35 r36 r37 r38 r39 r40 r41 r42 r43 r44 r45 r46 r47 r48 r49 r50 r51 r52 r53 r54 r55 r56 r57 r58 r59 r60 r61 r62
right = refl

pub right_at : (j : ℕ) → j < 378 → expected (j / 9) (j % 9) ≡ decoded_by rules (get_or simple_table j 0)
right_at j h = tab_at (λ j. expected (j / 9) (j % 9)) (decoded_by rules) 378 simple_table right j h

all_okay : tabulate (λ j. true) 0 378 ≡ map (okay 9) simple_table
unfolding simple_table
all_okay = refl

pub okay_at : (j : ℕ) → j < 378 → true ≡ okay 9 (get_or simple_table j 0)
okay_at j h = tab_at (λ j. true) (okay 9) 378 simple_table all_okay j h

pub cluster_free : free cluster ≡ true
unfolding cluster start emojis emoji_turn emoji_extension emoji_mark control newline newline_with syllable leading one_of vowel trailing other is_extension extension extend combining
cluster_free = refl

-- the rule that is left behind prepended characters, in which a `fit` may stop: the grammar itself
pub fitting_is : get_or rules 5 skip ≡ cluster
unfolding cluster start emojis emoji_turn emoji_extension emoji_mark control newline newline_with syllable leading one_of vowel trailing other is_extension extension extend combining r0 r1 r2 r3 r4 r5 r6 r7 r8 r9 r10 r11 r12 r13 r14 r15 r16 r17 r18 r19 r20 r21 r22 r23 r24 r25 r26 r27 r28 r29 r30 r31 r32 r33 r34 r35 r36 r37 r38 r39 r40 r41 r42 r43 r44 r45 r46 r47 r48 r49 r50 r51 r52 r53 r54 r55 r56 r57 r58 r59 r60 r61 r62
fitting_is = refl

all_spare : tabulate (λ j. cond (eqb j 5) true (spare false (get_or rules j skip))) 0 8 ≡ tabulate (λ j. true) 0 8
unfolding r0 r1 r2 r3 r4 r5 r6 r7 r8 r9 r10 r11 r12 r13 r14 r15 r16 r17 r18 r19 r20 r21 r22 r23 r24 r25 r26 r27 r28 r29 r30 r31 r32 r33 r34 r35 r36 r37 r38 r39 r40 r41 r42 r43 r44 r45 r46 r47 r48 r49 r50 r51 r52 r53 r54 r55 r56 r57 r58 r59 r60 r61 r62
all_spare = refl

pub spare_at : (j : ℕ) → j < 8 → cond (eqb j 5) true (spare false (get_or rules j skip)) ≡ true
spare_at j h = agree (λ j. cond (eqb j 5) true (spare false (get_or rules j skip))) (λ j. true) 8 all_spare j h
