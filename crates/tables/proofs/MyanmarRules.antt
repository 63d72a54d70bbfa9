-- Written by tools/tables: the rules that can be left within a cluster of the Myanmar grammar, and that its table is theirs.
-- Assumes nothing.
use Prim.Native.Nat.{ℕ, zero, suc, ◌+◌, ◌*◌, ◌/◌, ◌%◌, ◌<◌}
use mathlib.Core.Path.{◌≡◌, refl, sym, ◌∙◌, ap}
use mathlib.Core.Bool.{Bool, true, false, cond}
use mathlib.Core.List.{List, [], ◌∷◌, map}
use lib.Dec.{eqb, ltb}
use lib.ListN.{get_or}
use Rattle.basics.specs.Sets.{member}
use Rattle.classes.specs.declared.Shape.TheVariants.{Base, Mark, Control, Kinzi, Halant, VPre, VBlw, MedialRa, Anusvara, Vs, Zwnj, Zwj, Other}
use Rattle.parse.specs.declared.Emoji.TheVariants.{Text, Color}
use Rattle.parse.specs.Rule.{Test, Rule, skip, stop, push, note, mark, seq, choose, while, scope, is, is_break, is_scalar, is_emoji, one_of, set_broken, set_emoji}
use Rattle.parse.specs.Shared.{emoji_mark, emoji_extension, emoji_turn, emojis, newline, other_arm}
use Rattle.myanmar.specs.Grammar.{is_kinzi, accept_with_as, stacked, post_base_vowel, pwo_tone_mark, medials, vowels, finals, base, kinzi, syllable, is_alone, cluster}
use Rattle.tables.specs.MyanmarTable.{myanmar_table}
use Rattle.residual.proofs.Residual.{spare, first}
use Rattle.tables.proofs.Cells.{Cell, over, cell_of, fresh, or_fresh, decoded_by, okay, tabulate, tab_at, agree, map_at, all_true, true_at}

unfoldable pub r0 : Rule
r0 = push (λ t. Vs)

unfoldable pub r1 : Rule
r1 = choose (is 23) r0 skip

unfoldable pub r2 : Rule
r2 = push (λ t. Halant)

unfoldable pub r3 : Rule
r3 = push (λ t. Base)

unfoldable pub r4 : Rule
r4 = seq r3 r1

unfoldable pub r5 : Rule
r5 = choose (one_of (2 ∷ 7 ∷ [])) r4 stop

unfoldable pub r6 : Rule
r6 = seq r2 r5

unfoldable pub r7 : Rule
r7 = while (is 6) r6

unfoldable pub r8 : Rule
r8 = push (λ t. Other)

unfoldable pub r9 : Rule
r9 = while (is 1) r8

unfoldable pub r10 : Rule
r10 = choose (is 1) r8 skip

unfoldable pub r11 : Rule
r11 = seq r8 r10

unfoldable pub r12 : Rule
r12 = choose (is 12) r11 skip

unfoldable pub r13 : Rule
r13 = push (λ t. MedialRa)

unfoldable pub r14 : Rule
r14 = choose (is 10) r13 skip

unfoldable pub r15 : Rule
r15 = choose (is 9) r8 skip

unfoldable pub r16 : Rule
r16 = seq r15 r10

unfoldable pub r17 : Rule
r17 = seq r8 r16

unfoldable pub r18 : Rule
r18 = choose (is 9) r11 skip

unfoldable pub r19 : Rule
r19 = choose (is 11) r17 r18

unfoldable pub r20 : Rule
r20 = seq r14 r19

unfoldable pub r21 : Rule
r21 = seq r12 r20

unfoldable pub r22 : Rule
r22 = seq r9 r21

unfoldable pub r23 : Rule
r23 = push (λ t. VPre)

unfoldable pub r24 : Rule
r24 = while (is 21) r23

unfoldable pub r25 : Rule
r25 = while (is 19) r8

unfoldable pub r26 : Rule
r26 = push (λ t. VBlw)

unfoldable pub r27 : Rule
r27 = while (is 20) r26

unfoldable pub r28 : Rule
r28 = push (λ t. Anusvara)

unfoldable pub r29 : Rule
r29 = while (is 0) r28

unfoldable pub r30 : Rule
r30 = choose (is 5) r11 skip

unfoldable pub r31 : Rule
r31 = seq r29 r30

unfoldable pub r32 : Rule
r32 = seq r27 r31

unfoldable pub r33 : Rule
r33 = seq r25 r32

unfoldable pub r34 : Rule
r34 = seq r24 r33

unfoldable pub r35 : Rule
r35 = seq r25 r31

unfoldable pub r36 : Rule
r36 = seq r9 r35

unfoldable pub r37 : Rule
r37 = seq r15 r36

unfoldable pub r38 : Rule
r38 = seq r8 r37

unfoldable pub r39 : Rule
r39 = while (is 22) r38

unfoldable pub r40 : Rule
r40 = choose (is 0) r28 skip

unfoldable pub r41 : Rule
r41 = seq r8 r40

unfoldable pub r42 : Rule
r42 = choose (is 5) r8 skip

unfoldable pub r43 : Rule
r43 = seq r42 r10

unfoldable pub r44 : Rule
r44 = seq r29 r43

unfoldable pub r45 : Rule
r45 = choose (is 1) r41 r44

unfoldable pub r46 : Rule
r46 = seq r8 r45

unfoldable pub r47 : Rule
r47 = while (is 15) r46

unfoldable pub r48 : Rule
r48 = while (is 18) r8

unfoldable pub r49 : Rule
r49 = choose (is 8) r8 skip

unfoldable pub r50 : Rule
r50 = seq r48 r49

unfoldable pub r51 : Rule
r51 = seq r47 r50

unfoldable pub r52 : Rule
r52 = seq r39 r51

unfoldable pub r53 : Rule
r53 = seq r34 r52

unfoldable pub r54 : Rule
r54 = seq r22 r53

unfoldable pub r55 : Rule
r55 = seq r7 r54

unfoldable pub r56 : Rule
r56 = seq r1 r55

unfoldable pub r57 : Rule
r57 = push (λ t. Control)

unfoldable pub r58 : Rule
r58 = choose (is_scalar 10) r57 skip

unfoldable pub r59 : Rule
r59 = push (λ t. Kinzi)

unfoldable pub r60 : Rule
r60 = seq r59 r59

unfoldable pub r61 : Rule
r61 = seq r3 r56

unfoldable pub r62 : Rule
r62 = mark set_broken

unfoldable pub r63 : Rule
r63 = seq r62 r8

unfoldable pub r64 : Rule
r64 = choose (one_of (2 ∷ 7 ∷ 3 ∷ 5 ∷ [])) r61 r63

unfoldable pub r65 : Rule
r65 = seq r60 r64

unfoldable pub r66 : Rule
r66 = seq r31 r52

unfoldable pub r67 : Rule
r67 = seq r10 r52

unfoldable pub r68 : Rule
r68 = seq r5 r7

unfoldable pub r69 : Rule
r69 = seq r68 r54

unfoldable pub r70 : Rule
r70 = seq r10 r53

unfoldable pub r71 : Rule
r71 = seq r19 r53

unfoldable pub r72 : Rule
r72 = seq r16 r53

unfoldable pub r73 : Rule
r73 = seq r10 r20

unfoldable pub r74 : Rule
r74 = seq r73 r53

unfoldable pub r75 : Rule
r75 = seq r45 r47

unfoldable pub r76 : Rule
r76 = seq r75 r50

unfoldable pub r77 : Rule
r77 = seq r33 r52

unfoldable pub r78 : Rule
r78 = seq r32 r52

unfoldable pub r79 : Rule
r79 = seq r37 r39

unfoldable pub r80 : Rule
r80 = seq r79 r51

unfoldable pub r81 : Rule
r81 = push (λ t. Zwnj)

unfoldable pub r82 : Rule
r82 = mark (set_emoji Color)

unfoldable pub r83 : Rule
r83 = seq r82 note

unfoldable pub r84 : Rule
r84 = mark (set_emoji Text)

unfoldable pub r85 : Rule
r85 = seq r84 note

unfoldable pub r86 : Rule
r86 = push (λ t. Mark)

unfoldable pub r87 : Rule
r87 = choose (is_scalar 65038) r85 r86

unfoldable pub r88 : Rule
r88 = choose (is_scalar 65039) r83 r87

unfoldable pub r89 : Rule
r89 = choose (is_scalar 8204) r81 r88

unfoldable pub r90 : Rule
r90 = while (is_break 10) r89

unfoldable pub r91 : Rule
r91 = push (λ t. Zwj)

unfoldable pub r92 : Rule
r92 = choose (is_break 12) r91 stop

unfoldable pub r93 : Rule
r93 = seq r90 r92

unfoldable pub r94 : Rule
r94 = seq r3 r93

unfoldable pub r95 : Rule
r95 = while is_emoji r94

unfoldable pub r96 : Rule
r96 = scope r95

unfoldable pub r97 : Rule
r97 = seq r59 r64

unfoldable pub r98 : Rule
r98 = seq r1 r7

unfoldable pub r99 : Rule
r99 = seq r98 r54

unfoldable pub r100 : Rule
r100 = seq r20 r53

unfoldable pub r101 : Rule
r101 = seq r44 r47

unfoldable pub r102 : Rule
r102 = seq r101 r50

unfoldable pub r103 : Rule
r103 = seq r40 r47

unfoldable pub r104 : Rule
r104 = seq r103 r50

unfoldable pub r105 : Rule
r105 = seq r10 r47

unfoldable pub r106 : Rule
r106 = seq r105 r50

unfoldable pub r107 : Rule
r107 = seq r31 r39

unfoldable pub r108 : Rule
r108 = seq r107 r51

unfoldable pub r109 : Rule
r109 = seq r36 r39

unfoldable pub r110 : Rule
r110 = seq r109 r51

unfoldable pub r111 : Rule
r111 = seq r10 r39

unfoldable pub r112 : Rule
r112 = seq r111 r51

unfoldable pub r113 : Rule
r113 = seq r35 r39

unfoldable pub r114 : Rule
r114 = seq r113 r51

unfoldable pub r115 : Rule
r115 = seq r93 r95

unfoldable pub r116 : Rule
r116 = scope r115

abbrev pub rules : List Rule
rules = skip ∷ r56 ∷ r58 ∷ r65 ∷ r66 ∷ r54 ∷ r67 ∷ r69 ∷ r70 ∷ r71 ∷ r72 ∷ r74 ∷ r76 ∷ r50 ∷ r77 ∷ r78 ∷ r53 ∷ r80 ∷ r55 ∷ r96 ∷ r97 ∷ r52 ∷ r99 ∷ r100 ∷ r102 ∷ r104 ∷ r106 ∷ r108 ∷ r110 ∷ r112 ∷ r114 ∷ r64 ∷ r51 ∷ r116 ∷ []

-- a token of each pair of symbols
abbrev samples : List ℕ
samples =
    65 ∷ 1342177345 ∷ 1342185484 ∷ 1342242318 ∷ 1342242319 ∷ 1610612801 ∷
    2097217 ∷ 1344274497 ∷ 1344282636 ∷ 1344339470 ∷ 1344339471 ∷ 1612709953 ∷
    4194369 ∷ 1346371649 ∷ 1346379788 ∷ 1346436622 ∷ 1346436623 ∷ 1614807105 ∷
    6291521 ∷ 1348468801 ∷ 1348476940 ∷ 1348533774 ∷ 1348533775 ∷ 1616904257 ∷
    8388673 ∷ 1350565953 ∷ 1350574092 ∷ 1350630926 ∷ 1350630927 ∷ 1619001409 ∷
    10485825 ∷ 1352663105 ∷ 1352671244 ∷ 1352728078 ∷ 1352728079 ∷ 1621098561 ∷
    12582977 ∷ 1354760257 ∷ 1354768396 ∷ 1354825230 ∷ 1354825231 ∷ 1623195713 ∷
    14680129 ∷ 1356857409 ∷ 1356865548 ∷ 1356922382 ∷ 1356922383 ∷ 1625292865 ∷
    16777281 ∷ 1358954561 ∷ 1358962700 ∷ 1359019534 ∷ 1359019535 ∷ 1627390017 ∷
    18874433 ∷ 1361051713 ∷ 1361059852 ∷ 1361116686 ∷ 1361116687 ∷ 1629487169 ∷
    20971585 ∷ 1363148865 ∷ 1363157004 ∷ 1363213838 ∷ 1363213839 ∷ 1631584321 ∷
    23068737 ∷ 1365246017 ∷ 1365254156 ∷ 1365310990 ∷ 1365310991 ∷ 1633681473 ∷
    25165889 ∷ 1367343169 ∷ 1367351308 ∷ 1367408142 ∷ 1367408143 ∷ 1635778625 ∷
    27263041 ∷ 1369440321 ∷ 1369448460 ∷ 1369505294 ∷ 1369505295 ∷ 1637875777 ∷
    29360193 ∷ 1371537473 ∷ 1371545612 ∷ 1371602446 ∷ 1371602447 ∷ 1639972929 ∷
    31457345 ∷ 1373634625 ∷ 1373642764 ∷ 1373699598 ∷ 1373699599 ∷ 1642070081 ∷
    33554497 ∷ 1375731777 ∷ 1375739916 ∷ 1375796750 ∷ 1375796751 ∷ 1644167233 ∷
    35651649 ∷ 1377828929 ∷ 1377837068 ∷ 1377893902 ∷ 1377893903 ∷ 1646264385 ∷
    37748801 ∷ 1379926081 ∷ 1379934220 ∷ 1379991054 ∷ 1379991055 ∷ 1648361537 ∷
    39845953 ∷ 1382023233 ∷ 1382031372 ∷ 1382088206 ∷ 1382088207 ∷ 1650458689 ∷
    41943105 ∷ 1384120385 ∷ 1384128524 ∷ 1384185358 ∷ 1384185359 ∷ 1652555841 ∷
    44040257 ∷ 1386217537 ∷ 1386225676 ∷ 1386282510 ∷ 1386282511 ∷ 1654652993 ∷
    46137409 ∷ 1388314689 ∷ 1388322828 ∷ 1388379662 ∷ 1388379663 ∷ 1656750145 ∷
    48234561 ∷ 1390411841 ∷ 1390419980 ∷ 1390476814 ∷ 1390476815 ∷ 1658847297 ∷
    50331713 ∷ 1392508993 ∷ 1392517132 ∷ 1392573966 ∷ 1392573967 ∷ 1660944449 ∷
    52428865 ∷ 1394606145 ∷ 1394614284 ∷ 1394671118 ∷ 1394671119 ∷ 1663041601 ∷
    8617197633 ∷ 9959374913 ∷ 9959383052 ∷ 9959439886 ∷ 9959439887 ∷ 10227810369 ∷
    27262989 ∷ 1369440269 ∷ 1369440269 ∷ 1369440269 ∷ 1369440269 ∷ 1637875725 ∷
    27262986 ∷ 1369440266 ∷ 1369440266 ∷ 1369440266 ∷ 1369440266 ∷ 1637875722 ∷
    2174754828 ∷ 3516932108 ∷ 3516932108 ∷ 3516932108 ∷ 3516932108 ∷ 3785367564 ∷
    2174754829 ∷ 3516932109 ∷ 3516932109 ∷ 3516932109 ∷ 3516932109 ∷ 3785367565 ∷
    4322230337 ∷ 5664407617 ∷ 5664415756 ∷ 5664472590 ∷ 5664472591 ∷ 5932843073 ∷
    4198404 ∷ 1346375684 ∷ 1346375684 ∷ 1346375684 ∷ 1346375684 ∷ 1614811140 ∷
    4198404 ∷ 1346375684 ∷ 1346375684 ∷ 1346375684 ∷ 1346375684 ∷ 1614811140 ∷
    []

abbrev pub sample_at : ℕ → ℕ
sample_at j = get_or samples j 0

-- a kinzi's look-ahead
abbrev pub text_at : ℕ → List ℕ
text_at j = sample_at j ∷ cond (ltb j 192) [] (0x103A ∷ 0x1039 ∷ [])

abbrev pub answer_at : ℕ → Test → Bool
answer_at j p = p (text_at j) 0

abbrev cell_in : ℕ → Rule → Cell
cell_in j r = cell_of (sample_at j) (first (answer_at j) r)

abbrev opening_in : ℕ → Cell
opening_in j = cond (eqb (j / 6) 33) over (cell_in j cluster)

abbrev pub expected : ℕ → ℕ → Cell
expected j zero = fresh (opening_in j)
expected j (suc r) = or_fresh (cell_in j (get_or rules r skip)) (cond (eqb r 33) over (opening_in j))

-- the index of a row and a pair
abbrev pub place : ℕ → ℕ → ℕ
place j row = cond (ltb row 34) (j / 6 * 34 + row) (1156 + j % 6)

-- a scalar that the first symbol says is the one that the second says
abbrev pub feasible : ℕ → ℕ → Bool
feasible a e = cond (member (27 ∷ 28 ∷ 30 ∷ 32 ∷ 33 ∷ []) a) (cond (member (2 ∷ 3 ∷ 4 ∷ []) e) false true) (cond (eqb a 29) (cond (member (1 ∷ 3 ∷ 4 ∷ []) e) false true) true)

-- one computed test over all pairs and rows
right : tabulate (λ n. cond (feasible (n / 210) (n / 35 % 6)) (expected (n / 35) (n % 35)) over) 0 7140
    ≡ tabulate (λ n. cond (feasible (n / 210) (n / 35 % 6)) (decoded_by rules (get_or myanmar_table (place (n / 35) (n % 35)) 0)) over) 0 7140
unfolding myanmar_table cluster emojis emoji_turn emoji_extension emoji_mark other_arm newline is_alone one_of kinzi is_kinzi syllable base stacked medials accept_with_as vowels finals post_base_vowel pwo_tone_mark r0 r1 r2 r3 r4 r5 r6 r7 r8 r9 r10 r11 r12 r13 r14 r15 r16 r17 r18 r19 r20 r21 r22 r23 r24 r25 r26 r27 r28 r29 r30 r31 r32 r33 r34 r35 r36 r37 r38 r39 r40 r41 r42 r43 r44 r45 r46 r47 r48 r49 r50 r51 r52 r53 r54 r55 r56 r57 r58 r59 r60 r61 r62 r63 r64 r65 r66 r67 r68 r69 r70 r71 r72 r73 r74 r75 r76 r77 r78 r79 r80 r81 r82 r83 r84 r85 r86 r87 r88 r89 r90 r91 r92 r93 r94 r95 r96 r97 r98 r99 r100 r101 r102 r103 r104 r105 r106 r107 r108 r109 r110 r111 r112 r113 r114 r115 r116
right = refl

pub right_at : (n : ℕ) → n < 7140 → feasible (n / 210) (n / 35 % 6) ≡ true → expected (n / 35) (n % 35) ≡ decoded_by rules (get_or myanmar_table (place (n / 35) (n % 35)) 0)
right_at n h f =
    ap (λ b. cond b (expected (n / 35) (n % 35)) over) (sym f)
    ∙ agree (λ n. cond (feasible (n / 210) (n / 35 % 6)) (expected (n / 35) (n % 35)) over) (λ n. cond (feasible (n / 210) (n / 35 % 6)) (decoded_by rules (get_or myanmar_table (place (n / 35) (n % 35)) 0)) over) 7140 right n h
    ∙ ap (λ b. cond b (decoded_by rules (get_or myanmar_table (place (n / 35) (n % 35)) 0)) over) f

all_okay : tabulate (λ j. true) 0 1162 ≡ map (okay 35) myanmar_table
unfolding myanmar_table
all_okay = refl

pub okay_at : (j : ℕ) → j < 1162 → true ≡ okay 35 (get_or myanmar_table j 0)
okay_at j h = tab_at (λ j. true) (okay 35) 1162 myanmar_table all_okay j h

all_spare : all_true (map (spare false) rules) ≡ true
unfolding r0 r1 r2 r3 r4 r5 r6 r7 r8 r9 r10 r11 r12 r13 r14 r15 r16 r17 r18 r19 r20 r21 r22 r23 r24 r25 r26 r27 r28 r29 r30 r31 r32 r33 r34 r35 r36 r37 r38 r39 r40 r41 r42 r43 r44 r45 r46 r47 r48 r49 r50 r51 r52 r53 r54 r55 r56 r57 r58 r59 r60 r61 r62 r63 r64 r65 r66 r67 r68 r69 r70 r71 r72 r73 r74 r75 r76 r77 r78 r79 r80 r81 r82 r83 r84 r85 r86 r87 r88 r89 r90 r91 r92 r93 r94 r95 r96 r97 r98 r99 r100 r101 r102 r103 r104 r105 r106 r107 r108 r109 r110 r111 r112 r113 r114 r115 r116
all_spare = refl

pub spare_at : (j : ℕ) → spare false (get_or rules j skip) ≡ true
spare_at j = map_at (spare false) rules skip j ∙ true_at (map (spare false) rules) all_spare j
