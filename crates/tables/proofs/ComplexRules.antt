-- Written by tools/tables: the rules that can be left within a cluster of the complex grammar, and that its table is theirs.
-- Assumes nothing.
use Prim.Native.Nat.{ℕ, zero, suc, ◌+◌, ◌*◌, ◌/◌, ◌%◌, ◌<◌}
use mathlib.Core.Path.{◌≡◌, refl, sym, ◌∙◌, ap}
use mathlib.Core.Bool.{Bool, true, false, cond}
use mathlib.Core.List.{List, [], ◌∷◌, map}
use lib.Dec.{eqb, ltb}
use lib.ListN.{get_or}
use Rattle.basics.specs.Sets.{member}
use Rattle.classes.specs.declared.Shape.TheVariants.{Base, Mark, Control, Halant, VPre, VMPre, Vs, Zwnj, Zwj, Other}
use Rattle.parse.specs.declared.Emoji.TheVariants.{Text, Color}
use Rattle.token.specs.Token.{kind_of}
use Rattle.parse.specs.Rule.{Test, Rule, skip, stop, push, note, mark, seq, choose, while, scope, is, is_break, is_scalar, is_emoji, one_of, set_broken, set_emoji}
use Rattle.parse.specs.Shared.{emoji_mark, emoji_extension, emoji_turn, emojis, newline, other_arm}
use Rattle.complex.specs.Grammar.{given, to_shape_class, by_kind, base_vs, symbol_marks, consonant_marks, is_coeng, halant, opens_halant, halant_base, is_vowel_modifier, vowel_modifier, medials, vowels, finals, syllable, marked_syllable, is_symbol_mark, standard_tail, standard, halant_number, number, symbol, letter, cluster}
use Rattle.tables.specs.ComplexTable.{complex_table}
use Rattle.parse.proofs.Free.{free}
use Rattle.residual.proofs.Residual.{spare, first}
use Rattle.tables.proofs.Cells.{Cell, over, cell_of, fresh, or_fresh, decoded_by, okay, tabulate, tab_at, agree, map_at, all_true, true_at}

unfoldable pub r0 : Rule
r0 = push (λ t. Vs)

unfoldable pub r1 : Rule
r1 = choose (is 32) r0 skip

unfoldable pub r2 : Rule
r2 = push (λ t. Other)

unfoldable pub r3 : Rule
r3 = while (is 21) r2

unfoldable pub r4 : Rule
r4 = while (is 22) r2

unfoldable pub r5 : Rule
r5 = seq r3 r4

unfoldable pub r6 : Rule
r6 = while (is 1) r2

unfoldable pub r7 : Rule
r7 = while (is 2) r2

unfoldable pub r8 : Rule
r8 = seq r6 r7

unfoldable pub r9 : Rule
r9 = seq r2 r8

unfoldable pub r10 : Rule
r10 = push (λ t. Halant)

unfoldable pub r11 : Rule
r11 = choose (given false (is_scalar 6098)) r2 r10

unfoldable pub r12 : Rule
r12 = push (λ t. Base)

unfoldable pub r13 : Rule
r13 = seq r12 r1

unfoldable pub r14 : Rule
r14 = seq r13 r8

unfoldable pub r15 : Rule
r15 = choose (is 0) r14 stop

unfoldable pub r16 : Rule
r16 = seq r11 r15

unfoldable pub r17 : Rule
r17 = choose (is 23) r9 r16

unfoldable pub r18 : Rule
r18 = while (one_of (23 ∷ 9 ∷ [])) r17

unfoldable pub r19 : Rule
r19 = choose (is 14) r2 skip

unfoldable pub r20 : Rule
r20 = choose (is 12) r2 skip

unfoldable pub r21 : Rule
r21 = choose (is 13) r2 skip

unfoldable pub r22 : Rule
r22 = choose (is 15) r2 skip

unfoldable pub r23 : Rule
r23 = seq r21 r22

unfoldable pub r24 : Rule
r24 = seq r21 r23

unfoldable pub r25 : Rule
r25 = seq r20 r24

unfoldable pub r26 : Rule
r26 = seq r19 r25

unfoldable pub r27 : Rule
r27 = push (λ t. VPre)

unfoldable pub r28 : Rule
r28 = while (is 30) r27

unfoldable pub r29 : Rule
r29 = while (is 24) r2

unfoldable pub r30 : Rule
r30 = while (is 25) r2

unfoldable pub r31 : Rule
r31 = while (is 31) r2

unfoldable pub r32 : Rule
r32 = seq r30 r31

unfoldable pub r33 : Rule
r33 = seq r29 r32

unfoldable pub r34 : Rule
r34 = seq r28 r33

unfoldable pub r35 : Rule
r35 = push (λ t. VMPre)

unfoldable pub r36 : Rule
r36 = choose (is 28) r35 r2

unfoldable pub r37 : Rule
r37 = while (one_of (28 ∷ 26 ∷ 27 ∷ 29 ∷ 9 ∷ [])) r36

unfoldable pub r38 : Rule
r38 = while (is 4) r2

unfoldable pub r39 : Rule
r39 = while (is 5) r2

unfoldable pub r40 : Rule
r40 = while (is 7) r2

unfoldable pub r41 : Rule
r41 = choose (is 6) r2 skip

unfoldable pub r42 : Rule
r42 = seq r40 r41

unfoldable pub r43 : Rule
r43 = seq r39 r42

unfoldable pub r44 : Rule
r44 = seq r38 r43

unfoldable pub r45 : Rule
r45 = seq r37 r44

unfoldable pub r46 : Rule
r46 = seq r34 r45

unfoldable pub r47 : Rule
r47 = seq r26 r46

unfoldable pub r48 : Rule
r48 = seq r18 r47

unfoldable pub r49 : Rule
r49 = seq r8 r48

unfoldable pub r50 : Rule
r50 = choose (given false (one_of (21 ∷ 22 ∷ []))) r5 r49

unfoldable pub r51 : Rule
r51 = seq r1 r50

unfoldable pub r52 : Rule
r52 = seq r12 r51

unfoldable pub r53 : Rule
r53 = mark set_broken

unfoldable pub r54 : Rule
r54 = push (λ t. to_shape_class (kind_of t))

unfoldable pub r55 : Rule
r55 = seq r53 r54

unfoldable pub r56 : Rule
r56 = choose (one_of (0 ∷ 8 ∷ [])) r52 r55

unfoldable pub r57 : Rule
r57 = choose (given true (one_of (21 ∷ 22 ∷ []))) r5 r49

unfoldable pub r58 : Rule
r58 = seq r1 r57

unfoldable pub r59 : Rule
r59 = choose (is 16) r13 stop

unfoldable pub r60 : Rule
r60 = seq r10 r59

unfoldable pub r61 : Rule
r61 = while (is 10) r60

unfoldable pub r62 : Rule
r62 = seq r1 r61

unfoldable pub r63 : Rule
r63 = seq r1 r5

unfoldable pub r64 : Rule
r64 = push (λ t. Control)

unfoldable pub r65 : Rule
r65 = choose (is_scalar 10) r64 skip

unfoldable pub r66 : Rule
r66 = seq r7 r48

unfoldable pub r67 : Rule
r67 = seq r15 r18

unfoldable pub r68 : Rule
r68 = seq r67 r47

unfoldable pub r69 : Rule
r69 = seq r24 r46

unfoldable pub r70 : Rule
r70 = seq r23 r46

unfoldable pub r71 : Rule
r71 = seq r25 r46

unfoldable pub r72 : Rule
r72 = seq r8 r18

unfoldable pub r73 : Rule
r73 = seq r72 r47

unfoldable pub r74 : Rule
r74 = seq r33 r45

unfoldable pub r75 : Rule
r75 = seq r32 r45

unfoldable pub r76 : Rule
r76 = seq r31 r45

unfoldable pub r77 : Rule
r77 = seq r59 r61

unfoldable pub r78 : Rule
r78 = push (λ t. Zwnj)

unfoldable pub r79 : Rule
r79 = mark (set_emoji Color)

unfoldable pub r80 : Rule
r80 = seq r79 note

unfoldable pub r81 : Rule
r81 = mark (set_emoji Text)

unfoldable pub r82 : Rule
r82 = seq r81 note

unfoldable pub r83 : Rule
r83 = push (λ t. Mark)

unfoldable pub r84 : Rule
r84 = choose (is_scalar 65038) r82 r83

unfoldable pub r85 : Rule
r85 = choose (is_scalar 65039) r80 r84

unfoldable pub r86 : Rule
r86 = choose (is_scalar 8204) r78 r85

unfoldable pub r87 : Rule
r87 = while (is_break 10) r86

unfoldable pub r88 : Rule
r88 = push (λ t. Zwj)

unfoldable pub r89 : Rule
r89 = choose (is_break 12) r88 stop

unfoldable pub r90 : Rule
r90 = seq r87 r89

unfoldable pub r91 : Rule
r91 = seq r12 r90

unfoldable pub r92 : Rule
r92 = while is_emoji r91

unfoldable pub r93 : Rule
r93 = scope r92

unfoldable pub r94 : Rule
r94 = seq r1 r8

unfoldable pub r95 : Rule
r95 = seq r94 r18

unfoldable pub r96 : Rule
r96 = seq r95 r47

unfoldable pub r97 : Rule
r97 = seq r22 r46

unfoldable pub r98 : Rule
r98 = seq r7 r18

unfoldable pub r99 : Rule
r99 = seq r98 r47

unfoldable pub r100 : Rule
r100 = seq r90 r92

unfoldable pub r101 : Rule
r101 = scope r100

abbrev pub rules : List Rule
rules = r51 ∷ skip ∷ r56 ∷ r58 ∷ r1 ∷ r62 ∷ r63 ∷ r65 ∷ r49 ∷ r66 ∷ r44 ∷ r43 ∷ r42 ∷ r68 ∷ r69 ∷ r70 ∷ r71 ∷ r46 ∷ r73 ∷ r74 ∷ r75 ∷ r45 ∷ r76 ∷ r50 ∷ r5 ∷ r4 ∷ r57 ∷ r77 ∷ r61 ∷ r93 ∷ r96 ∷ r97 ∷ r99 ∷ r101 ∷ []

-- a token of each pair of symbols
abbrev samples : List ℕ
samples =
    65 ∷ 1342177345 ∷ 1342185484 ∷ 1342242318 ∷ 1342242319 ∷ 1610612801 ∷
    2097217 ∷ 1344274497 ∷ 1344282636 ∷ 1344339470 ∷ 1344339471 ∷ 1612709953 ∷
    4194369 ∷ 1346371649 ∷ 1346379788 ∷ 1346436622 ∷ 1346436623 ∷ 1614807105 ∷
    6291521 ∷ 1348468801 ∷ 1348476940 ∷ 1348533774 ∷ 1348533775 ∷ 1616904257 ∷
    8388673 ∷ 1350565953 ∷ 1350574092 ∷ 1350630926 ∷ 1350630927 ∷ 1619001409 ∷
    10485825 ∷ 1352663105 ∷ 1352671244 ∷ 1352728078 ∷ 1352728079 ∷ 1621098561 ∷
    12582977 ∷ 1354760257 ∷ 1354768396 ∷ 1354825230 ∷ 1354825231 ∷ 1623195713 ∷
    14680129 ∷ 1356857409 ∷ 1356865548 ∷ 1356922382 ∷ 1356922383 ∷ 1625292865 ∷
    16777281 ∷ 1358954561 ∷ 1358962700 ∷ 1359019534 ∷ 1359019535 ∷ 1627390017 ∷
    18874433 ∷ 1361051713 ∷ 1361059852 ∷ 1361116686 ∷ 1361116687 ∷ 1629487169 ∷
    20971585 ∷ 1363148865 ∷ 1363157004 ∷ 1363213838 ∷ 1363213839 ∷ 1631584321 ∷
    23068737 ∷ 1365246017 ∷ 1365254156 ∷ 1365310990 ∷ 1365310991 ∷ 1633681473 ∷
    25165889 ∷ 1367343169 ∷ 1367351308 ∷ 1367408142 ∷ 1367408143 ∷ 1635778625 ∷
    27263041 ∷ 1369440321 ∷ 1369448460 ∷ 1369505294 ∷ 1369505295 ∷ 1637875777 ∷
    29360193 ∷ 1371537473 ∷ 1371545612 ∷ 1371602446 ∷ 1371602447 ∷ 1639972929 ∷
    31457345 ∷ 1373634625 ∷ 1373642764 ∷ 1373699598 ∷ 1373699599 ∷ 1642070081 ∷
    33554497 ∷ 1375731777 ∷ 1375739916 ∷ 1375796750 ∷ 1375796751 ∷ 1644167233 ∷
    35651649 ∷ 1377828929 ∷ 1377837068 ∷ 1377893902 ∷ 1377893903 ∷ 1646264385 ∷
    37748801 ∷ 1379926081 ∷ 1379934220 ∷ 1379991054 ∷ 1379991055 ∷ 1648361537 ∷
    39845953 ∷ 1382023233 ∷ 1382031372 ∷ 1382088206 ∷ 1382088207 ∷ 1650458689 ∷
    41943105 ∷ 1384120385 ∷ 1384128524 ∷ 1384185358 ∷ 1384185359 ∷ 1652555841 ∷
    44040257 ∷ 1386217537 ∷ 1386225676 ∷ 1386282510 ∷ 1386282511 ∷ 1654652993 ∷
    46137409 ∷ 1388314689 ∷ 1388322828 ∷ 1388379662 ∷ 1388379663 ∷ 1656750145 ∷
    48234561 ∷ 1390411841 ∷ 1390419980 ∷ 1390476814 ∷ 1390476815 ∷ 1658847297 ∷
    50331713 ∷ 1392508993 ∷ 1392517132 ∷ 1392573966 ∷ 1392573967 ∷ 1660944449 ∷
    52428865 ∷ 1394606145 ∷ 1394614284 ∷ 1394671118 ∷ 1394671119 ∷ 1663041601 ∷
    54526017 ∷ 1396703297 ∷ 1396711436 ∷ 1396768270 ∷ 1396768271 ∷ 1665138753 ∷
    56623169 ∷ 1398800449 ∷ 1398808588 ∷ 1398865422 ∷ 1398865423 ∷ 1667235905 ∷
    58720321 ∷ 1400897601 ∷ 1400905740 ∷ 1400962574 ∷ 1400962575 ∷ 1669333057 ∷
    60817473 ∷ 1402994753 ∷ 1403002892 ∷ 1403059726 ∷ 1403059727 ∷ 1671430209 ∷
    62914625 ∷ 1405091905 ∷ 1405100044 ∷ 1405156878 ∷ 1405156879 ∷ 1673527361 ∷
    65011777 ∷ 1407189057 ∷ 1407197196 ∷ 1407254030 ∷ 1407254031 ∷ 1675624513 ∷
    67108929 ∷ 1409286209 ∷ 1409294348 ∷ 1409351182 ∷ 1409351183 ∷ 1677721665 ∷
    69206081 ∷ 1411383361 ∷ 1411391500 ∷ 1411448334 ∷ 1411448335 ∷ 1679818817 ∷
    71303233 ∷ 1413480513 ∷ 1413488652 ∷ 1413545486 ∷ 1413545487 ∷ 1681915969 ∷
    73400385 ∷ 1415577665 ∷ 1415585804 ∷ 1415642638 ∷ 1415642639 ∷ 1684013121 ∷
    75497537 ∷ 1417674817 ∷ 1417682956 ∷ 1417739790 ∷ 1417739791 ∷ 1686110273 ∷
    8625586241 ∷ 9967763521 ∷ 9967771660 ∷ 9967828494 ∷ 9967828495 ∷ 10236198977 ∷
    35651597 ∷ 1377828877 ∷ 1377828877 ∷ 1377828877 ∷ 1377828877 ∷ 1646264333 ∷
    35651594 ∷ 1377828874 ∷ 1377828874 ∷ 1377828874 ∷ 1377828874 ∷ 1646264330 ∷
    2183143436 ∷ 3525320716 ∷ 3525320716 ∷ 3525320716 ∷ 3525320716 ∷ 3793756172 ∷
    2183143437 ∷ 3525320717 ∷ 3525320717 ∷ 3525320717 ∷ 3525320717 ∷ 3793756173 ∷
    4330618945 ∷ 5672796225 ∷ 5672804364 ∷ 5672861198 ∷ 5672861199 ∷ 5941231681 ∷
    18880466 ∷ 1361057746 ∷ 1361057746 ∷ 1361057746 ∷ 1361057746 ∷ 1629493202 ∷
    []

abbrev pub sample_at : ℕ → ℕ
sample_at j = get_or samples j 0

abbrev pub answer_at : ℕ → Test → Bool
answer_at j p = p (sample_at j ∷ []) 0

abbrev cell_in : ℕ → Rule → Cell
cell_in j r = cell_of (sample_at j) (first (answer_at j) r)

abbrev opening_in : ℕ → Cell
opening_in j = cell_in j (cluster false)

abbrev pub expected : ℕ → ℕ → Cell
expected j zero = fresh (opening_in j)
expected j (suc r) = or_fresh (cell_in j (get_or rules r skip)) (cond (eqb r 33) over (opening_in j))

-- the index of a row and a pair
abbrev pub place : ℕ → ℕ → ℕ
place j row = cond (ltb row 34) (j / 6 * 34 + row) (1496 + j % 6)

-- a scalar that the first symbol says is the one that the second says
abbrev pub feasible : ℕ → ℕ → Bool
feasible a e = cond (member (38 ∷ 39 ∷ 41 ∷ 43 ∷ []) a) (cond (member (2 ∷ 3 ∷ 4 ∷ []) e) false true) (cond (eqb a 40) (cond (member (1 ∷ 3 ∷ 4 ∷ []) e) false true) true)

-- one computed test over all pairs and rows
right : tabulate (λ n. cond (feasible (n / 210) (n / 35 % 6)) (expected (n / 35) (n % 35)) over) 0 9240
    ≡ tabulate (λ n. cond (feasible (n / 210) (n / 35 % 6)) (decoded_by rules (get_or complex_table (place (n / 35) (n % 35)) 0)) over) 0 9240
unfolding complex_table cluster emojis emoji_turn emoji_extension emoji_mark other_arm newline one_of base_vs standard standard_tail is_symbol_mark given symbol_marks marked_syllable consonant_marks syllable opens_halant halant_base halant is_coeng medials vowels is_vowel_modifier vowel_modifier finals by_kind letter number halant_number symbol r0 r1 r2 r3 r4 r5 r6 r7 r8 r9 r10 r11 r12 r13 r14 r15 r16 r17 r18 r19 r20 r21 r22 r23 r24 r25 r26 r27 r28 r29 r30 r31 r32 r33 r34 r35 r36 r37 r38 r39 r40 r41 r42 r43 r44 r45 r46 r47 r48 r49 r50 r51 r52 r53 r54 r55 r56 r57 r58 r59 r60 r61 r62 r63 r64 r65 r66 r67 r68 r69 r70 r71 r72 r73 r74 r75 r76 r77 r78 r79 r80 r81 r82 r83 r84 r85 r86 r87 r88 r89 r90 r91 r92 r93 r94 r95 r96 r97 r98 r99 r100 r101
right = refl

pub right_at : (n : ℕ) → n < 9240 → feasible (n / 210) (n / 35 % 6) ≡ true → expected (n / 35) (n % 35) ≡ decoded_by rules (get_or complex_table (place (n / 35) (n % 35)) 0)
right_at n h f =
    ap (λ b. cond b (expected (n / 35) (n % 35)) over) (sym f)
    ∙ agree (λ n. cond (feasible (n / 210) (n / 35 % 6)) (expected (n / 35) (n % 35)) over) (λ n. cond (feasible (n / 210) (n / 35 % 6)) (decoded_by rules (get_or complex_table (place (n / 35) (n % 35)) 0)) over) 9240 right n h
    ∙ ap (λ b. cond b (decoded_by rules (get_or complex_table (place (n / 35) (n % 35)) 0)) over) f

all_okay : tabulate (λ j. true) 0 1502 ≡ map (okay 35) complex_table
unfolding complex_table
all_okay = refl

pub okay_at : (j : ℕ) → j < 1502 → true ≡ okay 35 (get_or complex_table j 0)
okay_at j h = tab_at (λ j. true) (okay 35) 1502 complex_table all_okay j h

all_spare : all_true (map (spare false) rules) ≡ true
unfolding r0 r1 r2 r3 r4 r5 r6 r7 r8 r9 r10 r11 r12 r13 r14 r15 r16 r17 r18 r19 r20 r21 r22 r23 r24 r25 r26 r27 r28 r29 r30 r31 r32 r33 r34 r35 r36 r37 r38 r39 r40 r41 r42 r43 r44 r45 r46 r47 r48 r49 r50 r51 r52 r53 r54 r55 r56 r57 r58 r59 r60 r61 r62 r63 r64 r65 r66 r67 r68 r69 r70 r71 r72 r73 r74 r75 r76 r77 r78 r79 r80 r81 r82 r83 r84 r85 r86 r87 r88 r89 r90 r91 r92 r93 r94 r95 r96 r97 r98 r99 r100 r101
all_spare = refl

pub spare_at : (j : ℕ) → spare false (get_or rules j skip) ≡ true
spare_at j = map_at (spare false) rules skip j ∙ true_at (map (spare false) rules) all_spare j

pub cluster_free : free (cluster false) ≡ true
unfolding cluster emojis emoji_turn emoji_extension emoji_mark other_arm newline one_of base_vs standard standard_tail is_symbol_mark given symbol_marks marked_syllable consonant_marks syllable opens_halant halant_base halant is_coeng medials vowels is_vowel_modifier vowel_modifier finals by_kind letter number halant_number symbol
cluster_free = refl

pub cluster_spare : spare false (cluster false) ≡ true
unfolding cluster emojis emoji_turn emoji_extension emoji_mark other_arm newline one_of base_vs standard standard_tail is_symbol_mark given symbol_marks marked_syllable consonant_marks syllable opens_halant halant_base halant is_coeng medials vowels is_vowel_modifier vowel_modifier finals by_kind letter number halant_number symbol
cluster_spare = refl
