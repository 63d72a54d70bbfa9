-- Lines and values of which docs/DECISIONS.md speaks, each computed. Assumes nothing.
use Rattle.std.specs.Prelude.{Ok, Err, Some, None}
use Prim.Native.Nat.{ℕ}
use Prim.Native.String.{String}
use mathlib.Core.Path.{◌≡◌, refl}
use mathlib.Core.List.{List, [], ◌∷◌}
use Rattle.basics.specs.Sets.{every}
use Rattle.cases.specs.Numbers.{digit_of, number_from, number_of}
use Rattle.cases.specs.Spans.{before, up_to, after, rest, span, agree, equal}
use Rattle.records.specs.Refusals.{refusal, over}
use Rattle.records.specs.declared.Side.TheVariants.{Neither}
use Rattle.records.specs.Verdict.{Verdict}
use Rattle.properties.specs.declared.File.TheVariants.{Cluster, Word}
use Rattle.properties.specs.Names.{Value}
use Rattle.properties.specs.declared.Line.{Line}
use Rattle.properties.specs.declared.Line.TheVariants.{Skipped, Malformed, Range}
use Rattle.properties.specs.Rulings.{ruling_of}
use Rattle.properties.specs.Ranges.{Ranges, ranges}
use Rattle.properties.specs.Reading.{held_from, said, share, met, judge_line, cells_of, read_verdict, put_in, put_all, upward, stored, read_ranges}
use Rattle.properties.specs.Names.{ascii, among, code_of}
use Rattle.properties.specs.Lines.{is_blank, leading, ending, untailed, trimmed, without_CR, body_of, scalars_of, value_of, is_between, no_value, hex, first_of, last_of, line_of, value_in}

read : String → Line
read line = line_of (ascii line)

skipped_lines : (read "" ≡ Skipped) × (read " \t" ≡ Skipped) × (read "\r" ≡ Skipped) × (read "# @missing: 0000..10FFFF; Other" ≡ Skipped)
unfolding read line_of body_of without_CR up_to before trimmed leading untailed ending is_blank
skipped_lines = (refl, refl, refl, refl)

read_lines : (read "0041;L" ≡ Range 0x41 0x41)
    × (read "0041;L\r" ≡ Range 0x41 0x41)
    × (read "0041;L#x" ≡ Range 0x41 0x41)
    × (read "0041..005A    ; ALetter # L&  [26] LATIN CAPITAL LETTER A..Z" ≡ Range 0x41 0x5A)
    × (read "\t00aB..00Ac\t;\tL" ≡ Range 0xAB 0xAC)
    × (read "0041..0041;L" ≡ Range 0x41 0x41)
    × (read "D800..DFFF ; Control" ≡ Range 0xD800 0xDFFF)
    × (read "10FFFF;L" ≡ Range 0x10FFFF 0x10FFFF)
    × (read "000000000000000000000000000041;L" ≡ Range 0x41 0x41)
unfolding read line_of body_of without_CR up_to before after trimmed leading untailed ending is_blank scalars_of value_of is_between no_value hex first_of last_of number_of number_from digit_of
read_lines = (refl, refl, refl, refl, refl, refl, refl, refl, refl)

-- above 10FFFF, also far above; downward; blanks within; no digits; no value, two values, a third field; a CR within
malformed_lines : (read "110000;L" ≡ Malformed)
    × (read "100000041;L" ≡ Malformed)
    × (read "100000000000000000000000000041;L" ≡ Malformed)
    × (read "0042..0041;L" ≡ Malformed)
    × (read "0041 .. 0042;L" ≡ Malformed)
    × (read "0041...0042;L" ≡ Malformed)
    × (read "0041.0042;L" ≡ Malformed)
    × (read "0041..;L" ≡ Malformed)
    × (read "U+0041;L" ≡ Malformed)
    × (read "0x41;L" ≡ Malformed)
    × (read ";L" ≡ Malformed)
    × (read "0041" ≡ Malformed)
    × (read "0041;" ≡ Malformed)
    × (read "0041;L V" ≡ Malformed)
    × (read "0041;L;x" ≡ Malformed)
    × (read "0041;L\r0042;L\r" ≡ Malformed)
unfolding read line_of body_of without_CR up_to before after trimmed leading untailed ending is_blank scalars_of value_of is_between no_value hex first_of last_of number_of number_from digit_of
malformed_lines = (refl, refl, refl, refl, refl, refl, refl, refl, refl, refl, refl, refl, refl, refl, refl, refl)

value_bytes : (value_in (ascii "0041;L#x") ≡ ascii "L") × (value_in (ascii "0041..005A    ; ALetter # L&") ≡ ascii "ALetter")
unfolding value_in value_of body_of without_CR up_to before after trimmed leading untailed ending is_blank
value_bytes = (refl, refl)

-- names of the file alone, long and in their own case
cluster : String → Value
cluster name = code_of Cluster (ascii name)

word : String → Value
word name = code_of Word (ascii name)

values : (cluster "Control" ≡ Some 1)
    × (cluster "CN" ≡ None)
    × (cluster "control" ≡ None)
    × (cluster "ALetter" ≡ None)
    × (word "ALetter" ≡ Some 8)
    × (word "L" ≡ None)
    × (cluster "E_Base" ≡ Some 0)
    × (word "Glue_After_Zwj" ≡ Some 0)
    × (word "Glue_After_ZWJ" ≡ None)
unfolding cluster word code_of among equal every agree
values = (refl, refl, refl, refl, refl, refl, refl, refl, refl)

-- two lines that share a scalar, and two that touch; a fourth line that is not looked at any more, since the third finds no cell; full
-- cells and a range that meets
told : ℕ → List ℕ → String → Verdict
told held cells bytes = read_verdict Cluster (ranges cells cells cells held) (ascii bytes)

verdicts : (told 0 (0 ∷ 0 ∷ 0 ∷ []) "0041;Other\n0041;L" ≡ Err (refusal 13 Neither 2))
    × (told 0 (0 ∷ 0 ∷ []) "0041;L\n0042;L\n" ≡ Ok tt)
    × (told 0 (0 ∷ 0 ∷ []) "0041;L\n0042;L\n0043;L\nx" ≡ Err (refusal 14 Neither 3))
    × (told 0 (0 ∷ []) "0041;L\n#\n0041;l" ≡ Err (refusal 12 Neither 3))
    × (told 1 (0x41 ∷ []) "0041;L" ≡ Err (refusal 13 Neither 1))
    × (told 2 (0x41 ∷ []) "" ≡ Err (refusal 14 Neither 0))
    × (told 0 [] "" ≡ Ok tt)
unfolding told read_verdict over judge_line held_from said met share cells_of ruling_of span rest value_in code_of among equal every agree line_of body_of without_CR up_to before after trimmed leading untailed ending is_blank scalars_of value_of is_between no_value hex first_of last_of number_of number_from digit_of
verdicts = (refl, refl, refl, refl, refl, refl, refl)

-- a range before the held one and one behind it, in the order of the lines and in the other; the last cell keeps its content
filled : String → Ranges
filled bytes = read_ranges Cluster (ranges (0x50 ∷ 7 ∷ 7 ∷ 7 ∷ []) (0x5F ∷ 7 ∷ 7 ∷ 7 ∷ []) (13 ∷ 7 ∷ 7 ∷ 7 ∷ []) 1) (ascii bytes)

columns : (filled "0041..0042;L\n0060;V" ≡ ranges (0x41 ∷ 0x50 ∷ 0x60 ∷ 7 ∷ []) (0x42 ∷ 0x5F ∷ 0x60 ∷ 7 ∷ []) (4 ∷ 13 ∷ 5 ∷ 7 ∷ []) 3)
    × (filled "0060;V\n0041..0042;L" ≡ ranges (0x41 ∷ 0x50 ∷ 0x60 ∷ 7 ∷ []) (0x42 ∷ 0x5F ∷ 0x60 ∷ 7 ∷ []) (4 ∷ 13 ∷ 5 ∷ 7 ∷ []) 3)
unfolding filled read_ranges put_in put_all upward stored read_verdict over judge_line held_from said met share cells_of ruling_of span rest value_in code_of among equal every agree line_of body_of without_CR up_to before after trimmed leading untailed ending is_blank scalars_of value_of is_between no_value hex first_of last_of number_of number_from digit_of
columns = (refl, refl)
