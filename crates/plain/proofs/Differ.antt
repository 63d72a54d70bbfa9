-- The table of differences and that of plain texts, computed: the check accepts every text of them, and each is plain, and parted by the
-- run and by the rules, as told.
-- Assumes nothing.
use mathlib.Core.Path.{◌≡◌, refl}
use mathlib.Core.Bool.{true}
use lib.ListN.{length, replicate}
use Rattle.basics.specs.Columns.{cells}
use Rattle.basics.specs.Sets.{every}
use Rattle.records.specs.Refusals.{verdict, marked_verdict, judge_marked, judge_lengths, judge_parts, judge_records, judge_signs, judge_record, judge_part, judge_sign, over, bad_scalar, bad_run, barred, bad_sign, is_split}
use Rattle.stream.specs.Stream.{stream_of, gather, itself}
use Rattle.parse.specs.State.{step_of, push_of, note_of, loop, at_most}
use Rattle.parse.specs.Rule.{run, one_of}
use Rattle.parse.specs.Shared.{emojis, emoji_turn, emoji_extension, emoji_mark, newline, newline_with}
use Rattle.simple.specs.Grammar.{cluster, start, control, syllable, leading, vowel, trailing, other, is_extension, extension, extend, combining}
use Rattle.segment.specs.Calls.{grammar, called}
use Rattle.segment.specs.Runs.{calls_from}
use Rattle.uax29.specs.Clusters.{is, is_not, among, pictographic, anything, edge, any, one, next, many, pairs, GB1, GB2, GB3, GB4, GB5, GB6, GB7, GB8, GB9, GB9a, GB9b, GB11, GB12, GB13, GB999, applies, decide, before_in, items_from, boundary_at, places_from}
use Rattle.words.specs.Rules.{flag_rules, number_rules, letter_rules, pair_rules, exit_of, leaves}
use Rattle.words.specs.Run.{next_at, state_at, answer_at}
use Rattle.uax29.specs.Words.{WB1, WB2, WB3, WB3a, WB3b, WB3c, WB3d, WB4, WB5, WB6, WB7, WB7a, WB7b, WB7c, WB8, WB9, WB10, WB11, WB12, WB13, WB13a, WB13b, WB15, WB16, WB999, kept, passed}
use Rattle.uax29.specs.Words as Words
use Rattle.plain.specs.Words.{plain_word_at, is_plain_words}
use Rattle.plain.specs.Clusters.{plain_mark, plain_pair, plain_at, all_short, is_plain, starts_from}
use Rattle.plain.specs.Differences.{differences, plains, alikes, standing, all_given, all_told}

-- with their numbers, so that no row goes unnoticed
pub differ : (length differences ≡ 35) × ((length plains ≡ 10) × ((length alikes ≡ 1) × (all_given ≡ all_told)))
unfolding verdict judge_lengths judge_parts judge_records judge_signs judge_record judge_part judge_sign over bad_scalar bad_run barred bad_sign is_split stream_of gather itself step_of push_of note_of loop at_most run one_of emojis emoji_turn emoji_extension emoji_mark newline newline_with cluster start control syllable leading vowel trailing other is_extension extension extend combining grammar called calls_from is is_not among pictographic anything edge any one next many pairs GB1 GB2 GB3 GB4 GB5 GB6 GB7 GB8 GB9 GB9a GB9b GB11 GB12 GB13 GB999 applies decide before_in items_from boundary_at places_from plain_mark plain_pair plain_at every all_short is_plain starts_from marked_verdict judge_marked flag_rules number_rules letter_rules pair_rules exit_of leaves next_at state_at answer_at cells WB1 WB2 WB3 WB3a WB3b WB3c WB3d WB4 WB5 WB6 WB7 WB7a WB7b WB7c WB8 WB9 WB10 WB11 WB12 WB13 WB13a WB13b WB15 WB16 WB999 kept passed Words.boundary_at plain_word_at is_plain_words
differ = (refl, (refl, (refl, refl)))

-- each of the sixteen classes that a plain word text may have stands in one of them
pub all_stand : standing ≡ replicate 16 true
all_stand = refl
