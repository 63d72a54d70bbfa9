use Rattle.complex.specs.Grammar.{standard_tail, marked_syllable, syllable}
use Rattle.parse.proofs.Rules.{rules, by_else, by_seq}
use Rattle.complex.proofs.parse_standard_tail.Goals as goal

pub returns-then-is_symbol_mark : goal.returns-then-is_symbol_mark
returns-then-is_symbol_mark c = unfold standard_tail in search rules depth 8

pub returns-else-is_symbol_mark : goal.returns-else-is_symbol_mark
returns-else-is_symbol_mark c = unfold standard_tail marked_syllable syllable in search (by_else, by_seq) depth 14
