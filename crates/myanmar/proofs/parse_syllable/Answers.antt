use Rattle.myanmar.specs.Grammar.{syllable, base}
use Rattle.parse.proofs.Rules.{rules, by_then, by_seq}
use Rattle.myanmar.proofs.parse_syllable.Goals as goal

pub returns-then-kind_in : goal.returns-then-kind_in
returns-then-kind_in c = unfold syllable base in search (by_then, by_seq) depth 14

pub returns-else-kind_in : goal.returns-else-kind_in
returns-else-kind_in c = unfold syllable in search rules depth 14
