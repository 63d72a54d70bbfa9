use Rattle.complex.specs.Grammar.{letter, number, symbol}
use Rattle.parse.proofs.Rules.{rules}
use Rattle.complex.proofs.parse_letter.Goals as goal

pub returns-then-kind_is : goal.returns-then-kind_is
returns-then-kind_is c = unfold letter in search rules depth 14

pub returns-then-kind_is-2 : goal.returns-then-kind_is-2
returns-then-kind_is-2 c = unfold letter in search rules depth 14

pub returns-then-kind_is-3 : goal.returns-then-kind_is-3
returns-then-kind_is-3 c = unfold letter number in search rules depth 14

pub returns-then-kind_is-4 : goal.returns-then-kind_is-4
returns-then-kind_is-4 c = unfold letter symbol in search rules depth 14

pub returns-else-kind_is-4 : goal.returns-else-kind_is-4
returns-else-kind_is-4 c = unfold letter in search rules depth 14
