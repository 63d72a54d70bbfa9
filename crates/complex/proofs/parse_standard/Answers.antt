use Rattle.complex.specs.Grammar.{standard}
use Rattle.parse.proofs.Rules.{rules}
use Rattle.complex.proofs.parse_standard.Goals as goal

pub returns-then-kind_in : goal.returns-then-kind_in
returns-then-kind_in c = unfold standard in search rules depth 8

pub returns-else-kind_in : goal.returns-else-kind_in
returns-else-kind_in c = unfold standard in search rules depth 8
