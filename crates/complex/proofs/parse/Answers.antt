use Rattle.complex.specs.Grammar.{cluster}
use Rattle.parse.proofs.Rules.{rules}
use Rattle.complex.proofs.parse.Goals as goal

pub returns-then-emoji : goal.returns-then-emoji
returns-then-emoji c = unfold cluster in search rules depth 14

pub returns-then-kind_is : goal.returns-then-kind_is
returns-then-kind_is c = unfold cluster in search rules depth 14

pub returns-then-kind_in : goal.returns-then-kind_in
returns-then-kind_in c = unfold cluster in search rules depth 14

pub returns-then-kind_is-2 : goal.returns-then-kind_is-2
returns-then-kind_is-2 c = unfold cluster in search rules depth 14

pub returns-then-kind_is-3 : goal.returns-then-kind_is-3
returns-then-kind_is-3 c = unfold cluster in search rules depth 14

pub returns-else-kind_is-3 : goal.returns-else-kind_is-3
returns-else-kind_is-3 c = unfold cluster in search rules depth 14
