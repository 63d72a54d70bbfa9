use Rattle.myanmar.specs.Grammar.{cluster}
use Rattle.parse.proofs.Rules.{rules}
use Rattle.myanmar.proofs.parse.Goals as goal

pub returns-then-emoji : goal.returns-then-emoji
returns-then-emoji c = unfold cluster in search rules depth 14

pub returns-then-kind_is : goal.returns-then-kind_is
returns-then-kind_is c = unfold cluster in search rules depth 14

pub returns-then-is_alone : goal.returns-then-is_alone
returns-then-is_alone c = unfold cluster in search rules depth 14

pub returns-else-is_alone : goal.returns-else-is_alone
returns-else-is_alone c = unfold cluster in search rules depth 14
