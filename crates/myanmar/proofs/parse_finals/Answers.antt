use Rattle.myanmar.specs.Grammar.{finals}
use Rattle.parse.proofs.Rules.{rules}
use Rattle.myanmar.proofs.parse_finals.Goals as goal

pub returns : goal.returns
returns c = unfold finals in search rules depth 14
