use Rattle.parse.proofs.Rules.{rules}
use Rattle.simple.specs.Grammar.{cluster}
use Rattle.simple.proofs.parse.Goals as goal

pub returns : goal.returns
returns c = unfold cluster in search rules depth 8
