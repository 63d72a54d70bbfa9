use Rattle.properties.proofs.Tables.{Left}
use Rattle.properties.proofs.names.find.Given as goal

abbrev pub invariant-loop-code : goal.invariant-loop-code
invariant-loop-code l = Left l.names l.codes l.value l.at l.code-index
