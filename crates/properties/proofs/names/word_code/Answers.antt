use Rattle.cases.specs.Spans.{before, up_to, after}
use Rattle.properties.proofs.names.word_code.Goals as goal

pub returns : goal.returns
returns c = unfold before up_to after in c.find.ensures
