use Rattle.cases.proofs.Fields.{value_within}
use Rattle.cases.proofs.columns.value.Goals as goal

pub returns-clause-upper_bound : goal.returns-clause-upper_bound
returns-clause-upper_bound c = value_within _ _ _ _ _ c.read_number.ensures c.unwrap_or.ensures
