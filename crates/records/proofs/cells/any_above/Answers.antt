use Rattle.std.specs.Prelude.{ltb}
use Rattle.std.proofs.Common.{rules, tests}
use Rattle.std.proofs.lemmas.Iterator.{YieldsList-from_slice}
use Rattle.std.proofs.lemmas.Iterator.Search.{any_from_yields_List}
use Rattle.records.proofs.cells.any_above.Goals as goal

pub returns : goal.returns
returns c = any_from_yields_List (ltb c.args.most) _ _ _ c.any.ensures.ran (YieldsList-from_slice c.args.lengths.now cc) (λ x b q k. search (rules, tests))
