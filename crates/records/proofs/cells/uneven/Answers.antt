use Rattle.std.specs.Prelude.{eqb, not, get_or}
use Rattle.std.proofs.Common.{rules, tests}
use Rattle.std.proofs.lemmas.Iterator.{YieldsList-from_slice}
use Rattle.std.proofs.lemmas.Iterator.Search.{any_from_yields_List}
use Rattle.records.proofs.cells.uneven.Goals as goal

pub returns : goal.returns
returns c = any_from_yields_List (λ n. not (eqb n (get_or c.args.lengths.now 0 0))) _ _ _ c.any.ensures.ran (YieldsList-from_slice c.args.lengths.now cc) (λ x b q k. search (rules, tests))
