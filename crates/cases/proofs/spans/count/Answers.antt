use Rattle.std.specs.Prelude.{eqb}
use Rattle.std.proofs.Common.{rules, tests}
use Rattle.std.proofs.lemmas.Iterator.{YieldsList-from_slice}
use Rattle.std.proofs.lemmas.Iterator.Consumers.{YieldsList-from_filter, count_from_yields_List}
use Rattle.cases.proofs.Splits.{count_is}
use Rattle.cases.proofs.spans.count.Goals as goal

pub returns : goal.returns
returns c =
    count_is _ _ _ (count_from_yields_List c.filter.result _ c.count.ensures.ran
    (YieldsList-from_filter _ (λ x. eqb x c.args.s) (YieldsList-from_slice c.args.xs.now cc) c.filter.ensures.closure (λ x b q k. search (rules, tests))))
