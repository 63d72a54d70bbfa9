use borrow.Author.Rules.{rules}
use borrow.Author.Tests.{tests}
use Rattle.uax29.proofs.ClustersSides.{kind_among}
use Rattle.uax29.proofs.clusters.Place.after_in.Goals as goal

pub returns : goal.returns
returns c = kind_among _ _ c.after.ensures _ _ c.is_some_and.ensures (λ k q. search (rules, tests))
