use Rattle.complex.specs.Grammar.{to_shape_class, by_kind}
use Rattle.parse.proofs.Rules.{by_kind as by_kind_taken}
use Rattle.complex.proofs.accept_by_kind.Goals as goal

pub returns : goal.returns
returns c = unfold by_kind in by_kind_taken _ _ _ to_shape_class _ _ c.kind.ensures c.to_shape_class.ensures c.accept_any_as.ensures
