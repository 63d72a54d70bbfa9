use Rattle.stream.specs.Stream.{count_from}
use Rattle.stream.proofs.Stream.{count_more, count_all}
use native.Mathlib.Omega.{arith}
use mathlib.Core.Path.{◌∙◌, ap}
use Rattle.stream.proofs.count.Goals as goal

pub loop-i-preserved : goal.loop-i-preserved
loop-i-preserved c = (omega (arith, c.pieces_at-sum.ensures.1), count_more _ _ _ _ _ _ _ _ _ c.loop-i.invariant.1 c.loop-i-test.true c.pieces_at-sum.ensures.0)

pub returns : goal.returns
returns c = count_all _ _ _ _ _ _ _ _ c.loop-i.invariant.1 c.loop-i-test.false ∙ ap (count_from _ _ _ _ _ 0) c.min-n.ensures
