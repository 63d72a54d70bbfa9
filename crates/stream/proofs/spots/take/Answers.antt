use Rattle.records.specs.Text.{lent}
use Rattle.stream.proofs.Stream.{rest_over}
use Rattle.stream.proofs.Taking.{taken_here, taken_on}
use mathlib.Core.Path.{◌∙◌, ap}
use native.Mathlib.Omega.{arith}
use lib.ListN.{length}
use Rattle.stream.proofs.spots.take.Goals as goal

pub returns-then-k-pieces : goal.returns-then-k-pieces
returns-then-k-pieces c = λ _. c.loop-i.invariant ∙ taken_here _ _ (lent c.args.columns.now) _ _ _ c.loop-i-test.true c.pieces_at-pieces.ensures.0 _ _ c.if-k-pieces.true c.piece-token.ensures c.behind-next.ensures

pub loop-i-preserved : goal.loop-i-preserved
loop-i-preserved c = c.loop-i.invariant ∙ taken_on _ _ (lent c.args.columns.now) _ _ _ c.loop-i-test.true c.pieces_at-pieces.ensures.0 c.if-k-pieces.false

pub returns : goal.returns
returns c = λ l. absurd (omega (arith, l, ap length (c.loop-i.invariant ∙ rest_over _ _ _ _ c.loop-i-test.false)))
