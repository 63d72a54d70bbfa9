use Rattle.stream.proofs.Stream.{collect_starts, collect_whole, collect_part, collect_last, collect_full, collect_over, split_whole}
use native.Mathlib.Omega.{arith}
use Rattle.stream.proofs.collect.Goals as goal

pub loop-i-init : goal.loop-i-init
loop-i-init c = collect_starts _ _ _ _ _ _ _ _ c.fetch-i.ensures

pub returns-then-out-filled : goal.returns-then-out-filled
returns-then-out-filled c = collect_full _ _ _ _ _ _ _ _ _ _ _ c.loop-i.invariant c.if-out-filled.true

pub loop-i-smaller-then-gives_itself : goal.loop-i-smaller-then-gives_itself
loop-i-smaller-then-gives_itself c = omega (arith, c.if-out-filled.false, c.loop-i.invariant.same)

pub loop-i-preserved-then-gives_itself : goal.loop-i-preserved-then-gives_itself
loop-i-preserved-then-gives_itself c = collect_whole _ _ _ _ _ _ _ _ _ _ _ _ c.loop-i.invariant c.loop-i-test.true c.if-out-filled.false _ (split_whole _ _ _ _ _ _ _ _ _ c.gives_itself.ensures c.if-gives_itself.true c.cell.ensures c.own_token.ensures) c.fetch-i-then-gives_itself.ensures

pub piece-requires : goal.piece-requires
piece-requires c = omega (arith, c.loop-i.invariant.here c.loop-i-test.true, c.pieces_at-pieces.ensures.0, c.pieces_at-pieces.ensures.1)

pub overflow_add-k : goal.overflow_add-k
overflow_add-k c = omega (arith, c.loop-i.invariant.here c.loop-i-test.true, c.pieces_at-pieces.ensures.0, c.pieces_at-pieces.ensures.1)

pub loop-i-smaller-then-pieces-k : goal.loop-i-smaller-then-pieces-k
loop-i-smaller-then-pieces-k c = omega (arith, c.if-out-filled.false, c.loop-i.invariant.same)

pub loop-i-preserved-then-pieces-k : goal.loop-i-preserved-then-pieces-k
loop-i-preserved-then-pieces-k c = collect_last _ _ _ _ _ _ _ _ _ _ _ _ c.loop-i.invariant c.loop-i-test.true c.if-out-filled.false c.piece.ensures _ c.pieces_at-pieces.ensures.0 _ c.if-pieces-k.true c.fetch-i-then-pieces-k.ensures

pub loop-i-smaller : goal.loop-i-smaller
loop-i-smaller c = omega (arith, c.if-out-filled.false, c.loop-i.invariant.same)

pub loop-i-preserved : goal.loop-i-preserved
loop-i-preserved c = collect_part _ _ _ _ _ _ _ _ _ _ _ _ c.loop-i.invariant c.loop-i-test.true c.if-out-filled.false c.piece.ensures _ c.pieces_at-pieces.ensures.0 (λ z. omega (arith, z, c.if-pieces-k.false))

pub returns : goal.returns
returns c = collect_over _ _ _ _ _ _ _ _ _ _ _ c.loop-i.invariant c.loop-i-test.false
