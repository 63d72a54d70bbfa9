use Rattle.stream.proofs.Piece.{piece_itself, piece_part, piece_first, piece_second}
use Rattle.stream.proofs.pieces.piece.Goals as goal

pub returns-then-gives_itself : goal.returns-then-gives_itself
returns-then-gives_itself c = piece_itself _ _ _ _ _ _ _ c.gives_itself.ensures _ _ _ c.if-gives_itself.true c.cell.ensures c.own_token.ensures

pub returns-then-cell-eq1 : goal.returns-then-cell-eq1
returns-then-cell-eq1 c = piece_part _ _ _ _ _ _ _ c.gives_itself.ensures c.if-gives_itself.false _ c.cell-2.ensures _ _ _ c.if-cell-eq1.true c.cell-first.ensures c.part_token.ensures

pub returns-then-k-eq0 : goal.returns-then-k-eq0
returns-then-k-eq0 c = λ l. piece_first _ _ _ _ _ _ _ c.gives_itself.ensures c.if-gives_itself.false _ c.cell-2.ensures _ _ _ c.if-cell-eq1.false c.cell-first.ensures c.if-k-eq0.true c.part_token-then-k-eq0.ensures

pub returns : goal.returns
returns c = piece_second _ _ _ _ _ _ _ c.gives_itself.ensures c.if-gives_itself.false _ c.cell-2.ensures _ _ c.if-cell-eq1.false c.if-k-eq0.false c.own_token-2.ensures
