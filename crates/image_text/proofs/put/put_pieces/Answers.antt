use Rattle.image_text.specs.Pieces.{piece_text}
use Rattle.image_text.proofs.Appended.{each_step}
use Rattle.image_text.proofs.put.put_pieces.Goals as goal

pub loop-piece-preserved : goal.loop-piece-preserved
loop-piece-preserved c =
    each_step piece_text c.args.pieces.now c.loop-piece.piece-index _ c.args.out.now.items c.loop-piece.out.items _ c.loop-piece-test.true c.loop-piece.invariant
    c.in_ok-put_piece.ensures
