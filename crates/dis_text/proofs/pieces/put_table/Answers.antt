use Rattle.dis_text.specs.Listing.{piece_text}
use Rattle.dis_text.specs.Made.{listed}
use Rattle.dis_text.specs.Pieces.{table_word}
use Rattle.dis_text.proofs.Lines.{text_more}
use Rattle.dis_text.proofs.pieces.put_table.Goals as goal

pub loop-number-preserved : goal.loop-number-preserved
loop-number-preserved c =
    text_more (piece_text (listed c.args.listing.now)) (table_word c.args.listing.now.pages.now c.args.table) c.args.out.now.items c.loop-number.out.items _ c.loop-number.number
    c.loop-number.invariant c.in_ok-put_word.ensures
