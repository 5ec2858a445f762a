use Rattle.dis_text.proofs.Tiles.{whole}
use Rattle.dis_text.proofs.pieces_are_whole.Goals as goal

pub returns : goal.returns
returns c = whole
