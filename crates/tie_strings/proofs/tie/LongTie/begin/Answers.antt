-- What is decoded at the PC is what is found there.
use Rattle.std.proofs.Common.{sym}
use Rattle.tie_strings.proofs.tie.LongTie.begin.Goals as goal

pub returns : goal.returns
returns c = rw (sym c.decode_at.ensures.exact) (c.begin_decoded.ensures c.args.pages.now)
