use Rattle.alpha_encode.proofs.Reread.{again}
use Rattle.alpha_encode.proofs.encoder.encode.Goals as goal

pub returns-clause-decodes : goal.returns-clause-decodes
returns-clause-decodes c = rw c.write.ensures (again c.args.instr c.requires)
