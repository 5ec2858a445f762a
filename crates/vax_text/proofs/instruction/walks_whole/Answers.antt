use Rattle.vax_text.proofs.Walk.{walks_whole}
use Rattle.vax_text.proofs.instruction.walks_whole.Goals as goal

pub returns : goal.returns
returns c = walks_whole
