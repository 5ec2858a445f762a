use Rattle.vax_text.proofs.Walk.{walks_alone}
use Rattle.vax_text.proofs.instruction.instruction_text.Goals as goal

pub returns-in-len1-up-clause-walk : goal.returns-in-len1-up-clause-walk
returns-in-len1-up-clause-walk c = walks_alone c.args.instr.now.at c.args.bytes.now c.args.instr.now c.requires
