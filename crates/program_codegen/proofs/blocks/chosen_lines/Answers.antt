use Rattle.program_codegen.proofs.HomePushing.{ok_all_to_leave}
use Rattle.program_codegen.proofs.blocks.chosen_lines.Goals as goal

pub returns-in-None-clause-ranged : goal.returns-in-None-clause-ranged
returns-in-None-clause-ranged c = ok_all_to_leave c.args.program.now c.program_lines.result c.program_lines.ensures.ranged
