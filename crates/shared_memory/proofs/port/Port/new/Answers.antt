use Rattle.shared_memory.specs.Passes.{number_of}
use Rattle.shared_memory.proofs.port.Port.new.Goals as goal

pub returns-clause-way : goal.returns-clause-way
returns-clause-way g c = c.of-way.ensures.way c.args.memory.now (number_of c.args.pass) c.requires
