-- The history and the processor are a legal run, and so what the thread did.
use Rattle.std.proofs.Common.{map}
use Rattle.tie_switch.specs.Processors.{processor_of}
use Rattle.vest_cli.proofs.alone.run_alone.Goals as goal

pub returns-clause-ran : goal.returns-clause-ran
returns-clause-ran c = λ target meets.
    c.ended_is_run.ensures target meets c.args.world.memory.set_up c.args.world.budget c.run_alone.result.0.history (map processor_of c.run_alone.result.1.items)
    c.requires.image c.requires.input c.run_alone.ensures.legal c.run_alone.ensures.ended
