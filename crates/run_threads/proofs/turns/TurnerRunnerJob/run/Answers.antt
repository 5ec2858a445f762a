use Rattle.shared_memory.specs.Passes.{set_up_of, seen_of}
use Rattle.run_threads.specs.Programs.{setting_of}
use Rattle.run_threads.proofs.Steps.{begins}
use Rattle.run_threads.proofs.turns.TurnerRunnerJob.run.Goals as goal

pub turn_all-pass-requires-clause-way : goal.turn_all-pass-requires-clause-way
turn_all-pass-requires-clause-way g c =
    let ready = c.requires.2 in
    begins (setting_of c.args.self.now.program) (set_up_of c.args.self.now.memory.now) (seen_of c.args.job.pass) c.args.job.processor ready.unseen ready.begun
