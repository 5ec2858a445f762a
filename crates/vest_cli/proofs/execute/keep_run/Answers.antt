-- What was made is kept.
use Rattle.std.proofs.Common.{map, subst, sym}
use Rattle.image_meaning.specs.Permits.{permit_of}
use Rattle.memory_core.specs.declared.entry.SetUp.{SetUp}
use Rattle.tie_switch.specs.Processors.{processor_of}
use Rattle.tie_switch.specs.Settings.{image_setting}
use Rattle.vest_runs.specs.Threads.{HasRun}
use Rattle.vest_cli.proofs.execute.keep_run.Goals as goal

pub returns-clause-kept : goal.returns-clause-kept
returns-clause-kept c =
    let run = c.args.run in
    let loaded = run.task.loaded in
    c.keep.ensures.kept loaded.target
    (subst (λ (of : SetUp). HasRun (image_setting loaded.image.pages loaded.translation run.task.ranges.items) (permit_of loaded.target loaded.image.pages) of run.task.limits.budget run.memory.history (map processor_of run.processors.items))
    (sym c.requires.set_up) c.requires.ran)
