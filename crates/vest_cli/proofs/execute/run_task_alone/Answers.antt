-- The history and the processor are a legal run, and so what the thread did.
use Rattle.std.proofs.Common.{ℕ, List, map, ap, subst, ◌∙◌}
use Rattle.image_meaning.specs.Meant.{image_meaning}
use Rattle.image_meaning.specs.Permits.{permit_of}
use Rattle.memory_core.specs.declared.entry.SetUp.{SetUp}
use Rattle.system_model.specs.declared.translation.Range.{Range}
use Rattle.tie_switch.specs.Processors.{processor_of}
use Rattle.tie_switch.specs.Settings.{image_setting}
use Rattle.vest_cli.specs.Made.{running_of}
use Rattle.vest_runs.specs.Threads.{HasRun}
use Rattle.vest_cli.proofs.execute.run_task_alone.Goals as goal

pub run_alone-requires-clause-meets : goal.run_alone-requires-clause-meets
run_alone-requires-clause-meets c =
    let pages = c.args.task.now.loaded.image.pages in
    c.permits.ensures.meets (image_meaning pages) c.args.task.now.loaded.target pages c.args.task.now.loaded.translation c.requires.meets

pub returns-clause-ran : goal.returns-clause-ran
returns-clause-ran c =
    let task = c.args.task.now in
    let pages = task.loaded.image.pages in
    let setting = image_setting pages task.loaded.translation in
    let permit = permit_of task.loaded.target pages in
    let world = c.in_ok-world.world in
    let history = c.run_alone.result.0.history in
    let processors = map processor_of c.run_alone.result.1.items in
    let by_ranges = subst (λ (ranges : List Range). HasRun (setting ranges) permit world.memory.set_up world.budget history processors) c.deref-3.ensures.value
    (c.run_alone.ensures.ran task.loaded.target c.requires.meets) in
    let by_budget = subst (λ (budget : ℕ). HasRun (setting task.ranges.items) permit world.memory.set_up budget history processors) c.in_ok-world.ensures.budget by_ranges in
    subst (λ (of : SetUp). HasRun (setting task.ranges.items) permit of task.limits.budget history processors)
    (c.in_ok-world.ensures.set_up ∙ ap (λ (input : List ℕ). (running_of task.loaded.image input task.limits).set_up) c.deref.ensures.value) by_budget
