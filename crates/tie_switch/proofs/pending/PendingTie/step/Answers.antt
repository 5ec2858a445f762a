-- What is pending raises nothing but faults.
use Rattle.std.proofs.Common.{ap, ◌∙◌}
use Rattle.vax_form.specs.Tree.{answer}
use Rattle.vax_long.specs.Pending.{moment_at}
use Rattle.tie_switch.specs.Interpreted.{step_of}
use Rattle.tie_switch.proofs.Awaited.{faulting_step, awaited_step}
use Rattle.tie_switch.proofs.pending.PendingTie.step.Goals as goal

pub returns-in-Raises-clause-answers : goal.returns-in-Raises-clause-answers
returns-in-Raises-clause-answers c = λ thread.
    let pages = c.args.pages.now in
    let before = c.args.self.now.before in
    ap faulting_step (c.in-Raises.ensures.value thread) ∙ awaited_step pages thread before c.as_slice.result.now c.args.self.now.pending
    ∙ ap (λ r. step_of (answer pages (moment_at pages thread before) r)) (c.as_slice.ensures ∙ c.with-given.ensures)
