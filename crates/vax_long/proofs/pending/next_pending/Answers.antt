use Rattle.std.proofs.Common.{sym, ap, ◌∙◌}
use Rattle.vax_form.specs.Moments.{settled}
use Rattle.vax_form.specs.Tree.{answer, outcome, instruction_tree}
use Rattle.vax_form.specs.declared.state.Pending.{Pending}
use Rattle.vax_form.proofs.Moments.{handled_is_settled}
use Rattle.vax_long.specs.Pending.{moment_of, resume}
use Rattle.vax_long.proofs.pending.next_pending.Goals as goal

pub returns-in-Resume-clause-value : goal.returns-in-Resume-clause-value
returns-in-Resume-clause-value c = λ thread.
    let state = c.args.state.now in
    let pages = c.args.pages.now in
    let replies = c.args.replies.now in
    c.settle.ensures ∙ ap settled c.resumption.ensures.value
    ∙ sym (handled_is_settled pages state (instruction_tree pages resume state) replies)
    ∙ ap (λ (p : Pending). outcome state (answer pages (moment_of pages thread state p) replies)) (sym c.in-Resume.is)
