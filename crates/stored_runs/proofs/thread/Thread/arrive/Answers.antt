use Rattle.std.proofs.Common.{◌≡◌, [], None, sym, ap, ◌∙◌, subst}
use Rattle.vax_form.specs.declared.state.VaxState.{VaxState}
use Rattle.tie_switch.specs.Interpreted.{Stands}
use Rattle.stored_runs.specs.Threads.{EndsSo, IsAt, stood}
use Rattle.stored_runs.specs.declared.thread.Stage.TheVariants as stages
use Rattle.stored_runs.specs.declared.thread.Thread.{Thread}
use Rattle.stored_runs.proofs.Stepping.{on_finish, on_exit, on_trap}
use Rattle.stored_runs.proofs.thread.Thread.arrive.Goals as goal

pub returns-in-Finish-clause-at : goal.returns-in-Finish-clause-at
returns-in-Finish-clause-at c = λ replies left ends.
    let b = c.begin.ensures.begun in
    let is : c.begin.new.self ≡ stood (stages.Goes b.interpreted None) c.in-Finish.state c.args.self.now =
    b.is ∙ ap (λ (t : Thread). record t { stage = stages.Goes b.interpreted None }) c.stand.ensures.stands in
    subst (IsAt c.args.image.now c.args.thread replies) (sym is)
    (on_finish c.args.image.now c.args.thread replies c.args.self.now left c.in-Finish.state b.interpreted
    (subst (λ (s : VaxState). Stands c.args.image.now.pages c.args.thread b.interpreted s []) (ap (λ (t : Thread). t.state) c.stand.ensures.stands) b.stands)
    (subst (EndsSo c.args.image.now c.args.thread replies left c.args.self.now) c.in-Finish.is ends))

pub returns-in-Exit-clause-at : goal.returns-in-Exit-clause-at
returns-in-Exit-clause-at c = λ replies left ends.
    subst (IsAt c.args.image.now c.args.thread replies) (sym (ap (λ (t : Thread). record t { stage = stages.Exited }) c.stand-in-Exit.ensures.stands))
    (on_exit c.args.image.now c.args.thread replies c.args.self.now left c.in-Exit.state
    (subst (EndsSo c.args.image.now c.args.thread replies left c.args.self.now) c.in-Exit.is ends))

pub returns-in-Trap-clause-at : goal.returns-in-Trap-clause-at
returns-in-Trap-clause-at c = λ replies left ends.
    subst (IsAt c.args.image.now c.args.thread replies) (sym (ap (λ (t : Thread). record t { stage = stages.Trapped c.in-Trap.kind }) c.stand-in-Trap.ensures.stands))
    (on_trap c.args.image.now c.args.thread replies c.args.self.now left c.in-Trap.kind c.in-Trap.state
    (subst (EndsSo c.args.image.now c.args.thread replies left c.args.self.now) c.in-Trap.is ends))
