-- Behind the task memory may run out for the file of its order.
use Rattle.std.proofs.Common.{ap, arith, refl, subst, sym}
use Rattle.std.specs.Prelude.{IfSome}
use Rattle.std.proofs.lemmas.Result.{err_from_is_err_and}
use Rattle.command_words.specs.Answers.{options_value}
use Rattle.command_words.specs.declared.commands.Limits.{Limits}
use Rattle.memory_core.specs.Limits.{KeepsEntries}
use Rattle.vest_runs.specs.Keeping.{limit_of}
use Rattle.vest_cli.specs.Run.{target_of}
use Rattle.vest_cli.proofs.Halting.{stops_short}
use Rattle.vest_cli.proofs.RunDecided.{runs_on}
use Rattle.vest_cli.proofs.tasks.waiting_of.Goals as goal

pub order_file-requires-clause-events : goal.order_file-requires-clause-events
order_file-requires-clause-events g c =
    let same = ap (λ (l : Limits). l.events) c.in_ok-task.ensures.task.same_limits in
    omega (arith, same, c.requires.events)

pub order_file-requires-clause-kept : goal.order_file-requires-clause-kept
order_file-requires-clause-kept g c =
    subst (λ (l : Limits). IfSome (options_value c.args.options.now).order (λ _. KeepsEntries (limit_of l))) (sym c.in_ok-task.ensures.task.same_limits) c.requires.kept

pub returns-in_err-order-clause-why : goal.returns-in_err-order-clause-why
returns-in_err-order-clause-why g c =
    let p = err_from_is_err_and c.from_residual-in_err-order.result c.from_residual-in_err-order.ensures.1 in
    rw (p.1, p.2) (stops_short c.args.name.now (options_value c.args.options.now) (g.D.Desk.meaning c.args.desk.now) (g.D.Desk.meaning c.task_of.new.desk)
    (g.I.Source.meaning c.args.input.now) (g.I.Source.meaning c.task_of.new.input) c.in_ok-task.task c.in_ok-task.ensures.task)

pub returns-in_err-order-clause-decided : goal.returns-in_err-order-clause-decided
returns-in_err-order-clause-decided g c = λ d on.
    let p = err_from_is_err_and c.from_residual-in_err-order.result c.from_residual-in_err-order.ensures.1 in
    rw (p.1, p.2) tt

pub returns-clause-waiting : goal.returns-clause-waiting
returns-clause-waiting g c = record { task = c.in_ok-task.ensures.task; puts = refl; order = c.in_ok-order.ensures.name; room = c.in_ok-order.ensures.room }

pub returns-clause-decided : goal.returns-clause-decided
returns-clause-decided g c = λ d on.
    let task = c.in_ok-task.task in
    let its = c.in_ok-task.ensures.task in
    runs_on (target_of c.args.options.now.target) (g.D.Desk.meaning c.args.desk.now).files c.args.name.now task.loaded.image task.loaded.target task.loaded.translation (g.I.Source.meaning c.args.input.now) (g.I.Source.meaning c.task_of.new.input) task.taken.items d its.loads its.reads on
