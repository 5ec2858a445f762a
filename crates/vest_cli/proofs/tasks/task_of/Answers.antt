-- What the files and the input decide on what is to run.
use Rattle.std.proofs.Common.{◌≡◌, IfErr, IfOk, rules}
use Rattle.vest_stops.specs.Decided.{goes_on}
use Rattle.vest_cli.specs.Run.{StopsRun, target_of}
use Rattle.vest_cli.proofs.RunDecided.{run_decided, runs_on}
use Rattle.vest_cli.proofs.tasks.task_of.Goals as goal

pub returns-in_err-taken-clause-decided : goal.returns-in_err-taken-clause-decided
returns-in_err-taken-clause-decided g c = λ d e.
    let why : IfErr c.from_residual-in_err-taken.result (λ stop. StopsRun stop (target_of c.args.options.now.target) c.args.name.now (g.D.Desk.meaning c.args.desk.now) (g.D.Desk.meaning c.load.new.desk)
    (g.I.Source.meaning c.args.input.now) (g.I.Source.meaning c.read_input.new.input)) = search rules in
    let none : IfOk c.from_residual-in_err-taken.result (λ _. d ≡ goes_on) = search rules in
    run_decided c.from_residual-in_err-taken.result d (target_of c.args.options.now.target) c.args.name.now (g.D.Desk.meaning c.args.desk.now) (g.D.Desk.meaning c.load.new.desk)
    (g.I.Source.meaning c.args.input.now) (g.I.Source.meaning c.read_input.new.input) why none e

pub returns-clause-decided : goal.returns-clause-decided
returns-clause-decided g c = λ d e.
    runs_on _ (g.D.Desk.meaning c.args.desk.now).files c.args.name.now _ _ _ (g.I.Source.meaning c.args.input.now) (g.I.Source.meaning c.read_input.new.input) _ d c.in_ok-loaded.ensures.does c.in_ok-taken.ensures.ok e
