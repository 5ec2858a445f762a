-- Where memory ran out before the words were read, nothing was touched.
use Rattle.std.proofs.Common.{sym, subst}
use Rattle.vest_cli.specs.Lent.{lent}
use Rattle.vest_cli.specs.Program.{IsCalled, spelled_in}
use Rattle.vest_cli.proofs.Unread.{unread_words}
use Rattle.vest_cli.proofs.programs.obey_read.Goals as goal

pub returns-in-Err : goal.returns-in-Err
returns-in-Err g c =
    let old = lent (g.D.Desk.meaning c.args.desk.now) (g.I.Source.meaning c.args.input.now) (g.K.Sink.meaning c.args.out.now) (g.E.Sink.meaning c.args.report.now) in
    let new = lent (g.D.Desk.meaning c.args.desk.now) (g.I.Source.meaning c.args.input.now) (g.K.Sink.meaning c.args.out.now) (g.E.Sink.meaning c.refuse.new.report) in
    subst (λ words. IsCalled (spelled_in words) c.refuse.result old new c.empty.result) (sym c.in-Err.is)
    (unread_words c.refuse.result (g.D.Desk.meaning c.args.desk.now) (g.I.Source.meaning c.args.input.now) (g.K.Sink.meaning c.args.out.now) (g.E.Sink.meaning c.args.report.now) (g.E.Sink.meaning c.refuse.new.report)
    c.empty.result c.refuse.ensures.status c.empty.ensures c.refuse.ensures.line)
