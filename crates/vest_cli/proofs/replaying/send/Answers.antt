-- Both sinks took all, and the ends decide.
use Rattle.std.proofs.Common.{◌≡◌, ◌∙◌, ap, rules}
use Rattle.vt_outside.specs.Taking.{TookAll}
use Rattle.vest_cli.specs.Replay.{done_of}
use Rattle.vest_cli.proofs.StoredOrders.{sent}
use Rattle.vest_cli.proofs.replaying.send.Goals as goal

pub returns : goal.returns
returns g c =
    let given = c.args.given.now in
    let out : TookAll (g.K.Sink.meaning c.args.out.now) (g.K.Sink.meaning c.write_all.new.sink) given.output = search rules in
    let report : TookAll (g.E.Sink.meaning c.args.report.now) (g.E.Sink.meaning c.write_all-2.new.sink) c.args.lines.now = search rules in
    let ends : c.deref-2.result.now ≡ given.ends = search rules in
    sent c.done_of.result given.ends given.output c.args.lines.now (g.K.Sink.meaning c.args.out.now) (g.K.Sink.meaning c.write_all.new.sink) (g.E.Sink.meaning c.args.report.now) (g.E.Sink.meaning c.write_all-2.new.sink)
    (c.done_of.ensures ∙ ap done_of ends) out report
