-- What was made went out, and then the hints were stored.
use Rattle.std.proofs.Common.{ℕ, List, subst, ◌∙◌}
use Rattle.std.specs.Prelude.{option_map}
use Rattle.vest_runs.specs.Delivery.{Delivers}
use Rattle.vest_cli.specs.Replay.{done_of}
use Rattle.vest_cli.proofs.StoredOrders.{hints_stored}
use Rattle.vest_cli.proofs.replaying.replay.Goals as goal

pub returns-clause-does : goal.returns-clause-does
returns-clause-does g c =
    let given = c.in_ok-outgoing.outgoing.given in
    let made = c.in_ok-outgoing.ensures.ok in
    record {
      replayed = given;
      gives = made.gives;
      sent = c.send-sent.result;
      delivered = subst (λ (lines : List ℕ). Delivers c.send-sent.result given.output lines (done_of given.ends) (g.K.Sink.meaning c.args.out.now) (g.K.Sink.meaning c.send-sent.new.out) (g.E.Sink.meaning c.args.report.now) (g.E.Sink.meaning c.send-sent.new.report))
          (c.deref.ensures.value ∙ made.lines) c.send-sent.ensures;
      stored = hints_stored made.gives.image made.gives.order made.gives.code.map (option_map (λ s. s.now) c.args.hints) c.in_ok-outgoing.outgoing.hints c.store_hints.result c.send-sent.result
          (g.D.Desk.meaning c.args.desk.now) (g.D.Desk.meaning c.made.new.desk) (g.D.Desk.meaning c.store_hints.new.desk) c.made.ensures.stays made.hinted c.store_hints.ensures;
    }
