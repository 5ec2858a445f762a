-- What was made went out, was stored, and is kept.
use Rattle.std.proofs.Common.{subst}
use Rattle.run_files.specs.Spelling.{order_bytes}
use Rattle.run_files.specs.Values.{OrderValue}
use Rattle.vest_cli.specs.Storing.{Stores, name_of}
use Rattle.vest_cli.proofs.OrderFiles.{delivered_as, kept_order}
use Rattle.vest_cli.proofs.waiting.give.Goals as goal

pub returns : goal.returns
returns g c =
    let kept = c.keep_run.new.kept in
    let run = c.args.run in
    let order = kept_order run.memory.history run.task.taken.items run.processors.items kept c.keep_run.ensures.history c.keep_run.ensures.kept.input c.keep_run.ensures.processors in
    record {
      has_kept = c.keep_run.ensures.kept;
      run = c.deliver_run-sent.result;
      delivered = delivered_as run c.args.puts kept c.deliver_run-sent.result (g.K.Sink.meaning c.args.out.now) (g.K.Sink.meaning c.deliver_run-sent.new.out) (g.E.Sink.meaning c.args.report.now) (g.E.Sink.meaning c.deliver_run-sent.new.report)
          c.requires.made c.keep_run.ensures.kept c.keep_run.ensures.history c.keep_run.ensures.processors c.deliver_run-sent.ensures;
      stored = subst (λ (o : OrderValue). Stores c.store-done.result c.deliver_run-sent.result (name_of c.args.order) (order_bytes o) (g.D.Desk.meaning c.args.desk.now) (g.D.Desk.meaning c.store-done.new.desk)) order c.store-done.ensures.stores;
      unasked = c.store-done.ensures.unasked;
    }
