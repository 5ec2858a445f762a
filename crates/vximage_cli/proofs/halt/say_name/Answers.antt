-- A fault behind the text, or behind the name.
use Rattle.std.proofs.Common.{List, [], ◌∷◌, ◌++◌, subst}
use Rattle.std.specs.Prelude.{ℕ}
use Rattle.vt_outside.specs.Taking.{TookAll, TookSome}
use Rattle.vt_outside.proofs.Taking.{took_both, took_some_first, took_some_second}
use Rattle.vximage_cli.proofs.Saying.{on_err}
use Rattle.vximage_cli.proofs.halt.say_name.Goals as goal

pub returns-in_err-write_all-2-clause-err : goal.returns-in_err-write_all-2-clause-err
returns-in_err-write_all-2-clause-err g c =
    let named = subst (λ (bytes : List ℕ). TookSome (g.E.Sink.meaning c.write_all.new.sink) (g.E.Sink.meaning c.write_all-2.new.sink) bytes) c.as_bytes.ensures.value c.in_err-write_all-2.ensures.err in
    on_err c.from_residual-in_err-write_all-2.result _
    (took_some_first (g.E.Sink.meaning c.args.report.now) (g.E.Sink.meaning c.write_all-2.new.sink) (c.args.text.now ++ c.args.name.now) (10 ∷ [])
    (took_some_second (g.E.Sink.meaning c.args.report.now) (g.E.Sink.meaning c.write_all.new.sink) (g.E.Sink.meaning c.write_all-2.new.sink) c.args.text.now c.args.name.now c.in_ok-write_all.ensures.ok named))

pub returns-in_err-write_all-3-clause-err : goal.returns-in_err-write_all-3-clause-err
returns-in_err-write_all-3-clause-err g c =
    let named = subst (λ (bytes : List ℕ). TookAll (g.E.Sink.meaning c.write_all.new.sink) (g.E.Sink.meaning c.write_all-2.new.sink) bytes) c.as_bytes.ensures.value c.in_ok-write_all-2.ensures.ok in
    on_err c.from_residual-in_err-write_all-3.result _
    (took_some_second (g.E.Sink.meaning c.args.report.now) (g.E.Sink.meaning c.write_all-2.new.sink) (g.E.Sink.meaning c.write_all-3.new.sink) (c.args.text.now ++ c.args.name.now) (10 ∷ [])
    (took_both (g.E.Sink.meaning c.args.report.now) (g.E.Sink.meaning c.write_all.new.sink) (g.E.Sink.meaning c.write_all-2.new.sink) c.args.text.now c.args.name.now c.in_ok-write_all.ensures.ok named)
    c.in_err-write_all-3.ensures.err)
