-- The report takes the line, or a part of it.
use Rattle.std.proofs.Common.{rules, ◌≡◌, ℕ, List, subst}
use Rattle.vximage_cli.specs.Listing.{names_line}
use Rattle.vximage_cli.specs.Stopping.{Says}
use Rattle.vximage_cli.proofs.Saying.{says}
use Rattle.vximage_cli.proofs.halt.say_bad_name.Goals as goal

pub returns : goal.returns
returns g c =
    let line : c.as_slice.result.now ≡ names_line c.args.line = search rules in
    subst (λ (text : List ℕ). Says text (g.E.Sink.meaning c.args.report.now) (g.E.Sink.meaning c.write_all.new.sink)) line
    (says c.write_all.result c.as_slice.result.now (g.E.Sink.meaning c.args.report.now) (g.E.Sink.meaning c.write_all.new.sink) c.write_all.ensures.ok c.write_all.ensures.err)
