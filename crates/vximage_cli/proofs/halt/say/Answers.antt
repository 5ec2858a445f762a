-- The line of a fault of reading names the file.
use Rattle.std.proofs.Common.{rules, ◌≡◌, ℕ, List, [], ◌∷◌, ◌++◌, subst, sym}
use Rattle.std.specs.Prelude.{codes}
use Rattle.vximage_cli.specs.Named.{name_told}
use Rattle.vximage_cli.specs.Stopping.{Says, line_of}
use Rattle.vximage_cli.proofs.Saying.{says}
use Rattle.vximage_cli.proofs.halt.say.Goals as goal

pub returns-in-ReadFault-Some : goal.returns-in-ReadFault-Some
returns-in-ReadFault-Some g c =
    let line : line_of c.args.halt.now.stop (name_told c.args.halt.now) ≡ codes "read fault " ++ c.in-ReadFault-Some.name.now ++ 10 ∷ [] = search rules in
    subst (λ (text : List ℕ). Says text (g.E.Sink.meaning c.args.report.now) (g.E.Sink.meaning c.say_name-in-ReadFault-Some.new.report)) (sym line)
    (says c.say_name-in-ReadFault-Some.result (codes "read fault " ++ c.in-ReadFault-Some.name.now ++ 10 ∷ []) (g.E.Sink.meaning c.args.report.now) (g.E.Sink.meaning c.say_name-in-ReadFault-Some.new.report)
    c.say_name-in-ReadFault-Some.ensures.ok c.say_name-in-ReadFault-Some.ensures.err)
