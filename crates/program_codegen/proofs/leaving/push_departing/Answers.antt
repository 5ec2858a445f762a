use Rattle.std.proofs.Common.{◌≡◌, ◌++◌, sym, subst}
use Rattle.std.specs.Prelude.{OnOk}
use Rattle.program_codegen.specs.Words.{departing_by}
use Rattle.program_codegen.proofs.leaving.push_departing.Goals as goal

pub returns-in-Choice : goal.returns-in-Choice
returns-in-Choice c =
    let site = c.args.site in
    let op = c.args.op in
    subst (λ exit. OnOk c.push_choice.result (c.push_choice.new.lines.items ≡ c.args.lines.now.items ++ departing_by op site exit)) (sym c.in-Choice.is) (c.push_choice.ensures site)
