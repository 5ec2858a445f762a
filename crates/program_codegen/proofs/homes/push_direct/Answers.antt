use Rattle.std.proofs.Common.{sym, ◌∙◌, subst, Some}
use Rattle.program_codegen.specs.Homes.{AreHomes}
use Rattle.program_codegen.proofs.HomeHolding.{copied_home, homes_are}
use Rattle.program_codegen.proofs.homes.push_direct.Goals as goal

pub returns-in-Some-clause-are : goal.returns-in-Some-clause-are
returns-in-Some-clause-are c =
    let home = copied_home c.args.homes c.requires.homes c.args.to c.args.op c.args.size c.args.a c.in-Some.register c.requires.first (sym c.copied.ensures ∙ c.in-Some.is) in
    subst AreHomes (sym c.with_home.ensures) (homes_are c.args.to (Some c.in-Some.register) c.args.homes home c.requires.homes)
