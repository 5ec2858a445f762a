-- Behind the file, its bytes say why.
use Rattle.std.proofs.Common.{◌≡◌, IfErr, ℕ, List, None, inr, rules, subst, sym}
use Rattle.std.proofs.lemmas.Result.{IfErr-weaker}
use Rattle.vest_files.specs.Stages.{IsFile}
use Rattle.vximage_cli.specs.Named.{name_told}
use Rattle.vximage_cli.specs.Showing.{StopsShow}
use Rattle.vximage_cli.specs.declared.halt.Halt.{Halt}
use Rattle.vximage_cli.proofs.showing.show.Goals as goal

pub returns-in_err-text-clause-why : goal.returns-in_err-text-clause-why
returns-in_err-text-clause-why g c =
    let halt : Halt = record { stop = c.in_err-text.field-0.0; name = None } in
    let same : IfErr c.from_residual-in_err-text.result (λ x. x ≡ halt) = search rules in
    let file = subst (λ (bytes : List ℕ). IsFile (g.D.Desk.meaning c.args.desk.now).files c.args.name.now bytes) (sym c.deref.ensures.value) c.in_ok-bytes.ensures.ok in
    IfErr-weaker c.from_residual-in_err-text.result _ _
    (λ x is. subst (λ (h : Halt). StopsShow h.stop (name_told h) c.args.name.now (g.D.Desk.meaning c.args.desk.now) (g.D.Desk.meaning c.read_named.new.desk)) (sym is) (inr (c.deref.result.now, file, c.in_err-text.ensures.err)))
    same
