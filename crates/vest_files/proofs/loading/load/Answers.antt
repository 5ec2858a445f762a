-- What a file is loaded as is what its bytes decide.
use Rattle.std.proofs.Common.{◌≡◌, ℕ, List, inr, subst, sym}
use Rattle.std.proofs.lemmas.Result.{IfErr-weaker}
use Rattle.vest_files.specs.Stages.{IsFile}
use Rattle.vest_files.proofs.Deciding.{bytes_decided}
use Rattle.vest_files.proofs.loading.load.Goals as goal

pub returns-clause-why : goal.returns-clause-why
returns-clause-why g c =
    IfErr-weaker c.of_bytes.result _ _
    (λ stop why. inr
    (c.deref.result.now, subst (λ (bytes : List ℕ). IsFile (g.D.Desk.meaning c.args.desk.now).files c.args.name.now bytes) (sym c.deref.ensures.value) c.in_ok-bytes.ensures.ok, why))
    c.of_bytes.ensures.err

pub returns-clause-decided : goal.returns-clause-decided
returns-clause-decided g c = λ d e.
    bytes_decided c.of_bytes.result d c.args.asked (λ x. x.image) (λ x. x.target) (λ x. x.translation) (g.D.Desk.meaning c.args.desk.now).files c.args.name.now c.deref.result.now
    (subst (λ (bytes : List ℕ). IsFile (g.D.Desk.meaning c.args.desk.now).files c.args.name.now bytes) (sym c.deref.ensures.value) c.in_ok-bytes.ensures.ok)
    c.of_bytes.ensures.ok c.of_bytes.ensures.err e
