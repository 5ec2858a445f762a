-- The file was read, and its bytes are an order.
use Rattle.std.proofs.Common.{ℕ, List, inr, subst, sym}
use Rattle.std.proofs.lemmas.Result.{IfErr-weaker, IfOk-weaker}
use Rattle.vest_files.specs.Stages.{IsFile}
use Rattle.vest_cli.proofs.replaying.order_in.Goals as goal

pub returns-clause-ok : goal.returns-clause-ok
returns-clause-ok g c =
    let stored = subst (λ (bytes : List ℕ). IsFile (g.D.Desk.meaning c.args.desk.now).files c.args.file.now bytes) (sym c.deref.ensures.value) c.in_ok-bytes.ensures.ok in
    IfOk-weaker c.order_of.result _ _ (λ order meant. record { bytes = c.deref.result.now; stored = stored; meant = meant }) c.order_of.ensures.ok

pub returns-clause-why : goal.returns-clause-why
returns-clause-why g c =
    let stored = subst (λ (bytes : List ℕ). IsFile (g.D.Desk.meaning c.args.desk.now).files c.args.file.now bytes) (sym c.deref.ensures.value) c.in_ok-bytes.ensures.ok in
    IfErr-weaker c.order_of.result _ _ (λ stop why. inr (c.deref.result.now, stored, why)) c.order_of.ensures.err
