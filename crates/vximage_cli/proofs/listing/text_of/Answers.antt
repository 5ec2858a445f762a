-- Where memory runs out, nothing is said of the bytes.
use Rattle.std.proofs.Common.{subst, sym}
use Rattle.std.proofs.lemmas.Result.{IfErr-weaker}
use Rattle.vest_files.specs.Loading.{StopsAtBytes}
use Rattle.vest_stops.specs.declared.stop.Stop.{Stop}
use Rattle.vximage_cli.proofs.Wanting.{may_want}
use Rattle.vximage_cli.proofs.listing.text_of.Goals as goal

pub returns-clause-err : goal.returns-clause-err
returns-clause-err c =
    IfErr-weaker c.listed.result _ _ (λ stop is. subst (λ (s : Stop). StopsAtBytes s c.args.bytes.now) (sym is) (may_want c.args.bytes.now)) c.listed.ensures.err
