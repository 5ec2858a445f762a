-- The file was written, or its write failed.
use Rattle.std.proofs.Common.{◌∙◌, sym, refl, arith, inr}
use Rattle.vest_cli.specs.Storing as storing
use Rattle.vest_cli.proofs.OrderFiles.{failed_is, not_failed}
use Rattle.vest_cli.proofs.storing.write_behind.Goals as goal

pub returns-then-has_failed : goal.returns-then-has_failed
returns-then-has_failed g c =
    storing.left (inr (failed_is c.args.sent (sym c.has_failed.ensures ∙ c.if-has_failed.true))) refl (record { files = refl; write_faults = refl; read_faults = omega arith })

pub returns-in-Done : goal.returns-in-Done
returns-in-Done g c =
    storing.stored c.args.name.now refl (not_failed c.args.sent (sym c.has_failed.ensures ∙ c.if-has_failed.false)) refl (c.in-Done.ensures.done refl)

pub returns-in-Failed : goal.returns-in-Failed
returns-in-Failed g c =
    storing.failed c.args.name.now refl (not_failed c.args.sent (sym c.has_failed.ensures ∙ c.if-has_failed.false)) refl (c.in-Failed.ensures.failed_has_cause refl, c.in-Failed.ensures.failed refl)
