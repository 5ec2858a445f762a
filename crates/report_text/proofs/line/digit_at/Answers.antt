use Rattle.std.proofs.Common.{◌<◌, ℕ, subst, sym}
use Rattle.report_text.proofs.Hexadecimal.{power_fits, power_positive}
use Rattle.report_text.proofs.line.digit_at.Goals as goal

pub pow-requires : goal.pow-requires
pow-requires c = power_fits c.args.place c.requires

pub nonzero_div-result : goal.nonzero_div-result
nonzero_div-result c = subst (λ (power : ℕ). 0 < power) (sym c.pow.ensures) (power_positive c.args.place c.requires)
