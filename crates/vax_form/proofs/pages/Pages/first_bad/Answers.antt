-- Two parts show what all bytes show.
use Rattle.std.proofs.Common.{◌∙◌, sym, refl, arith}
use Rattle.vax_form.proofs.Parts.{all_within, second_refused, both_within}
use Rattle.vax_form.proofs.pages.Pages.first_bad.Goals as goal

pub returns-then-count-front-clause-bytes : goal.returns-then-count-front-clause-bytes
returns-then-count-front-clause-bytes c =
    all_within c.args.count c.args.address c.args.self.now c.args.write (omega (arith, c.ranges.address.fits)) (omega (arith, c.if-count-front.true)) (sym c.allowed.ensures ∙ c.if-not-allowed.false)

pub returns-then-not-allowed-2-clause-bytes : goal.returns-then-not-allowed-2-clause-bytes
returns-then-not-allowed-2-clause-bytes c =
    second_refused c.args.count c.args.address _ c.args.self.now c.args.write (omega (arith, c.ranges.address.fits)) (omega (arith, c.if-count-front.false))
    (sym c.allowed.ensures ∙ c.if-not-allowed.false) refl (sym c.allowed-2.ensures ∙ c.if-not-allowed-2.true)

pub returns-clause-bytes : goal.returns-clause-bytes
returns-clause-bytes c =
    both_within c.args.count c.args.address _ c.args.self.now c.args.write (omega (arith, c.ranges.address.fits)) (omega (arith, c.requires)) (omega (arith, c.if-count-front.false))
    (sym c.allowed.ensures ∙ c.if-not-allowed.false) refl (sym c.allowed-2.ensures ∙ c.if-not-allowed-2.false)
