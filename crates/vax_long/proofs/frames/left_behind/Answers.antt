-- Each register is passed, or found.
use Rattle.std.proofs.Common.{◌≡◌, suc, true, false, refl, sym, ◌∙◌, arith}
use Rattle.vax_long.specs.Registers.{is_in_mask}
use Rattle.vax_long.proofs.SavedValues.{first_saved, next_saved, not_saved}
use Rattle.vax_long.proofs.frames.left_behind.Goals as goal

pub returns-then-not-is_in_mask-clause-behind : goal.returns-then-not-is_in_mask-clause-behind
returns-then-not-is_in_mask-clause-behind c = λ state.
    let bit : is_in_mask c.args.number c.args.mask ≡ false = sym c.is_in_mask.ensures ∙ c.if-not-is_in_mask.true in
    not_saved (suc c.args.number) c.args.number c.args.mask c.args.left state refl bit

pub returns-then-left-eq0-clause-here : goal.returns-then-left-eq0-clause-here
returns-then-left-eq0-clause-here c = λ state.
    let bit : is_in_mask c.args.number c.args.mask ≡ true = sym c.is_in_mask.ensures ∙ c.if-not-is_in_mask.false in
    first_saved (suc c.args.number) c.args.number c.args.mask c.args.left state refl bit c.if-left-eq0.true

pub returns-clause-behind : goal.returns-clause-behind
returns-clause-behind c = λ state.
    let bit : is_in_mask c.args.number c.args.mask ≡ true = sym c.is_in_mask.ensures ∙ c.if-not-is_in_mask.false in
    next_saved (suc c.args.number) c.args.number c.args.mask c.args.left state refl bit (omega (arith, c.if-left-eq0.false))
