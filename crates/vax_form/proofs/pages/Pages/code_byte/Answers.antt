use Rattle.std.proofs.Common.{◌≡◌, ◌+◌, ◌-◌, ◌*◌, Some, sym, ap, ◌∙◌, arith, length, subst, get_or}
use Rattle.std.proofs.lemmas.List.{get_or_default}
use Rattle.std.specs.Prelude.{is_some, option_map, slice_index}
use Rattle.vax_form.specs.PageTable.{PageTable, IsPageTable}
use Rattle.vax_form.specs.Pages.{has_code}
use Rattle.vax_form.specs.declared.pages.PageRange.{PageRange}
use Rattle.vax_form.proofs.PageTable.{found_is_some, found_in_code}
use Rattle.vax_form.proofs.pages.Pages.code_byte.Goals as goal

pub returns-in_err-range-clause-variant : goal.returns-in_err-range-clause-variant
returns-in_err-range-clause-variant c =
    ap is_some (c.from_residual.ensures ∙ ap (option_map (λ (r : PageRange). slice_index c.args.self.now.code (r.place + (c.args.address - 512 * r.first)))) c.in_err-range.ensures)
    ∙ found_is_some _ (has_code c.args.address) c.args.self.now.ranges

pub overflow_mul-place : goal.overflow_mul-place
overflow_mul-place c =
    let place = found_in_code c.args.self.now c.args.address c.in_ok-range.range (subst IsPageTable c.self.view_is c.self.invariant) (sym c.in_ok-range.ensures) in
    omega (arith, place.above, c.ranges.address.fits)

pub overflow_sub-place : goal.overflow_sub-place
overflow_sub-place c = (found_in_code c.args.self.now c.args.address c.in_ok-range.range (subst IsPageTable c.self.view_is c.self.invariant) (sym c.in_ok-range.ensures)).above

pub overflow_add-place : goal.overflow_add-place
overflow_add-place c =
    let place = found_in_code c.args.self.now c.args.address c.in_ok-range.range (subst IsPageTable c.self.view_is c.self.invariant) (sym c.in_ok-range.ensures) in
    omega (arith, place.within, place.bound)

pub index-requires : goal.index-requires
index-requires c =
    let place = found_in_code c.args.self.now c.args.address c.in_ok-range.range (subst IsPageTable c.self.view_is c.self.invariant) (sym c.in_ok-range.ensures) in
    let same : length c.self.inside.code.items ≡ length c.args.self.now.code = ap (λ (t : PageTable). length t.code) c.self.view_is in
    omega (arith, place.within, same)

pub returns-clause-byte : goal.returns-clause-byte
returns-clause-byte c =
    let place = found_in_code c.args.self.now c.args.address c.in_ok-range.range (subst IsPageTable c.self.view_is c.self.invariant) (sym c.in_ok-range.ensures) in
    let same : c.self.inside.code.items ≡ c.args.self.now.code = ap (λ (t : PageTable). t.code) c.self.view_is in
    let at = c.in_ok-range.range.place + (c.args.address - 512 * c.in_ok-range.range.first) in
    let here : c.index.result.now ≡ get_or c.args.self.now.code at c.index.result.now = c.index.ensures ∙ ap (λ xs. get_or xs at c.index.result.now) same in
    ap Some (here ∙ get_or_default c.args.self.now.code at c.index.result.now 0 place.within)
    ∙ ap (option_map (λ (r : PageRange). slice_index c.args.self.now.code (r.place + (c.args.address - 512 * r.first)))) c.in_ok-range.ensures

pub returns-clause-variant : goal.returns-clause-variant
returns-clause-variant c =
    ap is_some (ap (option_map (λ (r : PageRange). slice_index c.args.self.now.code (r.place + (c.args.address - 512 * r.first)))) c.in_ok-range.ensures)
    ∙ found_is_some _ (has_code c.args.address) c.args.self.now.ranges
