use Rattle.std.proofs.Common.{◌≡◌, ◌≤◌, ◌+◌, ◌-◌, ◌*◌, Some, sym, ap, ◌∙◌, arith, length, subst}
use Rattle.std.specs.Prelude.{option_map, take, drop}
use Rattle.vax_form.specs.PageTable.{PageTable, IsPageTable}
use Rattle.vax_form.specs.declared.pages.PageRange.{PageRange}
use Rattle.vax_form.proofs.PageTable.{found_in_code, run_is_code}
use Rattle.vax_form.proofs.pages.Pages.code_from.Goals as goal

pub overflow_mul-start : goal.overflow_mul-start
overflow_mul-start c =
    let place = found_in_code c.args.self.now c.args.address c.in_ok-range.range (subst IsPageTable c.self.view_is c.self.invariant) (sym c.in_ok-range.ensures) in
    omega (arith, place.above, c.ranges.address.fits)

pub overflow_sub-start : goal.overflow_sub-start
overflow_sub-start c =
    (found_in_code c.args.self.now c.args.address c.in_ok-range.range (subst IsPageTable c.self.view_is c.self.invariant) (sym c.in_ok-range.ensures)).above

pub overflow_add-start : goal.overflow_add-start
overflow_add-start c =
    let place = found_in_code c.args.self.now c.args.address c.in_ok-range.range (subst IsPageTable c.self.view_is c.self.invariant) (sym c.in_ok-range.ensures) in
    omega (arith, place.within, place.bound)

pub overflow_mul-end : goal.overflow_mul-end
overflow_mul-end c =
    let place = found_in_code c.args.self.now c.args.address c.in_ok-range.range (subst IsPageTable c.self.view_is c.self.invariant) (sym c.in_ok-range.ensures) in
    omega (arith, place.whole, place.bound)

pub overflow_add-end : goal.overflow_add-end
overflow_add-end c =
    let place = found_in_code c.args.self.now c.args.address c.in_ok-range.range (subst IsPageTable c.self.view_is c.self.invariant) (sym c.in_ok-range.ensures) in
    omega (arith, place.whole, place.bound)

pub slice_bounds-result-count : goal.slice_bounds-result-count
slice_bounds-result-count c =
    let place = found_in_code c.args.self.now c.args.address c.in_ok-range.range (subst IsPageTable c.self.view_is c.self.invariant) (sym c.in_ok-range.ensures) in
    omega (arith, place.above, place.below)

pub slice_bounds-result-start : goal.slice_bounds-result-start
slice_bounds-result-start c =
    let place = found_in_code c.args.self.now c.args.address c.in_ok-range.range (subst IsPageTable c.self.view_is c.self.invariant) (sym c.in_ok-range.ensures) in
    omega (arith, place.above, place.below)

pub slice_bounds-result-end : goal.slice_bounds-result-end
slice_bounds-result-end c =
    let place = found_in_code c.args.self.now c.args.address c.in_ok-range.range (subst IsPageTable c.self.view_is c.self.invariant) (sym c.in_ok-range.ensures) in
    let same : c.deref.result.now ≡ c.args.self.now.code = c.deref.ensures.value ∙ ap (λ (t : PageTable). t.code) c.self.view_is in
    let fits : c.in_ok-range.range.place + 512 * c.in_ok-range.range.count ≤ length c.deref.result.now = rw same place.whole in
    fits

pub returns-clause-bytes : goal.returns-clause-bytes
returns-clause-bytes c =
    let place = found_in_code c.args.self.now c.args.address c.in_ok-range.range (subst IsPageTable c.self.view_is c.self.invariant) (sym c.in_ok-range.ensures) in
    let same : c.deref.result.now ≡ c.args.self.now.code = c.deref.ensures.value ∙ ap (λ (t : PageTable). t.code) c.self.view_is in
    let count : c.in_ok-range.range.place + 512 * c.in_ok-range.range.count - (c.in_ok-range.range.place + (c.args.address - 512 * c.in_ok-range.range.first)) ≡ 512 * (c.in_ok-range.range.first + c.in_ok-range.range.count) - c.args.address = omega (arith, place.above, place.below) in
    ap (λ bytes. Some (take (c.in_ok-range.range.place + 512 * c.in_ok-range.range.count - (c.in_ok-range.range.place + (c.args.address - 512 * c.in_ok-range.range.first))) (drop (c.in_ok-range.range.place + (c.args.address - 512 * c.in_ok-range.range.first)) bytes))) same
    ∙ ap (λ n. Some (take n (drop (c.in_ok-range.range.place + (c.args.address - 512 * c.in_ok-range.range.first)) c.args.self.now.code))) count
    ∙ ap (option_map (λ (r : PageRange). take (512 * (r.first + r.count) - c.args.address) (drop (r.place + (c.args.address - 512 * r.first)) c.args.self.now.code))) c.in_ok-range.ensures

pub returns-clause-stand : goal.returns-clause-stand
returns-clause-stand c =
    let place = found_in_code c.args.self.now c.args.address c.in_ok-range.range (subst IsPageTable c.self.view_is c.self.invariant) (sym c.in_ok-range.ensures) in
    let same : c.deref.result.now ≡ c.args.self.now.code = c.deref.ensures.value ∙ ap (λ (t : PageTable). t.code) c.self.view_is in
    rw same (run_is_code c.args.self.now c.args.address (c.in_ok-range.range.place + 512 * c.in_ok-range.range.count - (c.in_ok-range.range.place + (c.args.address - 512 * c.in_ok-range.range.first))) c.in_ok-range.range (subst IsPageTable c.self.view_is c.self.invariant) (sym c.in_ok-range.ensures) (omega (arith, place.above, place.below)))
