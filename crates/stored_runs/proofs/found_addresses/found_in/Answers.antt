use Rattle.std.proofs.Common.{◌≡◌, ◌≤◌, ◌<◌, ◌+◌, ◌*◌, ◌/◌, false, length, take, get_or, sym, ap, ◌∙◌, subst}
use Rattle.std.specs.List.{list_any}
use Rattle.vax_form.specs.PageTable.{IsPageTable, PageTable, has_page}
use Rattle.vax_form.specs.declared.pages.PageRange.{PageRange}
use Rattle.stored_runs.specs.Found.{AreFirst, is_found}
use Rattle.stored_runs.specs.Marks.{mark_of}
use Rattle.stored_runs.proofs.First.{all_before, range_more}
use Rattle.stored_runs.proofs.Marking.{ends_low}
use Rattle.stored_runs.proofs.found_addresses.found_in.Goals as goal

pub push_found-requires-clause-low : goal.push_found-requires-clause-low
push_found-requires-clause-low c =
    let table : IsPageTable c.args.pages.now = subst IsPageTable c.pages.view_is c.pages.invariant in
    let list : c.deref-range-items.result.now ≡ c.args.pages.now.ranges = c.deref-range-items.ensures.value ∙ ap (λ (p : PageTable). p.ranges) c.pages.view_is in
    let below : c.loop-range.range-index < length c.args.pages.now.ranges = subst (λ l. c.loop-range.range-index < length l) list c.loop-range-test.true in
    let d : PageRange = record { first = 0; count = 0; writable = false; place = 0 } in
    subst (λ l. (get_or {A = PageRange} l c.loop-range.range-index d).first + (get_or {A = PageRange} l c.loop-range.range-index d).count ≤ 4194304) (sym list)
    (ends_low c.args.pages.now.ranges 0 c.loop-range.range-index d table.rising below)

pub push_found-requires-clause-behind : goal.push_found-requires-clause-behind
push_found-requires-clause-behind c = λ n is.
    let table : IsPageTable c.args.pages.now = subst IsPageTable c.pages.view_is c.pages.invariant in
    let list : c.deref-range-items.result.now ≡ c.args.pages.now.ranges = c.deref-range-items.ensures.value ∙ ap (λ (p : PageTable). p.ranges) c.pages.view_is in
    let below : c.loop-range.range-index < length c.args.pages.now.ranges = subst (λ l. c.loop-range.range-index < length l) list c.loop-range-test.true in
    let d : PageRange = record { first = 0; count = 0; writable = false; place = 0 } in
    let keep = is_found c.args.pages.now c.args.map.now (mark_of c.args.marks.now) in
    subst (λ l. n < 512 * (get_or {A = PageRange} l c.loop-range.range-index d).first) (sym list)
    (all_before keep c.args.pages.now.ranges c.loop-range.range-index d c.loop-range.addresses.items table.rising below
    (subst (λ l. AreFirst keep (λ n. list_any (has_page (n / 512)) (take c.loop-range.range-index l)) c.loop-range.addresses.items) list c.loop-range.invariant) n is)

pub loop-range-preserved : goal.loop-range-preserved
loop-range-preserved c =
    let d : PageRange = record { first = 0; count = 0; writable = false; place = 0 } in
    let keep = is_found c.args.pages.now c.args.map.now (mark_of c.args.marks.now) in
    range_more keep c.deref-range-items.result.now c.loop-range.range-index d c.push_found.new.addresses.items c.loop-range-test.true
    (c.in_ok-push_found.ensures (λ n. list_any (has_page (n / 512)) (take c.loop-range.range-index c.deref-range-items.result.now)) c.loop-range.invariant)
