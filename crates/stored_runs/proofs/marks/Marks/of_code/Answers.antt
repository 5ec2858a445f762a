use Rattle.std.proofs.Common.{◌≡◌, ◌≤◌, ◌<◌, false, length, take, get_or, sym, ap, ◌∙◌, subst, arith}
use Rattle.vax_form.specs.PageTable.{IsPageTable, PageTable}
use Rattle.vax_form.specs.declared.pages.PageRange.{PageRange}
use Rattle.stored_runs.proofs.Marking.{AreOf, all_of, ends_low, one_more}
use Rattle.stored_runs.proofs.marks.Marks.of_code.Goals as goal

pub unmarked-requires : goal.unmarked-requires
unmarked-requires c =
    let table : IsPageTable c.args.pages.now = subst IsPageTable c.pages.view_is c.pages.invariant in
    let list : c.deref-range-items.result.now ≡ c.args.pages.now.ranges = c.deref-range-items.ensures.value ∙ ap (λ (p : PageTable). p.ranges) c.pages.view_is in
    let below : c.loop-range.range-index < length c.args.pages.now.ranges = subst (λ l. c.loop-range.range-index < length l) list c.loop-range-test.true in
    let low = ends_low c.args.pages.now.ranges 0 c.loop-range.range-index (record { first = 0; count = 0; writable = false; place = 0 }) table.rising below in
    let first : (get_or {A = PageRange} c.args.pages.now.ranges c.loop-range.range-index (record { first = 0; count = 0; writable = false; place = 0 })).first ≤ 4194304 = omega (arith, low) in
    subst (λ l. (get_or {A = PageRange} l c.loop-range.range-index (record { first = 0; count = 0; writable = false; place = 0 })).first ≤ 4194304) (sym list) first

pub loop-range-preserved : goal.loop-range-preserved
loop-range-preserved c =
    one_more c.deref-range-items.result.now c.loop-range.range-index (record { first = 0; count = 0; writable = false; place = 0 }) c.loop-range.ranges.items c.push.new.self.items c.in_ok-unmarked.field-0
    c.loop-range-test.true c.loop-range.invariant c.in_ok-unmarked.ensures c.in_ok-push.ensures.items

pub returns : goal.returns
returns c =
    let list : c.deref-range-items.result.now ≡ c.args.pages.now.ranges = c.deref-range-items.ensures.value ∙ ap (λ (p : PageTable). p.ranges) c.pages.view_is in
    all_of c.args.pages.now.ranges c.loop-range.range-index c.loop-range.ranges.items (subst (λ l. length l ≤ c.loop-range.range-index) list (omega arith))
    (subst (λ l. AreOf (take c.loop-range.range-index l) c.loop-range.ranges.items) list c.loop-range.invariant)
