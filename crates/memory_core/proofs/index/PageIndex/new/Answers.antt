use Rattle.std.proofs.Common.{◌≡◌, ◌≤◌, ◌∙◌, ℕ, List, ap, sym, subst, arith}
use Rattle.std.proofs.lemmas.List.{drop_all}
use Rattle.vax_form.specs.declared.pages.PageRange.{PageRange}
use Rattle.vax_form.specs.PageTable.{PageTable, AreRising}
use Rattle.memory_core.specs.Places.{page_count, IsIndexOf}
use Rattle.memory_core.proofs.Indexing.{IsBegun, none_begun, next_begun, index_done}
use Rattle.memory_core.proofs.Placing.{rising_few}
use Rattle.memory_core.proofs.index.PageIndex.new.Goals as goal

pub loop-range-init : goal.loop-range-init
loop-range-init c =
    let ranges = c.deref-range-items.result.now in
    let rising = subst (AreRising 0) (sym c.deref-range-items.ensures.value) c.pages.invariant.rising in
    subst (λ (words : List ℕ). IsBegun ranges ranges words 0) (sym c.new-words.ensures.items) (none_begun ranges rising)

pub loop-range-preserved : goal.loop-range-preserved
loop-range-preserved c =
    next_begun c.deref-range-items.result.now c.loop-range.range-index _ c.loop-range.words.items c.push_range.new.words.items c.loop-range.before c.loop-range.invariant c.loop-range-test.true
    c.in_ok-push_range.ensures.end c.in_ok-push_range.ensures.words

pub invariant_of-result : goal.invariant_of-result
invariant_of-result c =
    let ranges = c.deref-range-items.result.now in
    let words = c.loop-range.words.items in
    let same : ranges ≡ c.of.result.value.ranges = c.deref-range-items.ensures.value ∙ ap (λ (t : PageTable). t.ranges) (c.pages.view_is ∙ sym c.of.ensures) in
    let rising = subst (AreRising 0) (sym c.deref-range-items.ensures.value) c.pages.invariant.rising in
    let few : page_count ranges ≤ 4194304 = omega (arith, rising_few 0 ranges (omega arith) rising) in
    let all = drop_all c.loop-range.range-index ranges c.loop-range-test.false in
    subst (λ (rs : List PageRange). (page_count rs ≤ 4194304) × IsIndexOf words rs) same
    (few, index_done ranges words c.loop-range.before (subst (λ (left : List PageRange). IsBegun ranges left words c.loop-range.before) all c.loop-range.invariant))
