use Rattle.std.proofs.Common.{◌≡◌, ◌∙◌, ℕ, sym, ap, subst, List, Option, Some, IfSome, is_some}
use Rattle.vax_form.specs.declared.pages.PageRange.{PageRange}
use Rattle.memory_core.specs.Held.{Holding}
use Rattle.memory_core.specs.Places.{page_place}
use Rattle.memory_core.proofs.Indexing.{placed_exactly, place_own}
use Rattle.memory_core.proofs.held.Held.page_place.Goals as goal

pub returns-clause-pages : goal.returns-clause-pages
returns-clause-pages c =
    let ranges = c.args.self.now.contents.set_up.image.pages.ranges in
    let same = c.self.invariant.index ∙ ap (λ (v : Holding). v.contents.set_up.image.pages.ranges) c.self.view_is in
    let place : c.page_place.result ≡ page_place ranges c.args.page = c.page_place.ensures.value ∙ ap (λ (rs : List PageRange). page_place rs c.args.page) same in
    ap is_some place ∙ placed_exactly ranges c.args.page

pub returns-clause-own : goal.returns-clause-own
returns-clause-own c =
    let ranges = c.args.self.now.contents.set_up.image.pages.ranges in
    let same = c.self.invariant.index ∙ ap (λ (v : Holding). v.contents.set_up.image.pages.ranges) c.self.view_is in
    let place : c.page_place.result ≡ page_place ranges c.args.page = c.page_place.ensures.value ∙ ap (λ (rs : List PageRange). page_place rs c.args.page) same in
    subst (λ (o : Option ℕ). IfSome o (λ p. (other : ℕ) → page_place ranges other ≡ Some p → other ≡ c.args.page)) (sym place) (place_own ranges c.args.page)
