use Rattle.std.proofs.Common.{ℕ, Option, ◌≡◌, ◌∙◌, sym, ap, Some, None, false}
use Rattle.std.specs.Prelude.{find, option_map, is_some}
use Rattle.vax_form.specs.PageTable.{PageTable}
use Rattle.vax_form.specs.Pages.{is_allowed}
use Rattle.vax_form.proofs.PageTable.{found_is_some}
use Rattle.image_file.specs.Memory.{has_address, byte_at, byte_of_image}
use Rattle.image_file.specs.Values.{ImageValue}
use Rattle.image_file.specs.Whole.{IsWhole}
use Rattle.image_file.proofs.ListLaws.{found_here, found_later, found_nowhere}
use Rattle.image_file.proofs.PageLaws.{pages_have}
use Rattle.image_file.proofs.image.Image.byte.Goals as goal

in_pages : (image : ImageValue) (address : ℕ) (r : Option ℕ) → r ≡ byte_of_image image address → IsWhole image → is_some r ≡ is_allowed image.pages address false
in_pages image address r is whole =
    ap is_some is ∙ found_is_some (byte_at address) (has_address address) image.sections
    ∙ sym (pages_have image.sections address) ∙ ap (λ (pages : PageTable). is_allowed pages address false) (sym whole.laid_out.pages)

pub returns-then-has-clause-value : goal.returns-then-has-clause-value
returns-then-has-clause-value c =
    let sections : c.deref-section-items.result.now ≡ c.args.self.now.sections = c.deref-section-items.ensures.value ∙ ap (λ (i : ImageValue). i.sections) c.self.view_is in
    let here = found_here (has_address c.args.address) c.deref-section-items.result.now c.loop-section.section-index c.section-item.result c.loop-section-test.true c.section-item.is c.loop-section.invariant (sym c.has.ensures ∙ c.if-has.true) in
    ap Some c.byte.ensures ∙ ap (option_map (byte_at c.args.address)) (sym here ∙ ap (find (has_address c.args.address)) sections)

pub returns-then-has-clause-in_pages : goal.returns-then-has-clause-in_pages
returns-then-has-clause-in_pages c = λ whole. in_pages c.args.self.now c.args.address (Some c.byte.result) (returns-then-has-clause-value c) whole

pub loop-section-preserved : goal.loop-section-preserved
loop-section-preserved c =
    found_later (has_address c.args.address) c.deref-section-items.result.now c.loop-section.section-index c.section-item.result c.loop-section-test.true c.section-item.is c.loop-section.invariant (sym c.has.ensures ∙ c.if-has.false)

pub returns-clause-value : goal.returns-clause-value
returns-clause-value c =
    let sections : c.deref-section-items.result.now ≡ c.args.self.now.sections = c.deref-section-items.ensures.value ∙ ap (λ (i : ImageValue). i.sections) c.self.view_is in
    let none = found_nowhere (has_address c.args.address) c.deref-section-items.result.now c.loop-section.section-index c.loop-section-test.false c.loop-section.invariant in
    ap (option_map (byte_at c.args.address)) (sym none ∙ ap (find (has_address c.args.address)) sections)

pub returns-clause-in_pages : goal.returns-clause-in_pages
returns-clause-in_pages c = λ whole. in_pages c.args.self.now c.args.address None (returns-clause-value c) whole
