use Rattle.std.proofs.Common.{◌≡◌, ◌∙◌, ap, arith}
use Rattle.image_file.specs.Values.{ImageValue}
use Rattle.legal_history.proofs.Images.{image_bytes}
use Rattle.legal_history.proofs.laws.image_has_bytes.Goals as goal

pub returns : goal.returns
returns c =
    let sections : c.deref-section-items.result.now ≡ c.args.image.now.sections = c.deref-section-items.ensures.value ∙ ap (λ (i : ImageValue). i.sections) c.image.view_is in
    image_bytes c.args.image.now c.deref-section-items.result.now c.loop-section.section-index sections (omega arith) c.loop-section.invariant
