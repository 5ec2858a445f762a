use Rattle.std.proofs.Common.{◌≡◌, ap, sym, ◌∙◌}
use Rattle.std.specs.Prelude.{Ok}
use Rattle.image_file.specs.Reading.{image_of}
use Rattle.image_parts.specs.Parts.{parts_image, parts_value}
use Rattle.image_parts.proofs.Sizes.{none_too_long}
use Rattle.image_parts.proofs.ReadsBack.{reads_back}
use Rattle.image_parts.proofs.parts.from_parts.Goals as goal

pub spelled-requires-clause-fit : goal.spelled-requires-clause-fit
spelled-requires-clause-fit c = none_too_long c.args.parts.sections.now (sym c.in_default.is ∙ c.first_too_long.ensures.value)

pub returns-clause-reads_back : goal.returns-clause-reads_back
returns-clause-reads_back c =
    let image = parts_image (parts_value c.args.parts) in
    let found = c.in_ok-read_image.field-0 in
    let bytes = c.deref.ensures.value ∙ c.in_ok-bytes.ensures.bytes in
    let read = ap image_of (sym bytes) ∙ c.in_ok-read_image.ensures.exact in
    let same : found ≡ image = reads_back image found c.in_ok-bytes.ensures.fit read in
    ap image_of (sym c.deref.ensures.value) ∙ c.in_ok-read_image.ensures.exact ∙ ap (λ i. Ok i) same
