use Rattle.std.proofs.Common.{List, ◌++◌, ap, ap₂, ◌∙◌}
use Rattle.std.specs.List.{flat_map}
use Rattle.image_file.specs.Values.{ImageValue, SectionValue}
use Rattle.vax_form.specs.declared.pages.PageRange.{PageRange}
use Rattle.dis_text.specs.Listing.{range_text}
use Rattle.dis_text.specs.Made.{listed}
use Rattle.dis_text.proofs.sections.put_image.Goals as goal

pub returns : goal.returns
returns c =
    let sections = c.deref.ensures.value ∙ ap (λ (i : ImageValue). i.sections) c.image.view_is in
    let ranges = ap (λ (i : ImageValue). i.pages.ranges) c.image.view_is in
    c.in_ok-put_pages.ensures ∙ ap₂ (λ (ss : List SectionValue) (rs : List PageRange). c.args.out.now.items ++ flat_map (range_text (listed c.args.listing.now) c.args.instrs.now ss) rs) sections ranges
