use Rattle.std.proofs.Common.{List, ◌++◌, ap, ◌∙◌}
use Rattle.std.specs.List.{flat_map}
use Rattle.vax_form.specs.PageTable.{PageTable}
use Rattle.vax_form.specs.declared.pages.PageRange.{PageRange}
use Rattle.dis_text.specs.Listing.{range_text}
use Rattle.dis_text.specs.Made.{listed}
use Rattle.dis_text.proofs.sections.put_pages.Goals as goal

pub returns : goal.returns
returns c =
    let ranges = c.deref.ensures.value ∙ ap (λ (p : PageTable). p.ranges) c.pages.view_is in
    c.in_ok-put_ranges.ensures ∙ ap (λ (rs : List PageRange). c.args.out.now.items ++ flat_map (range_text (listed c.args.listing.now) c.args.instrs.now c.args.sections.now) rs) ranges
