use Rattle.std.proofs.Common.{◌/◌, ap, subst}
use Rattle.std.specs.List.{list_any}
use Rattle.image_file.specs.Values.{ImageValue}
use Rattle.vax_form.specs.PageTable.{has_page}
use Rattle.stored_runs.specs.Found.{AreFirst, is_found}
use Rattle.stored_runs.specs.Marks.{mark_of}
use Rattle.stored_runs.proofs.First.{found_are}
use Rattle.stored_runs.proofs.found_addresses.found.Goals as goal

pub returns-in_ok-addresses-in-Ok-clause-found : goal.returns-in_ok-addresses-in-Ok-clause-found
returns-in_ok-addresses-in-Ok-clause-found c =
    found_are c.args.image.now c.args.order.now c.args.map.now (mark_of c.in-Ok.field-0.marks) c.in_ok-addresses-in-Ok.addresses.items c.in-Ok.ensures.marks
    (subst (λ pages. AreFirst (is_found pages c.args.map.now (mark_of c.in-Ok.field-0.marks)) (λ n. list_any (has_page (n / 512)) pages.ranges) c.in_ok-addresses-in-Ok.addresses.items)
    (ap (λ (i : ImageValue). i.pages) c.image.view_is) c.in_ok-addresses-in-Ok.ensures)
