use Rattle.std.proofs.Common.{◌/◌, take}
use Rattle.std.specs.List.{list_any}
use Rattle.vax_form.specs.PageTable.{has_page}
use Rattle.stored_runs.specs.Found.{AreFirst, is_found}
use Rattle.stored_runs.specs.Marks.{mark_of}
use Rattle.stored_runs.proofs.found_addresses.found_in.Given as goal

abbrev pub invariant-loop-range : goal.invariant-loop-range
invariant-loop-range l = AreFirst (is_found l.pages l.map (mark_of l.marks)) (λ n. list_any (has_page (n / 512)) (take l.range-index l.range-items)) l.addresses.items
