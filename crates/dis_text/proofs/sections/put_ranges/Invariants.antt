use Rattle.std.proofs.Common.{◌≡◌, ◌++◌, take}
use Rattle.std.specs.List.{flat_map}
use Rattle.dis_text.specs.Listing.{range_text}
use Rattle.dis_text.specs.Made.{listed}
use Rattle.dis_text.proofs.sections.put_ranges.Given as goal

abbrev pub invariant-loop-range : goal.invariant-loop-range
invariant-loop-range l = l.out.items ≡ l.fn.out.items ++ flat_map (range_text (listed l.listing) l.instrs l.sections) (take l.range-index l.ranges)
