use Rattle.std.proofs.Common.{◌≡◌, ◌++◌, drop}
use Rattle.std.specs.List.{enumerate_from, flat_map}
use Rattle.dis_text.specs.Listing.{range_text, text_at}
use Rattle.dis_text.specs.Made.{listed}
use Rattle.dis_text.proofs.sections.put_range.Given as goal

abbrev pub invariant-loop-number : goal.invariant-loop-number
invariant-loop-number l = l.out.items ++ flat_map (text_at (listed l.listing) l.instrs l.range) (enumerate_from l.number (drop l.number l.sections)) ≡ l.fn.out.items ++ range_text (listed l.listing) l.instrs l.sections l.range
