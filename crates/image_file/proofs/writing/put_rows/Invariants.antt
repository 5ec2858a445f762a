use Rattle.std.proofs.Common.{◌≡◌, ◌++◌, take, map}
use Rattle.std.specs.List.{flat_map}
use Rattle.image_file.specs.Spelling.{row_of, row_bytes}
use Rattle.image_file.proofs.writing.put_rows.Given as goal

abbrev pub invariant-loop-section : goal.invariant-loop-section
invariant-loop-section l = l.out.items ≡ l.fn.out.items ++ flat_map row_bytes (map row_of (take l.section-index l.sections))
