use Rattle.std.proofs.Common.{◌≡◌, ◌+◌, drop, map}
use Rattle.image_file.specs.Rows.{stored_bytes}
use Rattle.image_file.specs.Spelling.{row_of}
use Rattle.image_file.proofs.lengths.stored_bytes.Given as goal

abbrev pub invariant-loop-section : goal.invariant-loop-section
invariant-loop-section l = l.bytes + stored_bytes (map row_of (drop l.section-index l.sections)) ≡ stored_bytes (map row_of l.sections)
