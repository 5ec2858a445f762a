use Rattle.std.proofs.Common.{◌≡◌, ◌≤◌, ◌+◌, ◌*◌, ◌^◌, drop, map}
use Rattle.image_file.specs.Rows.{total_bytes}
use Rattle.image_file.specs.Spelling.{row_of}
use Rattle.image_parts.specs.Parts.{sized}
use Rattle.image_parts.proofs.parts.total_bytes.Given as goal

abbrev pub invariant-loop-section : goal.invariant-loop-section
invariant-loop-section l = (l.total + total_bytes (map row_of (map sized (drop l.section-index l.sections))) ≡ total_bytes (map row_of (map sized l.sections))) × (l.total ≤ l.section-index * 2 ^ 41)
