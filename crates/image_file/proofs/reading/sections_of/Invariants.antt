use Rattle.std.proofs.Common.{◌≡◌, ◌++◌, drop, length}
use Rattle.image_file.specs.Rows.{stored_bytes}
use Rattle.image_file.specs.Reading.{sections_in}
use Rattle.image_file.proofs.reading.sections_of.Given as goal

abbrev pub invariant-loop-row : goal.invariant-loop-row
invariant-loop-row l =
    (length l.rest ≡ stored_bytes (drop l.row-index l.rows))
    × (l.sections.items ++ sections_in (drop l.row-index l.rows) l.rest ≡ sections_in l.rows l.stored)
