use Rattle.std.proofs.Common.{◌≡◌}
use Rattle.image_file.specs.Reading.{row_in, table_in}
use Rattle.image_file.proofs.tables.rows_of.Given as goal

abbrev pub invariant-loop-place : goal.invariant-loop-place
invariant-loop-place l = l.rows.items ≡ table_in 16 row_in l.place l.bytes
