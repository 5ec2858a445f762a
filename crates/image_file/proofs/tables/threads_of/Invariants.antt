use Rattle.std.proofs.Common.{◌≡◌}
use Rattle.image_file.specs.Limits.{start_width}
use Rattle.image_file.specs.Reading.{start_in, table_in}
use Rattle.image_file.proofs.tables.threads_of.Given as goal

abbrev pub invariant-loop-place : goal.invariant-loop-place
invariant-loop-place l = l.threads.items ≡ table_in (start_width l.version) (start_in l.version) l.place l.bytes
