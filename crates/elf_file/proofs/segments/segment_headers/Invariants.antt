use Rattle.std.proofs.Common.{◌≡◌, drop, length}
use Rattle.image_file.specs.Reading.{table_in}
use Rattle.elf_file.specs.Program.{segment_header_in}
use Rattle.elf_file.proofs.segments.segment_headers.Given as goal

abbrev pub invariant-loop-place : goal.invariant-loop-place
invariant-loop-place l = (length l.headers.items ≡ l.place) × (l.headers.items ≡ table_in 32 segment_header_in l.place (drop l.header.programs_at l.bytes))
