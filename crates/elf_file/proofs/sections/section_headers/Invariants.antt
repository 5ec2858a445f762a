use Rattle.std.proofs.Common.{◌≡◌, drop, length}
use Rattle.image_file.specs.Reading.{table_in}
use Rattle.elf_file.specs.Symbols.{section_header_in}
use Rattle.elf_file.proofs.sections.section_headers.Given as goal

abbrev pub invariant-loop-place : goal.invariant-loop-place
invariant-loop-place l = (length l.sections.items ≡ l.place) × (l.sections.items ≡ table_in 40 section_header_in l.place (drop l.header.sections_at l.bytes))
