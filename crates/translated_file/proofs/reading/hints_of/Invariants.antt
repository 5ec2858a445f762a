use Rattle.std.proofs.Common.{◌≡◌}
use Rattle.image_file.specs.Reading.{word, table_in}
use Rattle.translated_file.proofs.reading.hints_of.Given as goal

abbrev pub invariant-loop-place : goal.invariant-loop-place
invariant-loop-place l = l.hints.items ≡ table_in 4 word l.place l.bytes
