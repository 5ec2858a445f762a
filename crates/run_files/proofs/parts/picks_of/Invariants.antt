use Rattle.std.proofs.Common.{◌≡◌}
use Rattle.image_file.specs.Reading.{table_in}
use Rattle.run_files.specs.Reading.{pick_in}
use Rattle.run_files.proofs.parts.picks_of.Given as goal

abbrev pub invariant-loop-place : goal.invariant-loop-place
invariant-loop-place l = l.picks.items ≡ table_in 9 pick_in l.place l.bytes
