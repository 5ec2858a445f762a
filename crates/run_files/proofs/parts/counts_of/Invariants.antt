use Rattle.std.proofs.Common.{◌≡◌}
use Rattle.image_file.specs.Reading.{table_in}
use Rattle.run_files.specs.Reading.{quad}
use Rattle.run_files.proofs.parts.counts_of.Given as goal

abbrev pub invariant-loop-thread : goal.invariant-loop-thread
invariant-loop-thread l = l.counts.items ≡ table_in 9 quad l.thread l.ends
