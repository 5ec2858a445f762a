use Rattle.std.proofs.Common.{◌≡◌}
use Rattle.std.specs.Prelude.{map}
use Rattle.image_file.specs.Reading.{table_in}
use Rattle.run_files.specs.Reading.{flag_in, is_set}
use Rattle.run_files.proofs.parts.spent_of.Given as goal

abbrev pub invariant-loop-thread : goal.invariant-loop-thread
invariant-loop-thread l = l.spent.items ≡ map is_set (table_in 9 flag_in l.thread l.ends)
