use Rattle.run_files.specs.Reading.{is_large_count, quad}
use Rattle.run_files.proofs.Tables.{NonePass}
use Rattle.run_files.proofs.parts.check_counts.Given as goal

abbrev pub invariant-loop-thread : goal.invariant-loop-thread
invariant-loop-thread l = NonePass is_large_count 9 quad l.thread l.ends
