use Rattle.run_files.specs.Reading.{is_bad_flag, flag_in}
use Rattle.run_files.proofs.Tables.{NonePass}
use Rattle.run_files.proofs.parts.check_flags.Given as goal

abbrev pub invariant-loop-thread : goal.invariant-loop-thread
invariant-loop-thread l = NonePass is_bad_flag 9 flag_in l.thread l.ends
