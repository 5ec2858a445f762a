use Rattle.run_files.specs.Reading.{pick_in, is_of_no_thread}
use Rattle.run_files.proofs.Tables.{NonePass}
use Rattle.run_files.proofs.parts.check_picks.Given as goal

abbrev pub invariant-loop-place : goal.invariant-loop-place
invariant-loop-place l = NonePass (is_of_no_thread l.threads) 9 pick_in l.place l.picks
