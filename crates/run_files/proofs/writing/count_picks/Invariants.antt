use Rattle.std.proofs.Common.{◌≡◌, ◌≤◌, length, take, filter}
use Rattle.system_model.specs.Counted.{is_counted}
use Rattle.run_files.proofs.writing.count_picks.Given as goal

abbrev pub invariant-loop-entry : goal.invariant-loop-entry
invariant-loop-entry l = record {
  so_far : l.picks ≡ length (filter is_counted (take l.entry-index l.history));
  few : l.picks ≤ l.entry-index;
}
