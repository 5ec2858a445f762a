use Rattle.std.proofs.Common.{◌≡◌, ◌≤◌, ◌+◌, ◌*◌, ◌++◌, length, take, vec_capacity}
use Rattle.std.specs.List.{flat_map}
use Rattle.system_model.specs.Counted.{order}
use Rattle.run_files.specs.Spelling.{pick_bytes}
use Rattle.run_files.proofs.writing.put_picks.Given as goal

abbrev pub invariant-loop-entry : goal.invariant-loop-entry
invariant-loop-entry l = record {
  items : l.into.items ≡ l.fn.into.items ++ flat_map pick_bytes (order (take l.entry-index l.history));
  long : length l.into.items ≤ length l.fn.into.items + 9 * l.entry-index;
  room : vec_capacity l.into ≡ vec_capacity l.fn.into;
}
