use Rattle.std.proofs.Common.{◌≡◌, ◌+◌, ◌*◌, ◌++◌, length, take, vec_capacity}
use Rattle.std.specs.List.{flat_map}
use Rattle.run_files.specs.Spelling.{end_bytes}
use Rattle.run_files.proofs.writing.put_ends.Given as goal

abbrev pub invariant-loop-end : goal.invariant-loop-end
invariant-loop-end l = record {
  items : l.into.items ≡ l.fn.into.items ++ flat_map end_bytes (take l.end-index l.ends);
  long : length l.into.items ≡ length l.fn.into.items + 9 * l.end-index;
  room : vec_capacity l.into ≡ vec_capacity l.fn.into;
}
