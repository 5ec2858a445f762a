use Rattle.std.proofs.Common.{◌≡◌, ◌++◌, take, vec_capacity}
use Rattle.run_files.proofs.writing.put_bytes.Given as goal

abbrev pub invariant-loop-byte : goal.invariant-loop-byte
invariant-loop-byte l = record {
  items : l.into.items ≡ l.fn.into.items ++ take l.byte-index l.bytes;
  room : vec_capacity l.into ≡ vec_capacity l.fn.into;
}
