use Rattle.std.proofs.Common.{◌≡◌, ◌+◌, ◌*◌, ◌++◌, length, take, vec_capacity}
use Rattle.std.specs.List.{flat_map}
use Rattle.std.specs.Int.{w32, to_le_bytes}
use Rattle.run_files.proofs.writing.put_words.Given as goal

abbrev pub invariant-loop-word : goal.invariant-loop-word
invariant-loop-word l = record {
  items : l.into.items ≡ l.fn.into.items ++ flat_map (to_le_bytes w32) (take l.word-index l.words);
  long : length l.into.items ≡ length l.fn.into.items + 4 * l.word-index;
  room : vec_capacity l.into ≡ vec_capacity l.fn.into;
}
