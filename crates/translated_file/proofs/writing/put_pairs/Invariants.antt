use Rattle.std.proofs.Common.{◌≡◌, ◌++◌, take}
use Rattle.std.specs.List.{flat_map, AllByRecursion}
use Rattle.translated_file.specs.Spelling.{word_bytes, pair_words}
use Rattle.translated_file.specs.Whole.{IsLong}
use Rattle.translated_file.proofs.writing.put_pairs.Given as goal

abbrev pub invariant-loop-pair : goal.invariant-loop-pair
invariant-loop-pair l = record {
  bytes : l.out.items ≡ l.fn.out.items ++ word_bytes (flat_map pair_words (take l.pair-index l.pairs));
  fit : AllByRecursion IsLong (flat_map pair_words (take l.pair-index l.pairs));
}
