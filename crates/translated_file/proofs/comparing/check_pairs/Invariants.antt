use Rattle.std.proofs.Common.{◌≡◌}
use Rattle.std.specs.List.{flat_map}
use Rattle.translated_file.specs.Spelling.{pair_words}
use Rattle.translated_file.proofs.Differences.{from_place, from_pair}
use Rattle.translated_file.proofs.comparing.check_pairs.Given as goal

abbrev pub invariant-loop-number : goal.invariant-loop-number
invariant-loop-number l = from_pair l.place l.number l.pairs l.tail ≡ from_place l.place (flat_map pair_words l.pairs) l.tail
