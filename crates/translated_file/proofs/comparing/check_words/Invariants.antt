use Rattle.std.proofs.Common.{◌≡◌}
use Rattle.translated_file.proofs.Differences.{from_word}
use Rattle.translated_file.proofs.comparing.check_words.Given as goal

abbrev pub invariant-loop-number : goal.invariant-loop-number
invariant-loop-number l = from_word l.place l.number l.wanted l.tail ≡ from_word l.place 0 l.wanted l.tail
