use Rattle.std.proofs.Common.{◌≡◌, ◌-◌, drop, length, min}
use Rattle.micro_ops.specs.LeftOut.{Tells, is_used}
use Rattle.micro_ops.specs.WordCounts.{program_words}
use Rattle.micro_ops.proofs.words.program_words.Given as goal

abbrev pub invariant-loop-i : goal.invariant-loop-i
invariant-loop-i l =
    Tells l.used (is_used l.codes (drop (length l.program - l.i) l.program))
    × (l.words ≡ min (program_words l.codes (drop (length l.program - l.i) l.program)) 4294967295)
