use Rattle.std.proofs.Common.{◌≡◌, ◌-◌, get_or, drop}
use Rattle.translated_file.specs.Reading.{fall_behind, first_fall}
use Rattle.translated_file.proofs.reading.first_fall.Given as goal

abbrev pub invariant-loop-place : goal.invariant-loop-place
invariant-loop-place l = first_fall l.numbers ≡ fall_behind (get_or l.numbers (l.place - 1) 0) l.place (drop l.place l.numbers)
