use Rattle.std.proofs.Common.{◌≡◌, ◌++◌, drop, map, option_map}
use Rattle.command_words.specs.Numbers.{ranges_in}
use Rattle.command_words.proofs.numbers.ranges_in.Given as goal

-- the ranges so far, and what the texts still to read give
abbrev pub invariant-loop-text : goal.invariant-loop-text
invariant-loop-text l =
    ranges_in (map (λ s. s.now) l.texts) ≡ option_map (λ rest. l.ranges.items ++ rest) (ranges_in (map (λ s. s.now) (drop l.text-index l.texts)))
