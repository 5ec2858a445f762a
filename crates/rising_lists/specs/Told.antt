-- Of how many numbers something is told at one look.
use Rattle.std.specs.Prelude.{◌+◌, ℕ, Option, Some, None, min}

-- of those up to the last, but of as many as a translation has words at most
abbrev pub numbers_told : (last : Option ℕ) → ℕ
numbers_told None = 0
numbers_told (Some number) = min 8388608 (number + 1)
