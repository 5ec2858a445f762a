-- The limit of the input, in figures.
use Rattle.std.specs.Prelude.{ℕ}

-- the most bytes of input
abbrev pub INPUT_LIMIT : ℕ
INPUT_LIMIT = 65536
