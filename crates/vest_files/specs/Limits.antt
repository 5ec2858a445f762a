-- The limit of a file, in figures.
use Rattle.std.specs.Prelude.{ℕ}

-- the most bytes of a file
abbrev pub FILE_LIMIT : ℕ
FILE_LIMIT = 50331648
