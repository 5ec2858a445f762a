-- The numbers of the format, in figures, and its limits.
use Rattle.std.specs.Prelude.{ℕ, ◌==◌, ◌||◌, Bool}

-- the bytes VXTR, the lowest first
abbrev pub MAGIC : ℕ
MAGIC = 0x52545856

-- the version of a file with code for the first Alpha processors, and of one with code for those with the byte-word extension
abbrev pub VERSION_1 : ℕ
VERSION_1 = 1

abbrev pub VERSION_2 : ℕ
VERSION_2 = 2

-- the bytes of the header, and of a hint or a word of the tail
abbrev pub HEADER : ℕ
HEADER = 16

abbrev pub WORD_BYTES : ℕ
WORD_BYTES = 4

-- the most hints of a file, and the most Alpha words and pairs of a translation
abbrev pub MOST_HINTS : ℕ
MOST_HINTS = 32768

abbrev pub MOST_WORDS : ℕ
MOST_WORDS = 8388608

abbrev pub MOST_PAIRS : ℕ
MOST_PAIRS = 32768

abbrev pub is_version : ℕ → Bool
is_version number = number == VERSION_1 || number == VERSION_2
