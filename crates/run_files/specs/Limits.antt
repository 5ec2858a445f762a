-- The numbers of the formats, in figures, and their limits.
use Rattle.std.specs.Prelude.{ℕ}

-- the bytes VXOR, the lowest first
abbrev pub MAGIC : ℕ
MAGIC = 0x524f5856

-- the bytes VXHT
abbrev pub HINT_MAGIC : ℕ
HINT_MAGIC = 0x54485856

-- of either format
abbrev pub VERSION : ℕ
VERSION = 1

-- the bytes of an order file's header, and of a hint file's
abbrev pub HEADER : ℕ
HEADER = 20

abbrev pub HINT_HEADER : ℕ
HINT_HEADER = 12

-- the bytes of an address
abbrev pub HINT_BYTES : ℕ
HINT_BYTES = 4

-- the bytes of a thread's count and flag, and of a pick
abbrev pub THREAD_BYTES : ℕ
THREAD_BYTES = 9

abbrev pub PICK_BYTES : ℕ
PICK_BYTES = 9

-- the most threads of a file, and bytes of input, and picks
abbrev pub MOST_THREADS : ℕ
MOST_THREADS = 255

abbrev pub MOST_INPUT : ℕ
MOST_INPUT = 65536

abbrev pub MOST_PICKS : ℕ
MOST_PICKS = 4194304

-- the most instructions that a thread's count can have
abbrev pub MOST_COUNT : ℕ
MOST_COUNT = 1000000000000
