-- The numbers of the format, in figures, and what differs between its versions.
use Rattle.std.specs.Prelude.{ℕ, ◌==◌, ◌||◌, Bool, if◌then◌else◌}

-- the bytes VXIM, the lowest first
abbrev pub MAGIC : ℕ
MAGIC = 0x4d495856

-- the bytes of the header
abbrev pub HEADER : ℕ
HEADER = 12

-- how many registers of a thread a file of version 2 has, R0 to R13, and where they stand in the thread's bytes
abbrev pub FIRST_REGISTERS : ℕ
FIRST_REGISTERS = 14

abbrev pub FIRST_AT : ℕ
FIRST_AT = 8

-- the bytes of a register, of a row of the section table, and of an entry
abbrev pub REGISTER_BYTES : ℕ
REGISTER_BYTES = 4

abbrev pub ROW_BYTES : ℕ
ROW_BYTES = 16

abbrev pub ENTRY_BYTES : ℕ
ENTRY_BYTES = 4

-- the most sections of an image, and the most entries
abbrev pub MOST_SECTIONS : ℕ
MOST_SECTIONS = 64

abbrev pub MOST_ENTRIES : ℕ
MOST_ENTRIES = 4096

-- sections end at this address or below it
abbrev pub ADDRESS_END : ℕ
ADDRESS_END = 0x80000000

abbrev pub is_version : ℕ → Bool
is_version number = (number == 1) || (number == 2)

-- the most threads of an image
abbrev pub most_threads : ℕ → ℕ
most_threads version = if version == 1 then 16 else 32

-- the most bytes of all its sections, each with the rest of its last page
abbrev pub most_bytes : ℕ → ℕ
most_bytes version = if version == 1 then 1048576 else 4194304

-- the bytes of a thread: u32 PC, u32 SP, and in version 2 a u32 for each of R0 to R13
abbrev pub start_width : ℕ → ℕ
start_width version = if version == 1 then 8 else 64
