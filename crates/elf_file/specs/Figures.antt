-- The numbers of an ELF file, in figures, by the section of the System V ABI that has them.
use Rattle.std.specs.Prelude.{ℕ}

-- "ELF Header": its bytes, and the first four of them, 7F and ELF, the lowest first
abbrev pub HEADER : ℕ
HEADER = 52

abbrev pub MAGIC : ℕ
MAGIC = 0x464c457f

-- "ELF Header": files of 32 bits, little-endian data, version 1, the VAX, executable files
abbrev pub CLASS_32 : ℕ
CLASS_32 = 1

abbrev pub LITTLE_ENDIAN : ℕ
LITTLE_ENDIAN = 1

abbrev pub VERSION : ℕ
VERSION = 1

abbrev pub VAX : ℕ
VAX = 75

abbrev pub EXECUTABLE : ℕ
EXECUTABLE = 2

-- "Program Header": its bytes, the types PT_LOAD, PT_DYNAMIC and PT_INTERP, and the flags PF_X and PF_W
abbrev pub PROGRAM_HEADER : ℕ
PROGRAM_HEADER = 32

abbrev pub LOAD : ℕ
LOAD = 1

abbrev pub DYNAMIC : ℕ
DYNAMIC = 2

abbrev pub INTERPRETER : ℕ
INTERPRETER = 3

abbrev pub SEGMENT_EXECUTABLE : ℕ
SEGMENT_EXECUTABLE = 1

abbrev pub SEGMENT_WRITABLE : ℕ
SEGMENT_WRITABLE = 2

-- "Sections": a section header's bytes, the type SHT_SYMTAB, and the flags SHF_WRITE and SHF_ALLOC
abbrev pub SECTION_HEADER : ℕ
SECTION_HEADER = 40

abbrev pub SYMBOL_TABLE : ℕ
SYMBOL_TABLE = 2

abbrev pub SECTION_WRITABLE : ℕ
SECTION_WRITABLE = 1

abbrev pub SECTION_LOADED : ℕ
SECTION_LOADED = 2

-- "Symbol Table": a symbol's bytes, the type STT_FUNC, which is the low four bits of st_info, and the index SHN_UNDEF
abbrev pub SYMBOL : ℕ
SYMBOL = 16

abbrev pub SYMBOL_TYPES : ℕ
SYMBOL_TYPES = 16

abbrev pub FUNCTION : ℕ
FUNCTION = 2

abbrev pub UNDEFINED : ℕ
UNDEFINED = 0

-- a VAX program's segments end at this address or below it: above it is the system's half
abbrev pub ADDRESS_END : ℕ
ADDRESS_END = 0x80000000
