-- The program that an ELF file has ("Program Header"), or the first reason for which it has none.
use Rattle.std.specs.Prelude.{ℕ, ◌+◌, ◌==◌, ◌&&◌, ◌||◌, Bool, List, drop, map, filter, position, Result, Ok, nat_lt}
use Rattle.image_file.specs.Reading.{word, table_in}
use Rattle.image_file.specs.Steps.{◌>>=◌, refuse_at}
use Rattle.elf_file.specs.declared.header.Header.{Header}
use Rattle.elf_file.specs.declared.segments.SegmentHeader.{SegmentHeader}
use Rattle.elf_file.specs.declared.refusal.ElfRefusal.{ElfRefusal}
use Rattle.elf_file.specs.declared.refusal.ElfRefusal.TheVariants.{NotStatic, SegmentCut, BadSegment, WritableCode}
use Rattle.elf_file.specs.Figures.{PROGRAM_HEADER, LOAD, DYNAMIC, INTERPRETER, SEGMENT_EXECUTABLE, SEGMENT_WRITABLE, ADDRESS_END}
use Rattle.elf_file.specs.Fields.{word_at, part_at, is_cut, has_flag}
use Rattle.elf_file.specs.Header.{header_of}
use Rattle.elf_file.specs.Values.{SegmentValue, ProgramValue}

-- p_type, p_offset, p_vaddr, p_filesz, p_memsz and p_flags
abbrev pub segment_header_in : List ℕ → SegmentHeader
segment_header_in bytes = record {
  kind = word bytes;
  offset = word_at 4 bytes;
  address = word_at 8 bytes;
  stored = word_at 16 bytes;
  size = word_at 20 bytes;
  flags = word_at 24 bytes;
}

unfoldable pub segment_headers_in : Header → List ℕ → List SegmentHeader
segment_headers_in h bytes = table_in PROGRAM_HEADER segment_header_in h.programs (drop h.programs_at bytes)

-- the program asks for a linker when it is run
abbrev pub asks_linker : SegmentHeader → Bool
asks_linker h = (h.kind == DYNAMIC) || (h.kind == INTERPRETER)

-- a segment's bytes are not all in the file
abbrev pub lacks_bytes : List ℕ → SegmentHeader → Bool
lacks_bytes bytes h = (h.kind == LOAD) && is_cut h.offset h.stored bytes

-- it has more bytes in the file than in memory, or ends in the system's half
abbrev pub is_misplaced : SegmentHeader → Bool
is_misplaced h = (h.kind == LOAD) && (nat_lt h.size h.stored || nat_lt ADDRESS_END (h.address + h.size))

-- it can be written and run
abbrev pub has_writable_code : SegmentHeader → Bool
has_writable_code h = (h.kind == LOAD) && has_flag SEGMENT_WRITABLE h.flags && has_flag SEGMENT_EXECUTABLE h.flags

-- Each reason is looked for in all headers before the next one, and the first header that gives it is told.
unfoldable pub segments_allowed : List ℕ → List SegmentHeader → Result (Unit {0}) ElfRefusal
segments_allowed bytes headers = do
  static ← refuse_at (position asks_linker headers) (λ place. NotStatic place)
  whole ← refuse_at (position (lacks_bytes bytes) headers) (λ place. SegmentCut place)
  placed ← refuse_at (position is_misplaced headers) (λ place. BadSegment place)
  refuse_at (position has_writable_code headers) (λ place. WritableCode place)

-- a loaded segment: what is of type PT_LOAD and has bytes in memory
abbrev pub is_loaded : SegmentHeader → Bool
is_loaded h = (h.kind == LOAD) && nat_lt 0 h.size

abbrev pub segment_in : List ℕ → SegmentHeader → SegmentValue
segment_in bytes h = record { address = h.address; size = h.size; writable = has_flag SEGMENT_WRITABLE h.flags; stored = part_at h.offset h.stored bytes }

abbrev pub segments_in : List ℕ → List SegmentHeader → List SegmentValue
segments_in bytes headers = map (segment_in bytes) (filter is_loaded headers)

unfoldable pub program_of : List ℕ → Result ProgramValue ElfRefusal
program_of bytes = do
  header ← header_of bytes
  allowed ← segments_allowed bytes (segment_headers_in header bytes)
  Ok (record { entry = header.entry; segments = segments_in bytes (segment_headers_in header bytes) })
