-- The header of an ELF file ("ELF Header"), or the first reason for which it is none of a static program for the VAX.
use Rattle.std.specs.Prelude.{ℕ, ◌*◌, ◌==◌, ◌&&◌, ◌||◌, not, Bool, List, length, Result, Ok, nat_lt}
use Rattle.image_file.specs.Reading.{word}
use Rattle.image_file.specs.Steps.{◌>>=◌, refuse_if}
use Rattle.elf_file.specs.declared.header.Header.{Header}
use Rattle.elf_file.specs.declared.refusal.ElfRefusal.{ElfRefusal}
use Rattle.elf_file.specs.declared.refusal.ElfRefusal.TheVariants.{Short, BadMagic, BadClass, BadMachine, BadType, BadHeaders}
use Rattle.elf_file.specs.Figures.{HEADER, MAGIC, CLASS_32, LITTLE_ENDIAN, VERSION, VAX, EXECUTABLE, PROGRAM_HEADER}
use Rattle.elf_file.specs.Fields.{byte_at, half_at, word_at, is_cut}

-- e_entry; e_phoff, e_phentsize and e_phnum; e_shoff, e_shentsize and e_shnum
abbrev pub header_in : List ℕ → Header
header_in bytes = record {
  entry = word_at 24 bytes;
  programs_at = word_at 28 bytes;
  program_size = half_at 42 bytes;
  programs = half_at 44 bytes;
  sections_at = word_at 32 bytes;
  section_size = half_at 46 bytes;
  sections = half_at 48 bytes;
}

-- EI_CLASS, EI_DATA and EI_VERSION
abbrev pub is_class : List ℕ → Bool
is_class bytes = (byte_at 4 bytes == CLASS_32) && (byte_at 5 bytes == LITTLE_ENDIAN) && (byte_at 6 bytes == VERSION)

-- program headers of another size, or not all in the file
abbrev pub lacks_programs : Header → List ℕ → Bool
lacks_programs h bytes = not (h.program_size == PROGRAM_HEADER) || is_cut h.programs_at (PROGRAM_HEADER * h.programs) bytes

-- by e_ident, e_machine and e_type
unfoldable pub header_of : List ℕ → Result Header ElfRefusal
header_of bytes = do
  long ← refuse_if (nat_lt (length bytes) HEADER) (Short (length bytes))
  magic ← refuse_if (not (word bytes == MAGIC)) BadMagic
  class ← refuse_if (not (is_class bytes)) (BadClass (byte_at 4 bytes) (byte_at 5 bytes) (byte_at 6 bytes))
  machine ← refuse_if (not (half_at 18 bytes == VAX)) (BadMachine (half_at 18 bytes))
  type ← refuse_if (not (half_at 16 bytes == EXECUTABLE)) (BadType (half_at 16 bytes))
  programs ← refuse_if (lacks_programs (header_in bytes) bytes) (BadHeaders (word_at 28 bytes))
  Ok (header_in bytes)
