-- The functions that an ELF file names ("Sections", "Symbol Table"), or the reason for which its symbols cannot be read.
use Rattle.std.specs.Prelude.{ℕ, ◌+◌, ◌*◌, ◌/◌, ◌%◌, ◌==◌, ◌&&◌, ◌||◌, not, Bool, false, true, Option, Some, None, List, [], drop, map, filter, position, Result, Ok, nat_lt, slice_get}
use Rattle.image_file.specs.Reading.{table_in}
use Rattle.image_file.specs.Steps.{◌>>=◌, refuse_if}
use Rattle.elf_file.specs.declared.header.Header.{Header}
use Rattle.elf_file.specs.declared.sections.SectionHeader.{SectionHeader}
use Rattle.elf_file.specs.declared.symbols.Symbol.{Symbol}
use Rattle.elf_file.specs.declared.refusal.ElfRefusal.{ElfRefusal}
use Rattle.elf_file.specs.declared.refusal.ElfRefusal.TheVariants.{SymbolsCut}
use Rattle.elf_file.specs.Figures.{SECTION_HEADER, SYMBOL_TABLE, SECTION_WRITABLE, SECTION_LOADED, SYMBOL, SYMBOL_TYPES, FUNCTION, UNDEFINED}
use Rattle.elf_file.specs.Fields.{byte_at, half_at, word_at, is_cut, has_flag}
use Rattle.elf_file.specs.Header.{header_of}

-- sh_type, sh_flags, sh_offset, sh_size and sh_link
abbrev pub section_header_in : List ℕ → SectionHeader
section_header_in bytes = record { kind = word_at 4 bytes; flags = word_at 8 bytes; offset = word_at 16 bytes; size = word_at 20 bytes; link = word_at 24 bytes }

unfoldable pub section_headers_in : Header → List ℕ → List SectionHeader
section_headers_in h bytes = table_in SECTION_HEADER section_header_in h.sections (drop h.sections_at bytes)

-- section headers of another size, or not all in the file; a file may have none
abbrev pub lacks_sections : Header → List ℕ → Bool
lacks_sections h bytes = nat_lt 0 h.sections && (not (h.section_size == SECTION_HEADER) || is_cut h.sections_at (SECTION_HEADER * h.sections) bytes)

abbrev pub is_symbol_table : SectionHeader → Bool
is_symbol_table s = s.kind == SYMBOL_TABLE

abbrev pub is_section_cut : List ℕ → Option SectionHeader → Bool
is_section_cut bytes None = true
is_section_cut bytes (Some s) = is_cut s.offset s.size bytes

-- loaded, and not writable
abbrev pub is_read_only : Option SectionHeader → Bool
is_read_only None = false
is_read_only (Some s) = has_flag SECTION_LOADED s.flags && not (has_flag SECTION_WRITABLE s.flags)

-- st_value, st_info and st_shndx
abbrev pub symbol_in : List ℕ → Symbol
symbol_in bytes = record { value = word_at 4 bytes; info = byte_at 12 bytes; section = half_at 14 bytes }

-- a function that is defined in a read-only section
abbrev pub is_function : List SectionHeader → Symbol → Bool
is_function sections s = (s.info % SYMBOL_TYPES == FUNCTION) && not (s.section == UNDEFINED) && is_read_only (slice_get sections s.section)

abbrev pub symbols_in : SectionHeader → List ℕ → List Symbol
symbols_in table bytes = table_in SYMBOL symbol_in (table.size / SYMBOL) (drop table.offset bytes)

abbrev pub functions_in : List SectionHeader → List Symbol → List ℕ
functions_in sections symbols = map (λ (s : Symbol). s.value) (filter (is_function sections) symbols)

-- the functions of the symbol table whose section header stands at a place of the file; its names stand in the section that it links to
unfoldable pub functions_of : List SectionHeader → List ℕ → ℕ → Result (List ℕ) ElfRefusal
functions_of sections bytes at =
    let table = section_header_in (drop at bytes) in do
      whole ← refuse_if (is_cut table.offset table.size bytes || is_section_cut bytes (slice_get sections table.link)) (SymbolsCut at)
      Ok (functions_in sections (symbols_in table bytes))

-- the same by the table's place among the section headers
abbrev pub functions_at : Header → List SectionHeader → List ℕ → Option ℕ → Result (List ℕ) ElfRefusal
functions_at header sections bytes None = Ok []
functions_at header sections bytes (Some place) = functions_of sections bytes (header.sections_at + SECTION_HEADER * place)

-- the values of the functions, in the order of the first symbol table; none where the file has no such table
unfoldable pub functions_named : List ℕ → Result (List ℕ) ElfRefusal
functions_named bytes = do
  header ← header_of bytes
  sections ← refuse_if (lacks_sections header bytes) (SymbolsCut header.sections_at)
  functions_at header (section_headers_in header bytes) bytes (position is_symbol_table (section_headers_in header bytes))
