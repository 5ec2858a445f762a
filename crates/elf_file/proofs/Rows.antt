-- Rows of ELF files: a small one, whose bytes are written by hand by the ABI's tables, and what becomes of it by one changed byte or a cut.
use Rattle.std.proofs.Common.{◌≡◌, ◌<◌, ℕ, List, [], ◌∷◌, ◌++◌, true, false, length, map, replicate, take, set, Ok, Err, refl}
use Rattle.std.specs.List.{range_with_len}
use Rattle.std.proofs.lemmas.Bool.{lt-ltb}
use Rattle.elf_file.specs.declared.refusal.ElfRefusal.TheVariants.{Short, BadMagic, BadClass, BadMachine, BadType, BadHeaders, NotStatic, SegmentCut, BadSegment, WritableCode, SymbolsCut}
use Rattle.elf_file.specs.Header.{header_of}
use Rattle.elf_file.specs.Program.{segment_headers_in, segments_allowed, program_of}
use Rattle.elf_file.specs.Symbols.{section_headers_in, functions_of, functions_named}

-- executable, for the VAX; entry 10074; two program headers at 52, five section headers at 205
abbrev header : List ℕ
header =
    127 ∷ 69 ∷ 76 ∷ 70 ∷ 1 ∷ 1 ∷ 1 ∷ 0 ∷ 0 ∷ 0 ∷ 0 ∷ 0 ∷ 0 ∷ 0 ∷ 0 ∷ 0 ∷ 2 ∷ 0 ∷ 75 ∷ 0 ∷ 1 ∷ 0 ∷ 0 ∷ 0 ∷ 116 ∷ 0 ∷
    1 ∷ 0 ∷ 52 ∷ 0 ∷ 0 ∷ 0 ∷ 205 ∷ 0 ∷ 0 ∷ 0 ∷ 0 ∷ 0 ∷ 0 ∷ 0 ∷ 52 ∷ 0 ∷ 32 ∷ 0 ∷ 2 ∷ 0 ∷ 40 ∷ 0 ∷ 5 ∷ 0 ∷ 0 ∷ 0 ∷ []

-- from place 52 on: 4 bytes at 116 of the file, read-only code at 10074
abbrev code_header : List ℕ
code_header =
    1 ∷ 0 ∷ 0 ∷ 0 ∷ 116 ∷ 0 ∷ 0 ∷ 0 ∷ 116 ∷ 0 ∷ 1 ∷ 0 ∷ 116 ∷ 0 ∷ 1 ∷ 0 ∷ 4 ∷ 0 ∷ 0 ∷ 0 ∷ 4 ∷ 0 ∷ 0 ∷ 0 ∷ 5 ∷ 0 ∷ 0 ∷ 0 ∷ 0 ∷ 2 ∷ 0 ∷ 0 ∷ []

-- from place 84 on: 2 bytes at 120 of the file, and 8 in memory, writable at 20078
abbrev data_header : List ℕ
data_header =
    1 ∷ 0 ∷ 0 ∷ 0 ∷ 120 ∷ 0 ∷ 0 ∷ 0 ∷ 120 ∷ 0 ∷ 2 ∷ 0 ∷ 120 ∷ 0 ∷ 2 ∷ 0 ∷ 2 ∷ 0 ∷ 0 ∷ 0 ∷ 8 ∷ 0 ∷ 0 ∷ 0 ∷ 6 ∷ 0 ∷ 0 ∷ 0 ∷ 0 ∷ 2 ∷ 0 ∷ 0 ∷ []

-- from place 116 on: the code, and the data
abbrev stored : List ℕ
stored =
    1 ∷ 2 ∷ 3 ∷ 4 ∷ 7 ∷ 9 ∷ []

-- from place 122 on: no symbol, a function in the code, one in the data, an object in the code, a function that is defined elsewhere
abbrev symbols : List ℕ
symbols =
    0 ∷ 0 ∷ 0 ∷ 0 ∷ 0 ∷ 0 ∷ 0 ∷ 0 ∷ 0 ∷ 0 ∷ 0 ∷ 0 ∷ 0 ∷ 0 ∷ 0 ∷ 0 ∷
    1 ∷ 0 ∷ 0 ∷ 0 ∷ 116 ∷ 0 ∷ 1 ∷ 0 ∷ 4 ∷ 0 ∷ 0 ∷ 0 ∷ 18 ∷ 0 ∷ 1 ∷ 0 ∷
    1 ∷ 0 ∷ 0 ∷ 0 ∷ 120 ∷ 0 ∷ 2 ∷ 0 ∷ 2 ∷ 0 ∷ 0 ∷ 0 ∷ 18 ∷ 0 ∷ 2 ∷ 0 ∷
    1 ∷ 0 ∷ 0 ∷ 0 ∷ 118 ∷ 0 ∷ 1 ∷ 0 ∷ 4 ∷ 0 ∷ 0 ∷ 0 ∷ 17 ∷ 0 ∷ 1 ∷ 0 ∷
    1 ∷ 0 ∷ 0 ∷ 0 ∷ 0 ∷ 0 ∷ 0 ∷ 0 ∷ 0 ∷ 0 ∷ 0 ∷ 0 ∷ 18 ∷ 0 ∷ 0 ∷ 0 ∷ []

-- from place 202 on
abbrev names : List ℕ
names =
    0 ∷ 97 ∷ 0 ∷ []

-- from place 205 on, each of 40 bytes: none, code, data, symbols (at place 325), names (at place 365)
abbrev section_headers : List ℕ
section_headers =
    0 ∷ 0 ∷ 0 ∷ 0 ∷ 0 ∷ 0 ∷ 0 ∷ 0 ∷ 0 ∷ 0 ∷ 0 ∷ 0 ∷ 0 ∷ 0 ∷ 0 ∷ 0 ∷ 0 ∷ 0 ∷ 0 ∷ 0 ∷
    0 ∷ 0 ∷ 0 ∷ 0 ∷ 0 ∷ 0 ∷ 0 ∷ 0 ∷ 0 ∷ 0 ∷ 0 ∷ 0 ∷ 0 ∷ 0 ∷ 0 ∷ 0 ∷ 0 ∷ 0 ∷ 0 ∷ 0 ∷
    0 ∷ 0 ∷ 0 ∷ 0 ∷ 1 ∷ 0 ∷ 0 ∷ 0 ∷ 6 ∷ 0 ∷ 0 ∷ 0 ∷ 116 ∷ 0 ∷ 1 ∷ 0 ∷ 116 ∷ 0 ∷ 0 ∷ 0 ∷
    4 ∷ 0 ∷ 0 ∷ 0 ∷ 0 ∷ 0 ∷ 0 ∷ 0 ∷ 0 ∷ 0 ∷ 0 ∷ 0 ∷ 0 ∷ 0 ∷ 0 ∷ 0 ∷ 0 ∷ 0 ∷ 0 ∷ 0 ∷
    0 ∷ 0 ∷ 0 ∷ 0 ∷ 1 ∷ 0 ∷ 0 ∷ 0 ∷ 3 ∷ 0 ∷ 0 ∷ 0 ∷ 120 ∷ 0 ∷ 2 ∷ 0 ∷ 120 ∷ 0 ∷ 0 ∷ 0 ∷
    2 ∷ 0 ∷ 0 ∷ 0 ∷ 0 ∷ 0 ∷ 0 ∷ 0 ∷ 0 ∷ 0 ∷ 0 ∷ 0 ∷ 0 ∷ 0 ∷ 0 ∷ 0 ∷ 0 ∷ 0 ∷ 0 ∷ 0 ∷
    0 ∷ 0 ∷ 0 ∷ 0 ∷ 2 ∷ 0 ∷ 0 ∷ 0 ∷ 0 ∷ 0 ∷ 0 ∷ 0 ∷ 0 ∷ 0 ∷ 0 ∷ 0 ∷ 122 ∷ 0 ∷ 0 ∷ 0 ∷
    80 ∷ 0 ∷ 0 ∷ 0 ∷ 4 ∷ 0 ∷ 0 ∷ 0 ∷ 1 ∷ 0 ∷ 0 ∷ 0 ∷ 4 ∷ 0 ∷ 0 ∷ 0 ∷ 16 ∷ 0 ∷ 0 ∷ 0 ∷
    0 ∷ 0 ∷ 0 ∷ 0 ∷ 3 ∷ 0 ∷ 0 ∷ 0 ∷ 0 ∷ 0 ∷ 0 ∷ 0 ∷ 0 ∷ 0 ∷ 0 ∷ 0 ∷ 202 ∷ 0 ∷ 0 ∷ 0 ∷
    3 ∷ 0 ∷ 0 ∷ 0 ∷ 0 ∷ 0 ∷ 0 ∷ 0 ∷ 0 ∷ 0 ∷ 0 ∷ 0 ∷ 0 ∷ 0 ∷ 0 ∷ 0 ∷ 0 ∷ 0 ∷ 0 ∷ 0 ∷ []

abbrev small : List ℕ
small = header ++ code_header ++ data_header ++ stored ++ symbols ++ names ++ section_headers

-- the first bytes of Debian's /bin/true for x86-64
abbrev of_64_bits : List ℕ
of_64_bits =
    127 ∷ 69 ∷ 76 ∷ 70 ∷ 2 ∷ 1 ∷ 1 ∷ 0 ∷ 0 ∷ 0 ∷ 0 ∷ 0 ∷ 0 ∷ 0 ∷ 0 ∷ 0 ∷ 3 ∷ 0 ∷ 62 ∷ 0 ∷ 1 ∷ 0 ∷ 0 ∷ 0 ∷ 208 ∷ 35 ∷
    0 ∷ 0 ∷ 0 ∷ 0 ∷ 0 ∷ 0 ∷ 64 ∷ 0 ∷ 0 ∷ 0 ∷ 0 ∷ 0 ∷ 0 ∷ 0 ∷ 144 ∷ 131 ∷ 0 ∷ 0 ∷ 0 ∷ 0 ∷ 0 ∷ 0 ∷ 0 ∷ 0 ∷ 0 ∷ 0 ∷ []

-- ---- what is read

small_is_read : program_of small ≡ Ok (record {
  entry = 0x10074;
  segments =
      record { address = 0x10074; size = 4; writable = false; stored = 1 ∷ 2 ∷ 3 ∷ 4 ∷ [] }
      ∷ record { address = 0x20078; size = 8; writable = true; stored = 7 ∷ 9 ∷ [] }
      ∷ [];
})
unfolding program_of header_of segment_headers_in segments_allowed
small_is_read = refl

small_names : functions_named small ≡ Ok (0x10074 ∷ [])
unfolding functions_named header_of section_headers_in functions_of
small_names = refl

-- ---- cuts: a file that ends inside its header is too short, wherever it is cut

pub short_is_refused : (bytes : List ℕ) → length bytes < 52 → program_of bytes ≡ Err (Short (length bytes))
unfolding program_of header_of
short_is_refused bytes short = rw (lt-ltb (length bytes) 52 short) refl

cuts_in_the_headers : map (λ kept. program_of (take kept small)) (range_with_len 52 64) ≡ replicate 64 (Err (BadHeaders 52))
unfolding program_of header_of segment_headers_in segments_allowed
cuts_in_the_headers = refl

cuts_in_the_code : map (λ kept. program_of (take kept small)) (range_with_len 116 4) ≡ replicate 4 (Err (SegmentCut 0))
unfolding program_of header_of segment_headers_in segments_allowed
cuts_in_the_code = refl

cuts_in_the_data : map (λ kept. program_of (take kept small)) (range_with_len 120 2) ≡ replicate 2 (Err (SegmentCut 1))
unfolding program_of header_of segment_headers_in segments_allowed
cuts_in_the_data = refl

cuts_behind_the_data : map (λ kept. program_of (take kept small)) (range_with_len 122 283) ≡ replicate 283 (program_of small)
unfolding program_of header_of segment_headers_in segments_allowed
cuts_behind_the_data = refl

cuts_before_the_end : map (λ kept. functions_named (take kept small)) (range_with_len 122 283) ≡ replicate 283 (Err (SymbolsCut 205))
unfolding functions_named header_of section_headers_in functions_of
cuts_before_the_end = refl

-- ---- changed bytes

x86_64 : program_of of_64_bits ≡ Err (BadClass 2 1 1)
unfolding program_of header_of
x86_64 = refl

bad_magic : program_of (set small 0 0) ≡ Err BadMagic
unfolding program_of header_of segment_headers_in segments_allowed
bad_magic = refl

class_64 : program_of (set small 4 2) ≡ Err (BadClass 2 1 1)
unfolding program_of header_of segment_headers_in segments_allowed
class_64 = refl

big_endian : program_of (set small 5 2) ≡ Err (BadClass 1 2 1)
unfolding program_of header_of segment_headers_in segments_allowed
big_endian = refl

other_version : program_of (set small 6 0) ≡ Err (BadClass 1 1 0)
unfolding program_of header_of segment_headers_in segments_allowed
other_version = refl

other_machine : program_of (set small 18 62) ≡ Err (BadMachine 62)
unfolding program_of header_of segment_headers_in segments_allowed
other_machine = refl

object_file : program_of (set small 16 1) ≡ Err (BadType 1)
unfolding program_of header_of segment_headers_in segments_allowed
object_file = refl

shared_file : program_of (set small 16 3) ≡ Err (BadType 3)
unfolding program_of header_of segment_headers_in segments_allowed
shared_file = refl

headers_of_another_size : program_of (set small 42 56) ≡ Err (BadHeaders 52)
unfolding program_of header_of segment_headers_in segments_allowed
headers_of_another_size = refl

headers_cut : program_of (set small 44 20) ≡ Err (BadHeaders 52)
unfolding program_of header_of segment_headers_in segments_allowed
headers_cut = refl

dynamic : program_of (set small 52 2) ≡ Err (NotStatic 0)
unfolding program_of header_of segment_headers_in segments_allowed
dynamic = refl

interpreted : program_of (set small 84 3) ≡ Err (NotStatic 1)
unfolding program_of header_of segment_headers_in segments_allowed
interpreted = refl

segment_cut : program_of (set small 101 2) ≡ Err (SegmentCut 1)
unfolding program_of header_of segment_headers_in segments_allowed
segment_cut = refl

more_stored_than_in_memory : program_of (set small 100 9) ≡ Err (BadSegment 1)
unfolding program_of header_of segment_headers_in segments_allowed
more_stored_than_in_memory = refl

ends_above_the_half : program_of (set small 95 128) ≡ Err (BadSegment 1)
unfolding program_of header_of segment_headers_in segments_allowed
ends_above_the_half = refl

writable_code : program_of (set small 108 7) ≡ Err (WritableCode 1)
unfolding program_of header_of segment_headers_in segments_allowed
writable_code = refl

not_static_before_a_bad_place : program_of (set (set small 84 3) 63 128) ≡ Err (NotStatic 1)
unfolding program_of header_of segment_headers_in segments_allowed
not_static_before_a_bad_place = refl

sections_of_another_size : functions_named (set small 46 64) ≡ Err (SymbolsCut 205)
unfolding functions_named header_of section_headers_in functions_of
sections_of_another_size = refl

symbols_cut : functions_named (set small 346 2) ≡ Err (SymbolsCut 325)
unfolding functions_named header_of section_headers_in functions_of
symbols_cut = refl

names_cut : functions_named (set small 386 2) ≡ Err (SymbolsCut 325)
unfolding functions_named header_of section_headers_in functions_of
names_cut = refl

no_such_names : functions_named (set small 349 9) ≡ Err (SymbolsCut 325)
unfolding functions_named header_of section_headers_in functions_of
no_such_names = refl

no_symbol_table : functions_named (set small 329 1) ≡ Ok []
unfolding functions_named header_of section_headers_in functions_of
no_symbol_table = refl

no_section : functions_named (set small 48 0) ≡ Ok []
unfolding functions_named header_of section_headers_in functions_of
no_section = refl

object_file_has_no_functions : functions_named (set small 16 1) ≡ Err (BadType 1)
unfolding functions_named header_of section_headers_in functions_of
object_file_has_no_functions = refl
