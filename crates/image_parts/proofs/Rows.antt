-- Rows of images made of parts and of programs, worked by hand by the tables of the format and of the ABI.
use Rattle.std.proofs.Common.{◌≡◌, ℕ, List, [], ◌∷◌, ◌++◌, true, false, map, replicate, Some, None, Ok, Err, refl}
use Rattle.image_file.specs.declared.image.Start.{Start}
use Rattle.image_file.specs.declared.refusal.ImageRefusal.TheVariants.{NoThread, BadSection, Overlap, TooLarge, BadEntry}
use Rattle.image_file.specs.Values.{SectionValue}
use Rattle.image_file.specs.Spelling.{spelling}
use Rattle.image_file.specs.Pages.{pages_of}
use Rattle.image_file.specs.Reading.{counts_allowed, counts_of, first_in, layout_of, image_of}
use Rattle.elf_file.specs.Values.{SegmentValue, ProgramValue}
use Rattle.image_parts.specs.declared.options.Functions.TheVariants.{Procedures, Routines}
use Rattle.image_parts.specs.declared.refusal.MakeRefusal.TheVariants.{StartOutside, StoredTooLong, Image}
use Rattle.image_parts.specs.Values.{PartsValue, OptionsValue}
use Rattle.image_parts.specs.Parts.{version_for, parts_image, parts_bytes}
use Rattle.image_parts.specs.Segments.{span_of, first_clash, program_byte}
use Rattle.image_parts.specs.Sections.{sections_of}
use Rattle.image_parts.specs.Program.{stacks_of, entries_of, starts_in, program_parts}

-- ---- parts

-- MOVL #5,R0; CHMK #2; CHMK #1
abbrev code : SectionValue
code = record { start = 0x200; size = 7; writable = false; stored = 208 ∷ 5 ∷ 80 ∷ 188 ∷ 2 ∷ 188 ∷ 1 ∷ [] }

abbrev memory : SectionValue
memory = record { start = 0x1000; size = 0x200; writable = true; stored = [] }

abbrev start : Start
start = record { pc = 0x200; sp = 0x1200; first = replicate 14 0 }

-- R0 is 10
abbrev start_with : Start
start_with = record { pc = 0x203; sp = 0x1100; first = 10 ∷ replicate 13 0 }

abbrev parts : List Start → List SectionValue → List ℕ → PartsValue
parts threads sections entries = record { threads = threads; sections = sections; entries = entries }

-- the sample image, byte for byte
sample : parts_bytes (parts (start ∷ []) (code ∷ memory ∷ []) [])
    ≡ Ok (
    86 ∷ 88 ∷ 73 ∷ 77 ∷ 1 ∷ 0 ∷ 1 ∷ 0 ∷ 2 ∷ 0 ∷ 0 ∷ 0 ∷ 0 ∷ 2 ∷ 0 ∷ 0 ∷ 0 ∷ 18 ∷ 0 ∷ 0 ∷ 0 ∷ 2 ∷ 0 ∷ 0 ∷ 7 ∷ 0 ∷ 0 ∷ 0 ∷ 7 ∷ 0 ∷ 0 ∷ 0 ∷ 0 ∷ 0 ∷ 0 ∷ 0 ∷
    0 ∷ 16 ∷ 0 ∷ 0 ∷ 0 ∷ 2 ∷ 0 ∷ 0 ∷ 0 ∷ 0 ∷ 0 ∷ 0 ∷ 1 ∷ 0 ∷ 0 ∷ 0 ∷ 208 ∷ 5 ∷ 80 ∷ 188 ∷ 2 ∷ 188 ∷ 1 ∷ []
    )
unfolding parts_bytes parts_image spelling pages_of counts_allowed counts_of first_in layout_of image_of
sample = refl

-- a section of size 0 is as long as what it stores
same_size : parts_image (parts (start ∷ []) (record { start = 0x200; size = 0; writable = false; stored = 208 ∷ 5 ∷ 80 ∷ 188 ∷ 2 ∷ 188 ∷ 1 ∷ [] } ∷ memory ∷ []) []) ≡ parts_image (parts (start ∷ []) (code ∷ memory ∷ []) [])
unfolding parts_image
same_size = refl

-- two threads, of which the second has R0, and an entry
two_threads : parts_bytes (parts (start ∷ start_with ∷ []) (code ∷ []) (0x205 ∷ []))
    ≡ Ok (
    (86 ∷ 88 ∷ 73 ∷ 77 ∷ 2 ∷ 0 ∷ 2 ∷ 0 ∷ 1 ∷ 0 ∷ 1 ∷ 0 ∷ [])
    ++ (0 ∷ 2 ∷ 0 ∷ 0 ∷ 0 ∷ 18 ∷ 0 ∷ 0 ∷ []) ++ replicate 56 0
    ++ (3 ∷ 2 ∷ 0 ∷ 0 ∷ 0 ∷ 17 ∷ 0 ∷ 0 ∷ 10 ∷ []) ++ replicate 55 0
    ++ (0 ∷ 2 ∷ 0 ∷ 0 ∷ 7 ∷ 0 ∷ 0 ∷ 0 ∷ 7 ∷ 0 ∷ 0 ∷ 0 ∷ 0 ∷ 0 ∷ 0 ∷ 0 ∷ [])
    ++ (5 ∷ 2 ∷ 0 ∷ 0 ∷ [])
    ++ (208 ∷ 5 ∷ 80 ∷ 188 ∷ 2 ∷ 188 ∷ 1 ∷ [])
    )
unfolding parts_bytes parts_image spelling pages_of counts_allowed counts_of first_in layout_of image_of
two_threads = refl

-- version 2 by a seventeenth thread, by a register, and by a byte behind 2,048 pages
sixteen : version_for (replicate 16 start) (code ∷ []) ≡ 1
sixteen = refl

seventeen : version_for (replicate 17 start) (code ∷ []) ≡ 2
seventeen = refl

register : version_for (start ∷ start_with ∷ []) (code ∷ []) ≡ 2
register = refl

abbrev of_size : ℕ → SectionValue
of_size size = record { start = 0x10000; size = size; writable = true; stored = [] }

pages : version_for (start ∷ []) (of_size 0x100000 ∷ []) ≡ 1
pages = refl

byte_more : version_for (start ∷ []) (of_size 0x100001 ∷ []) ≡ 2
byte_more = refl

-- refusals of parts, and of the format
too_long : parts_bytes (parts (start ∷ []) (memory ∷ record { start = 0x200; size = 1; writable = false; stored = 1 ∷ 2 ∷ [] } ∷ []) []) ≡ Err (StoredTooLong 1)
unfolding parts_bytes
too_long = refl

no_thread : parts_bytes (parts [] (code ∷ []) []) ≡ Err (Image NoThread)
unfolding parts_bytes parts_image spelling pages_of counts_allowed counts_of first_in layout_of image_of
no_thread = refl

no_page : parts_bytes (parts (start ∷ []) (code ∷ record { start = 0x201; size = 1; writable = false; stored = [] } ∷ []) []) ≡ Err (Image (BadSection 1))
unfolding parts_bytes parts_image spelling pages_of counts_allowed counts_of first_in layout_of image_of
no_page = refl

no_bytes : parts_bytes (parts (start ∷ []) (code ∷ record { start = 0x400; size = 0; writable = true; stored = [] } ∷ []) []) ≡ Err (Image (BadSection 1))
unfolding parts_bytes parts_image spelling pages_of counts_allowed counts_of first_in layout_of image_of
no_bytes = refl

overlap : parts_bytes (parts (start ∷ []) (code ∷ code ∷ []) []) ≡ Err (Image (Overlap 0 1))
unfolding parts_bytes parts_image spelling pages_of counts_allowed counts_of first_in layout_of image_of
overlap = refl

too_large : parts_bytes (parts (start ∷ []) (of_size 0x400001 ∷ []) []) ≡ Err (Image (TooLarge 0x400200))
unfolding parts_bytes parts_image spelling pages_of counts_allowed counts_of first_in layout_of image_of
too_large = refl

no_code : parts_bytes (parts (start ∷ []) (code ∷ memory ∷ []) (0x200 ∷ 0x1000 ∷ [])) ≡ Err (Image (BadEntry 1))
unfolding parts_bytes parts_image spelling pages_of counts_allowed counts_of first_in layout_of image_of
no_code = refl

-- ---- programs: code at 10074 and data at 20078, as GNU ld places them

abbrev segment : ℕ → ℕ → List ℕ → SegmentValue
segment address size stored = record { address = address; size = size; writable = false; stored = stored }

abbrev writable : ℕ → ℕ → List ℕ → SegmentValue
writable address size stored = record { address = address; size = size; writable = true; stored = stored }

abbrev program : ProgramValue
program = record { entry = 0x10074; segments = segment 0x10074 4 (1 ∷ 2 ∷ 3 ∷ 4 ∷ []) ∷ writable 0x20078 8 (7 ∷ 9 ∷ []) ∷ [] }

-- the bytes of a segment stand at its address, and the bytes of its first page before that are 0
two_sections : sections_of program.segments
    ≡ record { start = 0x10000; size = 0x78; writable = false; stored = replicate 0x74 0 ++ (1 ∷ 2 ∷ 3 ∷ 4 ∷ []) }
    ∷ record { start = 0x20000; size = 0x80; writable = true; stored = replicate 0x78 0 ++ (7 ∷ 9 ∷ []) }
    ∷ []
unfolding sections_of
two_sections = refl

-- segments of the same rights that share a page become one section, also by a third one between them
shared : sections_of (segment 0x100 2 (1 ∷ 2 ∷ []) ∷ writable 0x2000 1 [] ∷ segment 0x300 2 (3 ∷ 4 ∷ []) ∷ segment 0x1FF 2 (5 ∷ 6 ∷ []) ∷ [])
    ≡ record { start = 0; size = 0x302; writable = false; stored = replicate 0x100 0 ++ (1 ∷ 2 ∷ []) ++ replicate 0xFD 0 ++ (5 ∷ 6 ∷ []) ++ replicate 0xFF 0 ++ (3 ∷ 4 ∷ []) }
    ∷ record { start = 0x2000; size = 1; writable = true; stored = [] }
    ∷ []
unfolding sections_of
shared = refl

-- of segments that have the same address the first one has its byte
first_has : program_byte (segment 0x100 2 (1 ∷ 2 ∷ []) ∷ segment 0x101 2 (5 ∷ 6 ∷ []) ∷ []) 0x101 ≡ 2
first_has = refl

-- of different rights they may not
clash : first_clash 0 (map span_of (segment 0x100 1 [] ∷ segment 0x400 1 [] ∷ writable 0x5FF 1 [] ∷ [])) ≡ Some (1, 2)
clash = refl

beside : first_clash 0 (map span_of (segment 0x100 1 [] ∷ segment 0x400 1 [] ∷ writable 0x600 1 [] ∷ [])) ≡ None
beside = refl

-- the stacks of two threads, each of 4000 bytes in hexadecimal, with a page between them that no section has
stacks : stacks_of 0x4000 2 ≡ record { start = 0x7FFEC000; size = 0x4000; writable = true; stored = [] } ∷ record { start = 0x7FFE7E00; size = 0x4000; writable = true; stored = [] } ∷ []
stacks = refl

-- a start in the data
outside : starts_in (sections_of program.segments) (0x10074 ∷ 0x20078 ∷ []) ≡ Err (StartOutside 0x20078)
unfolding starts_in sections_of
outside = refl

abbrev options : OptionsValue
options = record { starts = []; stack = 0x4000; functions = Procedures; entries = 0x10003 ∷ [] }

-- Entries in rising order, each once: a procedure's is behind its mask, what is outside code falls away, and the function at the start has none.
entries : entries_of (sections_of program.segments) (0x10074 ∷ []) options (0x10076 ∷ 0x10074 ∷ 0x10001 ∷ 0x20078 ∷ 0x10030 ∷ []) ≡ 0x10003 ∷ 0x10032 ∷ 0x10078 ∷ []
unfolding sections_of
entries = refl

routines : entries_of (sections_of program.segments) (0x10074 ∷ []) (record { starts = []; stack = 0x4000; functions = Routines; entries = [] }) (0x10076 ∷ 0x10074 ∷ 0x10001 ∷ []) ≡ 0x10001 ∷ 0x10076 ∷ []
unfolding sections_of
routines = refl

threads : (program_parts (sections_of program.segments) (0x10074 ∷ 0x10076 ∷ []) options []).threads
    ≡ record { pc = 0x10074; sp = 0x7FFF0000; first = replicate 14 0 } ∷ record { pc = 0x10076; sp = 0x7FFEBE00; first = replicate 14 0 } ∷ []
unfolding program_parts
threads = refl
