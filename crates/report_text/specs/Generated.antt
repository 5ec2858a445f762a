-- The image that is generated for a number: four threads run the same code, and each stores bytes in its own places of one
-- section of memory.
use Rattle.std.specs.Prelude.{ℕ, zero, suc, ◌+◌, ◌*◌, ◌/◌, ◌%◌, ◌^◌, ◌==◌, true, false, List, [], ◌∷◌, ◌++◌, length, replicate, if◌then◌else◌}
use Rattle.std.specs.Int.{w16, to_le_bytes}
use Rattle.image_file.specs.Pages.{pages_of}
use Rattle.image_file.specs.Values.{SectionValue, ImageValue}
use Rattle.image_file.specs.declared.image.Start.{Start}
use Rattle.image_file.specs.Limits.{FIRST_REGISTERS}
use Rattle.report_text.specs.declared.images.Group.{Group}
use Rattle.report_text.specs.declared.images.Group.TheVariants.{Add, ExclusiveOr, Rotate, Store}

-- the number behind another one, by which the next group is made
unfoldable pub next_number : ℕ → ℕ
next_number x = (x * 1664525 + 1013904223) % 2 ^ 32

-- the number by which a group is made; the first group is group 0, and is made by the image's number
abbrev pub number_of_group : (number group : ℕ) → ℕ
number_of_group number zero = number
number_of_group number (suc group) = next_number (number_of_group number group)

-- a byte, which of the four groups it is, and one of 512 places in the memory
abbrev pub byte_of : ℕ → ℕ
byte_of x = x / 2 ^ 24

abbrev pub kind_of : ℕ → ℕ
kind_of x = x / 2 ^ 22 % 4

abbrev pub place_of : ℕ → ℕ
place_of x = 0x1000 + 4 * (x / 1024 % 512)

abbrev pub group_of : ℕ → Group
group_of x =
    if kind_of x == 0 then Add (byte_of x)
    else (if kind_of x == 1 then ExclusiveOr (byte_of x) else (if kind_of x == 2 then Rotate else Store (place_of x)))

-- ADDB2 #byte, R2; XORB2 #byte, R2; ROTL #3, R2, R2; MOVB R2, place(R1)
abbrev pub group_bytes : Group → List ℕ
group_bytes (Add byte) = 0x80 ∷ 0x8F ∷ byte ∷ 0x52 ∷ []
group_bytes (ExclusiveOr byte) = 0x8C ∷ 0x8F ∷ byte ∷ 0x52 ∷ []
group_bytes Rotate = 0x9C ∷ 0x03 ∷ 0x52 ∷ 0x52 ∷ []
group_bytes (Store place) = 0x90 ∷ 0x52 ∷ 0xC1 ∷ to_le_bytes w16 place

-- so many groups
abbrev pub groups : (number count : ℕ) → List ℕ
groups number zero = []
groups number (suc count) = groups number count ++ group_bytes (group_of (number_of_group number count))

-- CHMK #4, which puts the thread's number into R0; MOVL R0, R1; MOVL R0, R2
abbrev pub front_bytes : List ℕ
front_bytes = 0xBC ∷ 0x04 ∷ 0xD0 ∷ 0x50 ∷ 0x51 ∷ 0xD0 ∷ 0x50 ∷ 0x52 ∷ []

-- MOVL R2, R0; CHMK #1, which ends the thread
abbrev pub back_bytes : List ℕ
back_bytes = 0xD0 ∷ 0x52 ∷ 0x50 ∷ 0xBC ∷ 0x01 ∷ []

-- as many groups as the number says
abbrev pub generated_code : ℕ → List ℕ
generated_code number = front_bytes ++ groups number number ++ back_bytes

abbrev pub generated_start : Start
generated_start = record { pc = 0x10000; sp = 0x1800; first = replicate FIRST_REGISTERS 0 }

-- read-only, and all of it is stored
abbrev pub code_section : List ℕ → SectionValue
code_section code = record { start = 0x10000; size = length code; writable = false; stored = code }

-- writable, and nothing is stored
abbrev pub data_section : SectionValue
data_section = record { start = 0x1000; size = 2048; writable = true; stored = [] }

abbrev pub sections_with : List ℕ → List SectionValue
sections_with code = code_section code ∷ data_section ∷ []

-- the image with that code: version 1 of the format, four threads, and no entries
unfoldable pub image_with : List ℕ → ImageValue
image_with code = record { version = 1; threads = replicate 4 generated_start; sections = sections_with code; entries = []; pages = pages_of (sections_with code) }

abbrev pub generated_image : ℕ → ImageValue
generated_image number = image_with (generated_code number)
