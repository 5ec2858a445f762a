-- The bytes of an image file, of either version. All numbers are little-endian.
use Rattle.std.specs.Prelude.{◌≡◌, ℕ, ◌==◌, List, [], ◌++◌, length, map, take, codes, if◌then◌else◌}
use Rattle.std.specs.List.{flat_map}
use Rattle.std.specs.Int.{w16, w32, to_le_bytes}
use Rattle.image_file.specs.declared.image.Start.{Start}
use Rattle.image_file.specs.declared.rows.Row.{Row}
use Rattle.image_file.specs.Values.{SectionValue, ImageValue}

-- R0 to R13, which version 1 lacks
abbrev pub first_bytes : ℕ → List ℕ → List ℕ
first_bytes version first = if version == 1 then [] else flat_map (to_le_bytes w32) first

abbrev pub start_bytes : ℕ → Start → List ℕ
start_bytes version t = to_le_bytes w32 t.pc ++ to_le_bytes w32 t.sp ++ first_bytes version t.first

abbrev pub row_bytes : Row → List ℕ
row_bytes r = to_le_bytes w32 r.start ++ to_le_bytes w32 r.size ++ to_le_bytes w32 r.stored ++ to_le_bytes w32 r.flags

-- a section's row in the section table; its flags are 0 for a read-only section and 1 for a writable one
abbrev pub row_of : SectionValue → Row
row_of s = record { start = s.start; size = s.size; stored = length s.stored; flags = if s.writable then 1 else 0 }

-- behind what was there before, the bytes of the first of the words alone
pub record HasFirstWords (before words after : List ℕ) : Type 0 where
  pub count : ℕ
  pub bytes : after ≡ before ++ flat_map (to_le_bytes w32) (take count words)

-- magic number, version, and the numbers of threads, sections and entries
abbrev pub header_bytes : ℕ → ℕ → ℕ → ℕ → List ℕ
header_bytes version threads sections entries =
    codes "VXIM" ++ to_le_bytes w16 version ++ to_le_bytes w16 threads ++ to_le_bytes w16 sections ++ to_le_bytes w16 entries

-- the header, the three tables, and the stored bytes of each section
unfoldable pub spelling : ImageValue → List ℕ
spelling image =
    header_bytes image.version (length image.threads) (length image.sections) (length image.entries)
    ++ flat_map (start_bytes image.version) image.threads
    ++ flat_map row_bytes (map row_of image.sections)
    ++ flat_map (to_le_bytes w32) image.entries
    ++ flat_map (λ (s : SectionValue). s.stored) image.sections
