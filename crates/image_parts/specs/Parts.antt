-- The image of parts, and the bytes of its file.
use Rattle.std.specs.Prelude.{◌≡◌, ℕ, ◌<◌, ◌^◌, ◌==◌, ◌&&◌, Bool, List, length, map, position, Result, Ok, nat_le, nat_lt, if◌then◌else◌, max}
use Rattle.std.specs.List.{AllByRecursion, list_all}
use Rattle.image_file.specs.declared.image.Start.{Start}
use Rattle.image_file.specs.declared.rows.Row.{Row}
use Rattle.image_file.specs.Limits.{most_threads, most_bytes}
use Rattle.image_file.specs.Values.{SectionValue, ImageValue}
use Rattle.image_file.specs.Rows.{total_bytes}
use Rattle.image_file.specs.Spelling.{row_of, spelling}
use Rattle.image_file.specs.Pages.{pages_of}
use Rattle.image_file.specs.Whole.{IsStart}
use Rattle.image_file.specs.Reading.{image_of}
use Rattle.image_file.specs.Steps.{◌>>=◌, refuse_if, refuse_at}
use Rattle.image_parts.specs.declared.parts.Parts.{Parts}
use Rattle.image_parts.specs.declared.refusal.MakeRefusal.{MakeRefusal}
use Rattle.image_parts.specs.declared.refusal.MakeRefusal.TheVariants.{StoredTooLong, TooMany}
use Rattle.image_parts.specs.Values.{PartsValue}
use Rattle.image_parts.specs.Refusal.{of_image, refused_as}

-- the most threads, sections or entries that the header of an image can count, and the most bytes of a section
abbrev pub MOST_COUNTED : ℕ
MOST_COUNTED = 0xFFFF

abbrev pub MOST_SIZE : ℕ
MOST_SIZE = 0xFFFFFFFF

-- a section of size 0 is as long as what it stores
abbrev pub sized : SectionValue → SectionValue
sized s = record { start = s.start; size = if s.size == 0 then length s.stored else s.size; writable = s.writable; stored = s.stored }

-- a section stores more bytes than it may have
abbrev pub stores_too_much : SectionValue → Bool
stores_too_much s = nat_lt (if s.size == 0 then MOST_SIZE else s.size) (length s.stored)

-- the numbers of a row have 32 bits
pub record RowFits (r : Row) : Type 0 where
  pub start : r.start < 2 ^ 32
  pub size : r.size < 2 ^ 32
  pub stored : r.stored < 2 ^ 32
  pub flags : r.flags < 2 ^ 32

-- an image all of whose numbers fit where its spelling has them
pub record Fits (image : ImageValue) : Type 0 where
  pub version : image.version < 2 ^ 16
  pub threads : length image.threads < 2 ^ 16
  pub sections : length image.sections < 2 ^ 16
  pub entries : length image.entries < 2 ^ 16
  pub starts_fit : AllByRecursion (IsStart image.version) image.threads
  pub rows_fit : AllByRecursion RowFits (map row_of image.sections)
  pub entries_fit : AllByRecursion (λ (e : ℕ). e < 2 ^ 32) image.entries
  pub pages : image.pages ≡ pages_of image.sections

-- parts as lists
abbrev pub parts_value : Parts → PartsValue
parts_value parts = record { threads = parts.threads.now; sections = parts.sections.now; entries = parts.entries.now }

-- R0 to R13 are 0
abbrev pub is_cleared : Start → Bool
is_cleared t = list_all (λ (value : ℕ). value == 0) t.first

-- version 1 where it has room for the threads and the pages, and else version 2
abbrev pub fits_version_1 : List Start → List SectionValue → Bool
fits_version_1 threads sections = nat_le (length threads) (most_threads 1) && list_all is_cleared threads && nat_le (total_bytes (map row_of sections)) (most_bytes 1)

abbrev pub version_for : List Start → List SectionValue → ℕ
version_for threads sections = if fits_version_1 threads sections then 1 else 2

unfoldable pub parts_image : PartsValue → ImageValue
parts_image parts =
    let sections = map sized parts.sections in
    record { version = version_for parts.threads sections; threads = parts.threads; sections = sections; entries = parts.entries; pages = pages_of sections }

-- of the numbers of threads, sections and entries the greatest
abbrev pub most_counted : PartsValue → ℕ
most_counted parts = max (length parts.threads) (max (length parts.sections) (length parts.entries))

-- The spelling of the image, where reading it again gives no refusal.
unfoldable pub parts_bytes : PartsValue → Result (List ℕ) MakeRefusal
parts_bytes parts = do
  counted ← refuse_if (nat_lt MOST_COUNTED (most_counted parts)) (TooMany (most_counted parts))
  fit ← refuse_at (position stores_too_much parts.sections) (λ place. StoredTooLong place)
  read ← refused_as of_image (image_of (spelling (parts_image parts)))
  Ok (spelling (parts_image parts))
