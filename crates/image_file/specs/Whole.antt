-- Whole images: those that a file of their version can hold.
use Rattle.std.specs.Prelude.{◌≡◌, ℕ, ◌≤◌, ◌<◌, ◌^◌, true, None, length, map, replicate}
use Rattle.std.specs.List.{AllByRecursion, list_any, list_all}
use Rattle.image_file.specs.declared.image.Start.{Start}
use Rattle.image_file.specs.Limits.{FIRST_REGISTERS, MOST_SECTIONS, MOST_ENTRIES, is_version, most_threads, most_bytes}
use Rattle.image_file.specs.Values.{ImageValue}
use Rattle.image_file.specs.Rows.{is_sound, has_code, first_overlap, total_bytes}
use Rattle.image_file.specs.Spelling.{row_of}
use Rattle.image_file.specs.Pages.{pages_of}

-- PC, SP and R0 to R13 are numbers of 32 bits
pub record StartFits (t : Start) : Type 0 where
  pub pc : t.pc < 2 ^ 32
  pub sp : t.sp < 2 ^ 32
  pub count : length t.first ≡ FIRST_REGISTERS
  pub first : AllByRecursion (λ (value : ℕ). value < 2 ^ 32) t.first

-- and version 1 has 0 in R0 to R13
pub record IsStart (version : ℕ) (t : Start) : Type 0 where
  pub fits : StartFits t
  pub cleared : version ≡ 1 → t.first ≡ replicate FIRST_REGISTERS 0

-- the version, how many threads, sections and entries there are, and that addresses are numbers of 32 bits
pub record HasRoom (image : ImageValue) : Type 0 where
  pub version : is_version image.version ≡ true
  pub some_thread : 1 ≤ length image.threads
  pub threads : length image.threads ≤ most_threads image.version
  pub sections : length image.sections ≤ MOST_SECTIONS
  pub entries : length image.entries ≤ MOST_ENTRIES
  pub starts_fit : AllByRecursion (IsStart image.version) image.threads
  pub entries_fit : AllByRecursion (λ (e : ℕ). e < 2 ^ 32) image.entries

-- sections at pages, that share none, of so many bytes in all, each entry in a read-only page, and the page table
pub record IsLaidOut (image : ImageValue) : Type 0 where
  pub sound : list_all is_sound (map row_of image.sections) ≡ true
  pub apart : first_overlap 0 (map row_of image.sections) ≡ None
  pub small : total_bytes (map row_of image.sections) ≤ most_bytes image.version
  pub entries_in_code : list_all (λ (e : ℕ). list_any (has_code e) (map row_of image.sections)) image.entries ≡ true
  pub pages : image.pages ≡ pages_of image.sections

pub record IsWhole (image : ImageValue) : Type 0 where
  pub room : HasRoom image
  pub laid_out : IsLaidOut image
