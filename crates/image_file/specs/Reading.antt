-- The image that the bytes of a file mean, or the first reason for which they mean none.
use Rattle.std.specs.Prelude.{◌≡◌, ℕ, zero, suc, ◌+◌, ◌*◌, ◌==◌, not, List, [], ◌∷◌, length, take, drop, Result, Ok, Err, nat_lt, position, replicate, if◌then◌else◌}
use Rattle.std.specs.List.{list_any}
use Rattle.std.specs.Int.{w16, w32, from_le_bytes}
use Rattle.image_file.specs.declared.image.Start.{Start}
use Rattle.image_file.specs.declared.rows.Row.{Row}
use Rattle.image_file.specs.declared.header.Counts.{Counts}
use Rattle.image_file.specs.declared.refusal.ImageRefusal.{ImageRefusal}
use Rattle.image_file.specs.declared.refusal.ImageRefusal.TheVariants.{Truncated, BadMagic, BadVersion, NoThread, TooManyThreads, TooManySections, BadSection, Overlap, TooLarge, BadEntry, Trailing, TooManyEntries, WantOfMemory}
use Rattle.image_file.specs.Limits.{MAGIC, HEADER, FIRST_REGISTERS, FIRST_AT, REGISTER_BYTES, ROW_BYTES, ENTRY_BYTES, MOST_SECTIONS, MOST_ENTRIES, is_version, most_threads, most_bytes, start_width}
use Rattle.image_file.specs.Values.{SectionValue, ImageValue}
use Rattle.image_file.specs.Rows.{is_sound, has_code, first_overlap, total_bytes, stored_bytes}
use Rattle.image_file.specs.Pages.{pages_of}
use Rattle.image_file.specs.Steps.{◌>>=◌, refuse_if, refuse_at}

-- a call's answer, seen by view, is what reading gives, unless memory ran out
abbrev pub Gives : {X Y : Type 0} → (X → Y) → Result X ImageRefusal → Result Y ImageRefusal → Type 0
Gives view (Ok x) read = read ≡ Ok (view x)
Gives view (Err WantOfMemory) read = Unit {0}
Gives view (Err e) read = read ≡ Err e

-- the number in the first two bytes, and in the first four
abbrev pub half : List ℕ → ℕ
half bytes = from_le_bytes w16 (take 2 bytes)

abbrev pub word : List ℕ → ℕ
word bytes = from_le_bytes w32 (take 4 bytes)

-- where the section table and the tables' end stand
abbrev pub rows_at : Counts → ℕ
rows_at counts = HEADER + start_width counts.version * counts.threads

abbrev pub tables_end : Counts → ℕ
tables_end counts = rows_at counts + ROW_BYTES * counts.sections + ENTRY_BYTES * counts.entries

abbrev pub counts_in : List ℕ → Counts
counts_in bytes = record { version = half (drop 4 bytes); threads = half (drop 6 bytes); sections = half (drop 8 bytes); entries = half (drop 10 bytes) }

unfoldable pub counts_allowed : Counts → Result (Unit {0}) ImageRefusal
counts_allowed counts = do
  some ← refuse_if (counts.threads == 0) NoThread
  threads ← refuse_if (nat_lt (most_threads counts.version) counts.threads) (TooManyThreads counts.threads)
  sections ← refuse_if (nat_lt MOST_SECTIONS counts.sections) (TooManySections counts.sections)
  refuse_if (nat_lt MOST_ENTRIES counts.entries) (TooManyEntries counts.entries)

-- the header's numbers
unfoldable pub counts_of : List ℕ → Result Counts ImageRefusal
counts_of bytes = do
  header ← refuse_if (nat_lt (length bytes) HEADER) (Truncated (length bytes))
  magic ← refuse_if (not (word bytes == MAGIC)) BadMagic
  version ← refuse_if (not (is_version (half (drop 4 bytes)))) (BadVersion (half (drop 4 bytes)))
  allowed ← counts_allowed (counts_in bytes)
  tables ← refuse_if (nat_lt (length bytes) (tables_end (counts_in bytes))) (Truncated (length bytes))
  Ok (counts_in bytes)

-- a table's items, each of so many bytes
abbrev pub table_in : {X : Type 0} → (width : ℕ) → (List ℕ → X) → (count : ℕ) → List ℕ → List X
table_in width read zero bytes = []
table_in width read (suc count) bytes = read bytes ∷ table_in width read count (drop width bytes)

-- R0 to R13, which are 0 in version 1
unfoldable pub first_in : ℕ → List ℕ → List ℕ
first_in version bytes = if version == 1 then replicate FIRST_REGISTERS 0 else table_in REGISTER_BYTES word FIRST_REGISTERS bytes

abbrev pub start_in : ℕ → List ℕ → Start
start_in version bytes = record { pc = word bytes; sp = word (drop 4 bytes); first = first_in version (drop FIRST_AT bytes) }

abbrev pub row_in : List ℕ → Row
row_in bytes = record { start = word bytes; size = word (drop 4 bytes); stored = word (drop 8 bytes); flags = word (drop 12 bytes) }

abbrev pub threads_in : Counts → List ℕ → List Start
threads_in counts bytes = table_in (start_width counts.version) (start_in counts.version) counts.threads (drop HEADER bytes)

abbrev pub rows_in : Counts → List ℕ → List Row
rows_in counts bytes = table_in ROW_BYTES row_in counts.sections (drop (rows_at counts) bytes)

abbrev pub entries_in : Counts → List ℕ → List ℕ
entries_in counts bytes = table_in ENTRY_BYTES word counts.entries (drop (rows_at counts + ROW_BYTES * counts.sections) bytes)

-- what the tables say of memory
unfoldable pub layout_of : ℕ → List Row → List ℕ → Result (Unit {0}) ImageRefusal
layout_of version rows entries = do
  sound ← refuse_at (position (λ r. not (is_sound r)) rows) (λ place. BadSection place)
  apart ← refuse_at (first_overlap 0 rows) (λ (pair : ℕ × ℕ). Overlap pair.0 pair.1)
  small ← refuse_if (nat_lt (most_bytes version) (total_bytes rows)) (TooLarge (total_bytes rows))
  refuse_at (position (λ e. not (list_any (has_code e) rows)) entries) (λ place. BadEntry place)

-- the sections of the rows, whose stored bytes are the first bytes
abbrev pub sections_in : List Row → List ℕ → List SectionValue
sections_in [] bytes = []
sections_in (r ∷ rs) bytes =
    record { start = r.start; size = r.size; writable = r.flags == 1; stored = take r.stored bytes } ∷ sections_in rs (drop r.stored bytes)

abbrev pub image_in : Counts → List ℕ → ImageValue
image_in counts bytes =
    let sections = sections_in (rows_in counts bytes) (drop (tables_end counts) bytes) in
    record { version = counts.version; threads = threads_in counts bytes; sections = sections; entries = entries_in counts bytes; pages = pages_of sections }

unfoldable pub image_of : List ℕ → Result ImageValue ImageRefusal
image_of bytes = do
  counts ← counts_of bytes
  layout ← layout_of counts.version (rows_in counts bytes) (entries_in counts bytes)
  long ← refuse_if (nat_lt (length bytes) (tables_end counts + stored_bytes (rows_in counts bytes))) (Truncated (length bytes))
  ended ← refuse_if (nat_lt (tables_end counts + stored_bytes (rows_in counts bytes)) (length bytes)) (Trailing (tables_end counts + stored_bytes (rows_in counts bytes)))
  Ok (image_in counts bytes)
