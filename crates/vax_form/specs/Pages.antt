-- Which bytes may be used, and the bytes that can be fetched.
-- VAX Architecture Reference Manual, "Memory Management": protection is by page.
use Rattle.std.specs.Prelude.{ℕ, zero, suc, ◌+◌, ◌-◌, ◌*◌, ◌/◌, ◌%◌, ◌^◌, ◌&&◌, ◌||◌, Bool, not, List, Option, Some, None, find, option_map, slice_index, length, take, drop, ◌≡◌, ◌<◌, ◌≤◌, if◌then◌else◌}
use Rattle.std.specs.List.{list_any}
use Rattle.vax_form.specs.declared.pages.PageRange.{PageRange}
use Rattle.vax_form.specs.declared.pages.Pages.{Pages}
use Rattle.vax_form.specs.PageTable.{has_page, page_size}

-- the range has the address's page, and may be written where that is meant
abbrev pub allows : ℕ → Bool → PageRange → Bool
allows address write r = has_page (address / page_size) r && (not write || r.writable)

abbrev pub is_allowed : Pages → ℕ → Bool → Bool
is_allowed pages address write = list_any (allows address write) pages.ranges

-- the range is read-only and has the address's page
abbrev pub has_code : ℕ → PageRange → Bool
has_code address r = has_page (address / page_size) r && not r.writable

abbrev pub is_code : Pages → ℕ → Bool
is_code pages address = list_any (has_code address) pages.ranges

-- the byte at an address in a read-only page
abbrev pub code_byte_at : Pages → ℕ → Option ℕ
code_byte_at pages address =
    option_map (λ (r : PageRange). slice_index pages.code (r.place + (address - page_size * r.first))) (find (has_code address) pages.ranges)

-- the bytes from an address in a read-only page on, up to the end of its range
abbrev pub code_from : Pages → ℕ → Option (List ℕ)
code_from pages address =
    option_map (λ (r : PageRange). take (page_size * (r.first + r.count) - address) (drop (r.place + (address - page_size * r.first)) pages.code))
    (find (has_code address) pages.ranges)

-- bytes that stand in the code from the address on, at least one and all below address 80000000
pub record AreCode (pages : Pages) (address : ℕ) (bytes : List ℕ) : Type 0 where
  pub some : 0 < length bytes
  pub low : address + length bytes ≤ 2 ^ 31
  pub stand : (k : ℕ) → k < length bytes → code_byte_at pages (address + k) ≡ Some (slice_index bytes k)

-- the first of the bytes from the address on, modulo 2^32, that may not be used with that intent
abbrev pub first_bad : Pages → (write : Bool) → (address count : ℕ) → Option ℕ
first_bad pages write address zero = None
first_bad pages write address (suc count) =
    if is_allowed pages address write then first_bad pages write ((address + 1) % 2 ^ 32) count else Some address
