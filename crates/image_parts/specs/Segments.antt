-- The memory that a program's segments give.
use Rattle.std.specs.Prelude.{ℕ, ◌+◌, ◌-◌, ◌*◌, ◌/◌, ◌^◌, ◌<◌, ◌≤◌, ◌&&◌, length, not, Bool, Option, None, List, [], ◌∷◌, option_map, unwrap_or, find, position, nat_le, nat_lt, slice_index}
use Rattle.std.specs.Bool.{beq}
use Rattle.std.specs.Option.{option_or}
use Rattle.vax_form.specs.PageTable.{page_size}
use Rattle.elf_file.specs.Values.{SegmentValue}
use Rattle.image_parts.specs.declared.spans.Span.{Span}

-- the segment has the address, and which byte it has there: a stored one, and 0 behind those
abbrev pub segment_has : ℕ → SegmentValue → Bool
segment_has address s = nat_le s.address address && nat_lt address (s.address + s.size)

abbrev pub segment_byte : ℕ → SegmentValue → ℕ
segment_byte address s = slice_index s.stored (address - s.address)

-- the byte of the first segment that has the address, and 0 where none has it
abbrev pub program_byte : List SegmentValue → ℕ → ℕ
program_byte segments address = unwrap_or (option_map (segment_byte address) (find (segment_has address) segments)) 0

-- the first address of an address's page
abbrev pub page_start : ℕ → ℕ
page_start address = page_size * (address / page_size)

-- the part of memory that the segment needs, from the start of a page to its end
abbrev pub span_of : SegmentValue → Span
span_of s = record { start = page_start s.address; end = s.address + s.size; writable = s.writable }

-- the address is in a page of which the span has a byte
abbrev pub in_pages : ℕ → Span → Bool
in_pages address s = nat_le s.start address && nat_lt (page_start address) s.end

-- the same of a segment
abbrev pub has_page_of : ℕ → SegmentValue → Bool
has_page_of address s = in_pages address (span_of s)

-- Two spans share a page where each begins, at a page, before the other ends.
abbrev pub meets : Span → Span → Bool
meets s t = nat_lt s.start t.end && nat_lt t.start s.end

-- both may be written, or none
abbrev pub has_rights_of : Span → Span → Bool
has_rights_of s t = beq s.writable t.writable

-- two spans of different rights share a page
abbrev pub clashes : Span → Span → Bool
clashes s t = meets s t && not (has_rights_of s t)

-- the first span that clashes with a later one, and the first such one; `low` is the first span's number
abbrev pub first_clash : ℕ → List Span → Option (ℕ × ℕ)
first_clash low [] = None
first_clash low (s ∷ ss) = option_or (option_map (λ next. (low, low + 1 + next)) (position (clashes s) ss)) (first_clash (low + 1) ss)

-- a segment ends below 2^32, and stores no more bytes than it has
pub record IsPlaced (s : SegmentValue) : Type 0 where
  pub end : s.address + s.size < 2 ^ 32
  pub stored : length s.stored ≤ s.size
