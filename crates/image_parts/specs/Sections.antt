-- The sections that a program's segments become.
use Rattle.std.specs.Prelude.{ℕ, ◌+◌, ◌-◌, ◌&&◌, not, Bool, List, [], ◌∷◌, length, map, filter, fold, min, max, if◌then◌else◌}
use Rattle.std.specs.List.{range_with_len}
use Rattle.image_file.specs.Values.{SectionValue}
use Rattle.elf_file.specs.Values.{SegmentValue}
use Rattle.image_parts.specs.declared.spans.Span.{Span}
use Rattle.image_parts.specs.Segments.{program_byte, span_of, meets, has_rights_of}

-- spans of the same rights that share a page are one, from where the first of them begins to where the last of them ends
abbrev pub joins : Span → Span → Bool
joins s t = meets s t && has_rights_of s t

abbrev pub hull : Span → Span → Span
hull s t = record { start = min s.start t.start; end = max s.end t.end; writable = s.writable }

-- a span before others, which has become one with those that it joins
abbrev pub joined : Span → List Span → List Span
joined s spans = fold hull s (filter (joins s) spans) ∷ filter (λ t. not (joins s t)) spans

-- spans, of which each stands where the first stands that has become one with it
abbrev pub all_joined : List Span → List Span
all_joined [] = []
all_joined (s ∷ ss) = joined s (all_joined ss)

-- the spans of a program's segments
abbrev pub spans_of : List SegmentValue → List Span
spans_of segments = all_joined (map span_of segments)

-- where the last byte that a segment in pages of the span stores ends, if that is behind an address
abbrev pub stored_end : Span → List SegmentValue → ℕ → ℕ
stored_end span segments least = fold (λ end (s : SegmentValue). if meets span (span_of s) then max end (s.address + length s.stored) else end) least segments

-- the bytes that the program has from an address on
abbrev pub bytes_from : List SegmentValue → (start count : ℕ) → List ℕ
bytes_from segments start count = map (program_byte segments) (range_with_len start count)

-- All is stored up to the last byte that a segment stores there.
abbrev pub section_of : List SegmentValue → Span → SectionValue
section_of segments span =
    record { start = span.start; size = span.end - span.start; writable = span.writable; stored = bytes_from segments span.start (stored_end span segments span.start - span.start) }

unfoldable pub sections_of : List SegmentValue → List SectionValue
sections_of segments = map (section_of segments) (spans_of segments)
