-- Rows of the section table, and the pages that they stand for.
use Rattle.std.specs.Prelude.{ℕ, ◌+◌, ◌-◌, ◌*◌, ◌/◌, ◌%◌, ◌==◌, ◌&&◌, ◌||◌, Bool, Option, None, option_map, List, [], ◌∷◌, nat_le, nat_lt, position}
use Rattle.std.specs.Option.{option_or}
use Rattle.image_file.specs.Limits.{ADDRESS_END}
use Rattle.image_file.specs.declared.rows.Row.{Row}
use Rattle.vax_form.specs.PageTable.{page_size}

abbrev pub page_count : ℕ → ℕ
page_count size = (size + (page_size - 1)) / page_size

-- the bytes of a section's pages
abbrev pub page_bytes : ℕ → ℕ
page_bytes size = page_size * page_count size

abbrev pub is_sound : Row → Bool
is_sound r = (r.start % page_size == 0) && nat_lt 0 r.size && nat_le r.stored r.size && nat_le (r.start + r.size) ADDRESS_END && nat_le r.flags 1

abbrev pub has_page : ℕ → Row → Bool
has_page page r = nat_le (r.start / page_size) page && nat_lt page (r.start / page_size + page_count r.size)

abbrev pub has_code : ℕ → Row → Bool
has_code address r = (r.flags == 0) && has_page (address / page_size) r

-- one of two sections has the first page of the other
abbrev pub shares_page : Row → Row → Bool
shares_page r s = has_page (s.start / page_size) r || has_page (r.start / page_size) s

-- the first section that shares a page with a later one, and the first such one; `low` is the first row's number
abbrev pub first_overlap : ℕ → List Row → Option (ℕ × ℕ)
first_overlap low [] = None
first_overlap low (r ∷ rs) = option_or (option_map (λ next. (low, low + 1 + next)) (position (shares_page r) rs)) (first_overlap (low + 1) rs)

-- the bytes of all sections, each with the rest of its last page
abbrev pub total_bytes : List Row → ℕ
total_bytes [] = 0
total_bytes (r ∷ rs) = page_bytes r.size + total_bytes rs

abbrev pub stored_bytes : List Row → ℕ
stored_bytes [] = 0
stored_bytes (r ∷ rs) = r.stored + stored_bytes rs
