-- Where the quadwords of an image's pages stand in one list: range after range.
use Rattle.std.specs.Prelude.{◌≡◌, ℕ, zero, suc, ◌+◌, ◌-◌, ◌*◌, ◌/◌, ◌%◌, Bool, List, [], ◌∷◌, Option, Some, None, option_map, slice_index, if◌then◌else◌}
use Rattle.std.specs.List.{flat_map, list_any}
use Rattle.vax_form.specs.declared.pages.PageRange.{PageRange}
use Rattle.vax_form.specs.PageTable.{has_page, page_size}
use Rattle.image_file.specs.Values.{ImageValue}
use Rattle.memory_core.specs.Opening.{opening}

-- how many pages the ranges have
abbrev pub page_count : List PageRange → ℕ
page_count [] = 0
page_count (r ∷ rs) = r.count + page_count rs

-- whether a range has the page
abbrev pub is_page : List PageRange → ℕ → Bool
is_page ranges page = list_any (has_page page) ranges

-- the number of a page among the pages of the ranges
abbrev pub page_number : List PageRange → ℕ → Option ℕ
page_number [] page = None
page_number (r ∷ rs) page =
    if has_page page r then Some (page - r.first) else option_map (λ n. r.count + n) (page_number rs page)

-- the quadwords of a page
abbrev pub page_quads : ℕ
page_quads = 64

-- the number of a page's first quadword
abbrev pub page_place : List PageRange → ℕ → Option ℕ
page_place ranges page = option_map (λ n. page_quads * n) (page_number ranges page)

-- the number of the quadword at an address
abbrev pub quad_place : List PageRange → ℕ → Option ℕ
quad_place ranges address = option_map (λ n. page_quads * n + address % page_size / 8) (page_number ranges (address / page_size))

abbrev pub above : Option ℕ → ℕ
above None = 0
above (Some n) = suc n

-- 0 where no range has the page, else one more than its number
abbrev pub index_word : List PageRange → ℕ → ℕ
index_word ranges page = above (page_number ranges page)

-- the index of the ranges: a word for each page, which is 0 behind the last
abbrev pub IsIndexOf : List ℕ → List PageRange → Type 0
IsIndexOf words ranges = (page : ℕ) → slice_index words page ≡ index_word ranges page

-- so many quadwords of the image, from an address on
abbrev pub quads_from : ImageValue → (address count : ℕ) → List ℕ
quads_from image address zero = []
quads_from image address (suc count) = opening image address ∷ quads_from image (address + 8) count

-- the quadwords of all ranges, range after range
abbrev pub quads_of : ImageValue → List PageRange → List ℕ
quads_of image ranges = flat_map (λ (r : PageRange). quads_from image (page_size * r.first) (page_quads * r.count)) ranges
