-- The memory that an image starts with.
use Rattle.std.specs.Prelude.{ℕ, ◌-◌, ◌/◌, Bool, Option, find, option_map, unwrap_or, slice_index}
use Rattle.image_file.specs.Rows.{has_page}
use Rattle.image_file.specs.Spelling.{row_of}
use Rattle.image_file.specs.Values.{SectionValue, ImageValue}
use Rattle.vax_form.specs.PageTable.{page_size}

-- the address is in a page of the section
abbrev pub has_address : ℕ → SectionValue → Bool
has_address address s = has_page (address / page_size) (row_of s)

-- what the section stores, and 0 up to the end of its last page
abbrev pub byte_at : ℕ → SectionValue → ℕ
byte_at address s = slice_index s.stored (address - s.start)

-- the byte at an address of the image's pages
abbrev pub byte_of_image : ImageValue → ℕ → Option ℕ
byte_of_image image address = option_map (byte_at address) (find (has_address address) image.sections)

-- the same, and 0 at every other address
abbrev pub byte_in : ImageValue → ℕ → ℕ
byte_in image address = unwrap_or (byte_of_image image address) 0
