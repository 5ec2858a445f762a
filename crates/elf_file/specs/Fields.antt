-- What stands at places of a file.
use Rattle.std.specs.Prelude.{ℕ, ◌/◌, ◌%◌, ◌==◌, Bool, List, length, take, drop, nat_lt, slice_index}
use Rattle.image_file.specs.Reading.{half, word}

-- the numbers of one, two and four bytes at a place, the lowest byte first
abbrev pub byte_at : ℕ → List ℕ → ℕ
byte_at at bytes = slice_index bytes at

abbrev pub half_at : ℕ → List ℕ → ℕ
half_at at bytes = half (drop at bytes)

abbrev pub word_at : ℕ → List ℕ → ℕ
word_at at bytes = word (drop at bytes)

-- so many bytes from a place on, and whether they are not all there
abbrev pub part_at : ℕ → ℕ → List ℕ → List ℕ
part_at at size bytes = take size (drop at bytes)

abbrev pub is_cut : ℕ → ℕ → List ℕ → Bool
is_cut at size bytes = nat_lt (length (drop at bytes)) size

-- a flag, which is a power of two, is among the flags
abbrev pub has_flag : ℕ → ℕ → Bool
has_flag flag flags = (flags / flag) % 2 == 1
