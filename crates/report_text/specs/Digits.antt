-- A number in hexadecimal digits with capital letters, the highest first.
use Rattle.std.specs.Prelude.{◌/◌, ◌%◌, ◌^◌, ℕ, zero, suc, List, [], ◌∷◌, codes, slice_index}

-- the digit at that place, from the lowest
abbrev pub digit_at : ℕ → ℕ → ℕ
digit_at place n = slice_index (codes "0123456789ABCDEF") (n / 16 ^ place % 16)

-- so many digits, down to the lowest
unfoldable pub digits_from : ℕ → ℕ → List ℕ
digits_from zero n = []
digits_from (suc k) n = digit_at k n ∷ digits_from k n

-- a byte
unfoldable pub two_digits : ℕ → List ℕ
two_digits n = digits_from 2 n

-- a longword
unfoldable pub eight_digits : ℕ → List ℕ
eight_digits n = digits_from 8 n
