-- Hexadecimal numbers, as words write them.
use Rattle.std.specs.Prelude.{ℕ, ◌+◌, ◌*◌, ◌&&◌, List, [], ◌∷◌, Option, Some, None, option_and_then, length, nat_le, nat_lt, if◌then◌else◌}
use Rattle.std.specs.Char.{digit_value}

-- at most eight digits, of either case, and no sign
abbrev pub MOST_DIGITS : ℕ
MOST_DIGITS = 8

abbrev pub digit_of : ℕ → Option ℕ
digit_of byte = if nat_lt (digit_value byte) 16 then Some (digit_value byte) else None

-- the number that digits go on to write
abbrev pub digits_from : (value : ℕ) → List ℕ → Option ℕ
digits_from value [] = Some value
digits_from value (b ∷ bs) = option_and_then (λ digit. digits_from (16 * value + digit) bs) (digit_of b)

abbrev pub hexadecimal : List ℕ → Option ℕ
hexadecimal text = if nat_lt 0 (length text) && nat_le (length text) MOST_DIGITS then digits_from 0 text else None
