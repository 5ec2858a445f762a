-- Numbers and ranges in the words of a command line.
use Rattle.std.specs.Prelude.{◌==◌, ◌&&◌, ◌^◌, ℕ, Bool, List, [], ◌∷◌, Option, Some, None, if◌then◌else◌}
use Rattle.std.specs.Prelude.{length, nat_le, nat_lt, option_and_then}
use Rattle.std.specs.List.{list_all, before_first, after_first, position_or_len}
use Rattle.std.specs.Char.{digit_value}
use Rattle.std.specs.Str.Parse.{digits_value, without_leading_plus}
use Rattle.command_words.specs.declared.numbers.Range.{Range}
use Rattle.command_words.specs.Parts.{Text}

-- the first, then what it goes on to
infixl 10 ◌>>=◌
abbrev pub ◌>>=◌ : {A B : Type 0} → Option A → (A → Option B) → Option B
o >>= f = option_and_then f o

-- at least one digit, and all are of the radix
abbrev pub are_digits : ℕ → Text → Bool
are_digits radix text = nat_lt 0 (length text) && list_all (λ d. nat_lt (digit_value d) radix) text

-- decimal digits, behind a plus sign or not, of a number below 2 ^ 64
abbrev pub number_in : Text → Option ℕ
number_in text =
    let ds = without_leading_plus text in
    if are_digits 10 ds && nat_lt (digits_value 10 ds) (2 ^ 64) then Some (digits_value 10 ds)
    else None

-- the number, where it fits
abbrev pub within : (ℕ → Bool) → Option ℕ → Option ℕ
within fits number = option_and_then (λ n. if fits n then Some n else None) number

-- the number that at least one digit and at most so many write
abbrev pub short_number : ℕ → ℕ → Text → Option ℕ
short_number radix most text =
    if are_digits radix text && nat_le (length text) most then Some (digits_value radix text)
    else None

-- what stands before the first mark, and what stands behind it
abbrev pub split_at : ℕ → Text → Option (Text × Text)
split_at mark text =
    if nat_lt (position_or_len (λ b. b == mark) text) (length text)
    then Some (before_first (λ b. b == mark) text, after_first (λ b. b == mark) text) else None

-- the range, where the thread is below 32 and the first address not above the last
abbrev pub range_of : ℕ → ℕ → ℕ → Option Range
range_of thread first last = if nat_lt thread 32 && nat_le first last
    then Some (record { thread = thread; first = first; last = last }) else None

-- `T:A-B`: a thread in at most two decimal digits, the first and the last address in at most eight hexadecimal ones; 58 is
-- `:` and 45 is `-`
abbrev pub range_in : Text → Option Range
range_in text = do
  parts ← split_at 58 text
  addresses ← split_at 45 parts.1
  thread ← short_number 10 2 parts.0
  first ← short_number 16 8 addresses.0
  last ← short_number 16 8 addresses.1
  range_of thread first last

-- the ranges of all the texts
abbrev pub ranges_in : List Text → Option (List Range)
ranges_in [] = Some []
ranges_in (text ∷ rest) = do
  range ← range_in text
  ranges ← ranges_in rest
  Some (range ∷ ranges)

-- the same, where there are at most 64
abbrev pub few_ranges : List Text → Option (List Range)
few_ranges texts = if nat_le (length texts) 64 then ranges_in texts else None
