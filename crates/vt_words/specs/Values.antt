-- Values of some bytes as whole numbers.
-- VAX Architecture Reference Manual, "Data Types": byte, word and longword integers, signed in two's complement.
use Rattle.std.specs.Prelude.{ℕ, ◌*◌, ◌/◌, ◌^◌, ◌≤◌, ℤ, pos, neg_ℤ, ◌-ℤ◌, int_lt, int_le, nat_lt, Bool, ◌&&◌, if◌then◌else◌, unsigned_abs}
use Rattle.std.specs.Int.{int_rem_euclid}

-- the sizes of arithmetic, in bytes
abbrev pub IsSize : ℕ → Type 0
IsSize bytes = (1 ≤ bytes) × (bytes ≤ 4)

-- the least number that does not fit so many bytes
abbrev pub modulus : ℕ → ℕ
modulus bytes = 2 ^ (8 * bytes)

-- the two's complement number that the bytes of a value spell
abbrev pub signed_value : (bytes value : ℕ) → ℤ
signed_value bytes value = if nat_lt value (modulus bytes / 2) then pos value else pos value -ℤ pos (modulus bytes)

-- the low bytes of a number, in two's complement
abbrev pub value_of : (bytes : ℕ) (number : ℤ) → ℕ
value_of bytes number = unsigned_abs (int_rem_euclid number (pos (modulus bytes)))

-- the number is a two's complement number of so many bytes
abbrev pub fits : (bytes : ℕ) (number : ℤ) → Bool
fits bytes number = int_le (neg_ℤ (pos (modulus bytes / 2))) number && int_lt number (pos (modulus bytes / 2))

-- 1 for true
abbrev pub bit : Bool → ℕ
bit b = if b then 1 else 0
