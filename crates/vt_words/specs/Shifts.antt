-- Shifts, rotation and complement.
-- VAX Architecture Reference Manual, "Integer Arithmetic and Logical Instructions"; the entry is named at each.
use Rattle.std.specs.Prelude.{ℕ, ◌-◌, ◌*◌, ◌%◌, ◌^◌, pos, ◌*ℤ◌, nat_lt, min, false, not, if◌then◌else◌, bit_and}
use Rattle.std.specs.Int.{int_div_euclid, rotate_left, w32}
use Rattle.vt_words.specs.declared.arithmetic.Coded.{Coded}
use Rattle.vt_words.specs.Values.{modulus, value_of, signed_value, fits}
use Rattle.vt_words.specs.Arithmetic.{coded_value}

-- ASHL to the left: a count above 31 gives 0. V says that the signed longword times 2 to the count is none
unfoldable pub left_shift_of : (value count : ℕ) → Coded
left_shift_of value count = coded_value 4 (if nat_lt 31 count then 0 else value * 2 ^ count % modulus 4)
    (not (fits 4 (signed_value 4 value *ℤ pos (2 ^ count))))
    false

-- ASHL to the right: the floor of the signed longword over 2 to the count, the sign from 31 on
abbrev pub right_shift_of : (value count : ℕ) → ℕ
right_shift_of value count = value_of 4 (int_div_euclid (signed_value 4 value) (pos (2 ^ min count 31)))

-- ROTL: a longword rotated to the left
abbrev pub rotation_of : (value count : ℕ) → ℕ
rotation_of value count = rotate_left w32 value count

-- MCOM: each bit of the value turned
abbrev pub complement_of : (bytes value : ℕ) → ℕ
complement_of bytes value = modulus bytes - 1 - value

-- BIC: the bits of a that b does not have
abbrev pub without : (bytes a b : ℕ) → ℕ
without bytes a b = bit_and a (complement_of bytes b)
