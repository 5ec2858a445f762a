-- Arithmetic with condition codes.
-- VAX Architecture Reference Manual, "Integer Arithmetic and Logical Instructions"; the entry is named at each.
-- A result is the low bytes of the true result. N and Z are by the result, and V says that the true result,
-- over the integers, is no two's complement number of so many bytes.
use Rattle.std.specs.Prelude.{ℕ, ◌+◌, ◌-◌, ◌*◌, ◌/◌, ◌%◌, pos, ◌+ℤ◌, ◌-ℤ◌, ◌*ℤ◌, int_div, nat_lt, nat_le, ◌==◌, Bool, true, false, not, if◌then◌else◌}
use Rattle.vt_words.specs.declared.arithmetic.Coded.{Coded}
use Rattle.vt_words.specs.Values.{modulus, signed_value, value_of, fits, bit}

-- a value with N and Z by the value
abbrev pub coded_value : (bytes value : ℕ) (v c : Bool) → Coded
coded_value bytes value v c = record { value = value; n = nat_le (modulus bytes / 2) value; z = value == 0; v = v; c = c }

-- ADD, INC, ADWC: C is the carry out of the unsigned sum
unfoldable pub sum_of : (bytes a b : ℕ) (carry : Bool) → Coded
sum_of bytes a b carry = coded_value bytes ((a + b + bit carry) % modulus bytes)
    (not (fits bytes (signed_value bytes a +ℤ signed_value bytes b +ℤ pos (bit carry))))
    (nat_le (modulus bytes) (a + b + bit carry))

-- SUB, DEC, SBWC: C is the borrow of the unsigned difference
unfoldable pub difference_of : (bytes a b : ℕ) (borrow : Bool) → Coded
difference_of bytes a b borrow = coded_value bytes ((a + modulus bytes - (b + bit borrow)) % modulus bytes)
    (not (fits bytes (signed_value bytes a -ℤ signed_value bytes b -ℤ pos (bit borrow))))
    (nat_lt a (b + bit borrow))

-- MNEG: zero minus the value, so C says that the value is not 0
abbrev pub negation_of : (bytes value : ℕ) → Coded
negation_of bytes value = difference_of bytes 0 value false

-- MUL: C is 0
unfoldable pub product_of : (bytes a b : ℕ) → Coded
product_of bytes a b = coded_value bytes ((a * b) % modulus bytes)
    (not (fits bytes (signed_value bytes a *ℤ signed_value bytes b)))
    false

-- DIV: truncated towards zero, with C 0. On overflow and on a divisor of 0 V is set and the quotient is the dividend
unfoldable pub quotient_of : (bytes dividend divisor : ℕ) → Coded
quotient_of bytes dividend divisor =
    let quotient = int_div (signed_value bytes dividend) (signed_value bytes divisor) in
    if divisor == 0 then coded_value bytes dividend true false
    else if fits bytes quotient then coded_value bytes (value_of bytes quotient) false false
    else coded_value bytes dividend true false

-- CVT: the signed number in another size, with C 0
unfoldable pub conversion_of : (from to value : ℕ) → Coded
conversion_of from to value = coded_value to (value_of to (signed_value from value)) (not (fits to (signed_value from value))) false

-- EMUL: the product of two signed longwords plus a third, as a quadword
unfoldable pub extended_product_of : (a b addend : ℕ) → ℕ
extended_product_of a b addend = value_of 8 (signed_value 4 a *ℤ signed_value 4 b +ℤ signed_value 4 addend)
