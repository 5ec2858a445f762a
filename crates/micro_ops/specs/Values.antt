-- What each micro operation computes, on the low bytes of its size.
use Rattle.std.specs.Prelude.{ℕ, ℤ, pos, ◌+◌, ◌-◌, ◌*◌, ◌/◌, ◌%◌, ◌^◌, ◌==◌, nat_lt, int_lt, if◌then◌else◌, bit_and, bit_or, bit_xor}
use Rattle.std.specs.Int.{int_div_euclid}
use Rattle.vax_form.specs.Size.{bytes_of}
use Rattle.vax_form.specs.declared.instr.Size.{Size}
use Rattle.vt_words.specs.Values.{modulus, signed_value, value_of, bit}
use Rattle.vt_words.specs.Quad.{sign_extended}
use Rattle.micro_ops.specs.declared.program.MicroOp.{MicroOp}
use Rattle.micro_ops.specs.declared.program.MicroOp.TheVariants.{Move, Add, Sub, Mul, And, Or, Xor, AndNot, ShiftLeft, ShiftRight, ShiftSigned, SignExtend, ZeroExtend, Equal, Less, LessUnsigned, SelectNonzero, MulHigh}

abbrev pub bits_of : Size → ℕ
bits_of size = 8 * bytes_of size

-- the least number that does not fit the size
abbrev pub limit_of : Size → ℕ
limit_of size = modulus (bytes_of size)

-- the low bytes
abbrev pub low : Size → ℕ → ℕ
low size value = value % limit_of size

-- as a two's complement number of that size
abbrev pub signed : Size → ℕ → ℤ
signed size value = signed_value (bytes_of size) value

-- all bits of the size where the sign is set, else 0
abbrev pub sign_of : Size → ℕ → ℕ
sign_of size value = if nat_lt value (limit_of size / 2) then 0 else limit_of size - 1

-- the floor of the two's complement number over a power of two, in two's complement
abbrev pub signed_right : Size → (value count : ℕ) → ℕ
signed_right size value count = value_of (bytes_of size) (int_div_euclid (signed size value) (pos (2 ^ count)))

-- for the low bytes of both arguments, and for what the temporary held. A count is unsigned; shifts by as many bits as
-- the size has, or more, leave nothing of the value but its sign
unfoldable pub value_from : MicroOp → Size → (a b held : ℕ) → ℕ
value_from Move size a b held = a
value_from Add size a b held = (a + b) % limit_of size
value_from Sub size a b held = (a + (limit_of size - b)) % limit_of size
value_from Mul size a b held = a * b % limit_of size
value_from And size a b held = bit_and a b
value_from Or size a b held = bit_or a b
value_from Xor size a b held = bit_xor a b
value_from AndNot size a b held = bit_and a (limit_of size - 1 - b)
value_from ShiftLeft size a b held = if nat_lt b (bits_of size) then a * 2 ^ b % limit_of size else 0
value_from ShiftRight size a b held = if nat_lt b (bits_of size) then a / 2 ^ b else 0
value_from ShiftSigned size a b held = if nat_lt b (bits_of size) then signed_right size a b else sign_of size a
value_from SignExtend size a b held = sign_extended a (bits_of size)
value_from ZeroExtend size a b held = a
value_from Equal size a b held = bit (a == b)
value_from Less size a b held = bit (int_lt (signed size a) (signed size b))
value_from LessUnsigned size a b held = bit (nat_lt a b)
value_from SelectNonzero size a b held = if a == 0 then low size held else b
value_from MulHigh size a b held = a * b / limit_of size

-- what a computation leaves in its temporary
abbrev pub computed : MicroOp → Size → (a b held : ℕ) → ℕ
computed op size a b held = value_from op size (low size a) (low size b) held
