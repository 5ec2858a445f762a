-- The value that each instruction of the operate format gives to Rc.
-- Alpha Architecture Reference Manual, 4.4 "Integer Arithmetic Instructions", 4.5 "Logical and Shift Instructions",
-- 4.6 "Byte Manipulation Instructions".
use Rattle.std.specs.Prelude.{ℕ, ℤ, pos, Bool, ◌+◌, ◌-◌, ◌*◌, ◌/◌, ◌%◌, ◌^◌, ◌==◌, nat_lt, nat_le, int_lt, int_le, if◌then◌else◌, bit_and, bit_or, bit_xor}
use Rattle.std.specs.Int.{cast_signed, cast_unsigned, int_div_euclid, w64}
use Rattle.vt_words.specs.Quad.{left, right, kept, cleared, ext_low, ext_high, ins_low, ins_high, msk_low, msk_high, sign_extended}
use Rattle.alpha_encode.specs.declared.instr.OperateOp.{OperateOp}
use Rattle.alpha_encode.specs.declared.instr.OperateOp.TheVariants as row

-- sums, differences and products modulo 2^64
abbrev pub plus : (a b : ℕ) → ℕ
plus a b = (a + b) % 2 ^ 64

abbrev pub minus : (a b : ℕ) → ℕ
minus a b = (a + (2 ^ 64 - b)) % 2 ^ 64

abbrev pub times : (a b : ℕ) → ℕ
times a b = a * b % 2 ^ 64

-- NOT
abbrev pub inverse : ℕ → ℕ
inverse a = 2 ^ 64 - 1 - a

-- a quadword as a two's complement number
abbrev pub signed : ℕ → ℤ
signed a = cast_signed w64 a

-- SEXT of bits 31:0
abbrev pub long : ℕ → ℕ
long a = sign_extended a 32

-- 1 where it is true, else 0
abbrev pub one_if : Bool → ℕ
one_if b = if b then 1 else 0

-- the floor of the two's complement number over a power of two
abbrev pub arithmetic_right : (a count : ℕ) → ℕ
arithmetic_right a count = cast_unsigned w64 (int_div_euclid (signed a) (pos (2 ^ count)))

-- for Rav, Rbv (or the literal), and Rcv as it was before
abbrev pub result_of : OperateOp → (a b held : ℕ) → ℕ
-- 4.4 Longword Add, Quadword Add, Scaled Quadword Add
result_of row.Addl a b held = long (plus a b)
result_of row.Addq a b held = plus a b
result_of row.S4addq a b held = plus (left a 2) b
result_of row.S8addq a b held = plus (left a 3) b
-- 4.4 Integer Signed Compare, Integer Unsigned Compare
result_of row.Cmpeq a b held = one_if (a == b)
result_of row.Cmplt a b held = one_if (int_lt (signed a) (signed b))
result_of row.Cmple a b held = one_if (int_le (signed a) (signed b))
result_of row.Cmpult a b held = one_if (nat_lt a b)
result_of row.Cmpule a b held = one_if (nat_le a b)
-- 4.4 Longword Multiply, Quadword Multiply, Unsigned Quadword Multiply High
result_of row.Mull a b held = long (times a b)
result_of row.Mulq a b held = times a b
result_of row.Umulh a b held = a * b / 2 ^ 64
-- 4.4 Longword Subtract, Quadword Subtract
result_of row.Subl a b held = long (minus a b)
result_of row.Subq a b held = minus a b
-- 4.5 Logical Functions
result_of row.And a b held = bit_and a b
result_of row.Bis a b held = bit_or a b
result_of row.Xor a b held = bit_xor a b
result_of row.Bic a b held = bit_and a (inverse b)
result_of row.Ornot a b held = bit_or a (inverse b)
result_of row.Eqv a b held = inverse (bit_xor a b)
-- 4.5 Conditional Move Integer
result_of row.Cmoveq a b held = if a == 0 then b else held
result_of row.Cmovne a b held = if a == 0 then held else b
-- 4.5 Shift Logical, Shift Arithmetic: the count is Rbv<5:0>
result_of row.Sll a b held = left a (b % 64)
result_of row.Srl a b held = right a (b % 64)
result_of row.Sra a b held = arithmetic_right a (b % 64)
-- 4.6 Extract Byte
result_of row.Extbl a b held = ext_low 0x01 a b
result_of row.Extwl a b held = ext_low 0x03 a b
result_of row.Extll a b held = ext_low 0x0f a b
result_of row.Extql a b held = ext_low 0xff a b
result_of row.Extwh a b held = ext_high 0x03 a b
result_of row.Extlh a b held = ext_high 0x0f a b
result_of row.Extqh a b held = ext_high 0xff a b
-- 4.6 Byte Insert
result_of row.Insbl a b held = ins_low 0x01 a b
result_of row.Inswl a b held = ins_low 0x03 a b
result_of row.Insll a b held = ins_low 0x0f a b
result_of row.Insql a b held = ins_low 0xff a b
result_of row.Inswh a b held = ins_high 0x03 a b
result_of row.Inslh a b held = ins_high 0x0f a b
result_of row.Insqh a b held = ins_high 0xff a b
-- 4.6 Byte Mask
result_of row.Mskbl a b held = msk_low 0x01 a b
result_of row.Mskwl a b held = msk_low 0x03 a b
result_of row.Mskll a b held = msk_low 0x0f a b
result_of row.Mskql a b held = msk_low 0xff a b
result_of row.Mskwh a b held = msk_high 0x03 a b
result_of row.Msklh a b held = msk_high 0x0f a b
result_of row.Mskqh a b held = msk_high 0xff a b
-- 4.6 Zero Bytes
result_of row.Zap a b held = cleared (b % 2 ^ 8) a
result_of row.Zapnot a b held = kept (b % 2 ^ 8) a
-- Sign Extend, of the byte-word extension
result_of row.Sextb a b held = sign_extended b 8
result_of row.Sextw a b held = sign_extended b 16
