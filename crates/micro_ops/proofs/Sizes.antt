-- Values that fit their size.
use Rattle.std.proofs.Common.{ℕ, ◌<◌, arith}
use Rattle.std.specs.Prelude.{bit_or, bit_xor}
use Rattle.std.proofs.lemmas.Nat.{or_lt, xor_lt}
use Rattle.vax_form.specs.declared.instr.Size.{Size}
use Rattle.vax_form.specs.declared.instr.Size.TheVariants.{Byte, Word, Long, Quad}
use Rattle.micro_ops.specs.Values.{limit_of, low}

pub low_below : (size : Size) (value : ℕ) → low size value < limit_of size
low_below Byte value = omega arith
low_below Word value = omega arith
low_below Long value = omega arith
low_below Quad value = omega arith

pub or_fits : (size : Size) (a b : ℕ) → a < limit_of size → b < limit_of size → bit_or a b < limit_of size
or_fits Byte a b = or_lt 8 a b
or_fits Word a b = or_lt 16 a b
or_fits Long a b = or_lt 32 a b
or_fits Quad a b = or_lt 64 a b

pub xor_fits : (size : Size) (a b : ℕ) → a < limit_of size → b < limit_of size → bit_xor a b < limit_of size
xor_fits Byte a b = xor_lt 8 a b
xor_fits Word a b = xor_lt 16 a b
xor_fits Long a b = xor_lt 32 a b
xor_fits Quad a b = xor_lt 64 a b
