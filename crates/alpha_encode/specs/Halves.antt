-- A longword in a register, by two instructions: LDAH and then LDA, whose displacements are signed.
-- Alpha Architecture Reference Manual, 4.2 "Load Address".
use Rattle.std.specs.Prelude.{ℕ, ◌+◌, ◌/◌, ◌%◌, ◌^◌, ℤ, List, [], ◌∷◌}
use Rattle.std.specs.Int.{cast_signed, w16}
use Rattle.alpha_encode.specs.declared.instr.AlphaInstr.{AlphaInstr}
use Rattle.alpha_encode.specs.declared.instr.AlphaInstr.TheVariants.{Memory}
use Rattle.alpha_encode.specs.declared.instr.MemoryOp.TheVariants.{Lda, Ldah}
use Rattle.alpha_encode.specs.Registers.{ZERO}

-- the low half as a signed number, and the high half with the borrow of the low one added
abbrev pub low_half : (value : ℕ) → ℤ
low_half value = cast_signed w16 (value % 2 ^ 16)

abbrev pub high_half : (value : ℕ) → ℤ
high_half value = cast_signed w16 ((value + 2 ^ 15) / 2 ^ 16 % 2 ^ 16)

abbrev pub load_high : (register value : ℕ) → AlphaInstr
load_high register value = Memory Ldah register ZERO (high_half value)

abbrev pub load_low : (register value : ℕ) → AlphaInstr
load_low register value = Memory Lda register register (low_half value)

abbrev pub load_longword : (register value : ℕ) → List AlphaInstr
load_longword register value = load_high register value ∷ load_low register value ∷ []
