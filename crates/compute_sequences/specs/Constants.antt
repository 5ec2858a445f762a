-- Constants in registers.
-- Alpha Architecture Reference Manual, 4.2 "Load Address": displacements are signed, so a part above a negative one has a
-- borrow added.
use Rattle.std.specs.Prelude.{ℕ, ◌+◌, ◌/◌, ◌%◌, ◌^◌, nat_lt, if◌then◌else◌, List, [], ◌∷◌}
use Rattle.vax_form.specs.declared.instr.Size.{Size}
use Rattle.vax_form.specs.declared.instr.Size.TheVariants.{Byte, Word, Long, Quad}
use Rattle.alpha_encode.specs.declared.instr.MemoryOp.TheVariants.{Lda, Ldah}
use Rattle.alpha_encode.specs.declared.instr.OperateOp.TheVariants.{Sll}
use Rattle.alpha_encode.specs.declared.instr.Second.TheVariants.{Literal}
use Rattle.alpha_encode.specs.declared.instr.AlphaInstr.{AlphaInstr}
use Rattle.alpha_encode.specs.declared.instr.AlphaInstr.TheVariants.{Memory, Operate}
use Rattle.alpha_encode.specs.Registers.{ZERO}
use Rattle.alpha_encode.specs.Halves.{low_half, high_half, load_high, load_low, load_longword}

-- the high longword with the borrow of the low one added: its two halves together are negative from 7FFF8000 on
abbrev pub high_long : (value : ℕ) → ℕ
high_long value = (value + 0x80008000) / 2 ^ 32 % 2 ^ 32

abbrev pub low_long : (value : ℕ) → ℕ
low_long value = value % 2 ^ 32

-- the low 16 bits, with their sign
abbrev pub load_short : (register value : ℕ) → AlphaInstr
load_short register value = Memory Lda register ZERO (low_half value)

-- the high half of a longword is added
abbrev pub add_high : (register value : ℕ) → AlphaInstr
add_high register value = Memory Ldah register register (high_half value)

abbrev pub load_quad : (register value : ℕ) → List AlphaInstr
load_quad register value =
    load_high register (high_long value)
    ∷ load_low register (high_long value)
    ∷ Operate Sll register (Literal 32) register
    ∷ add_high register (low_long value)
    ∷ load_low register (low_long value)
    ∷ []

abbrev pub code_of_size : (value : ℕ) → Size → (to : ℕ) → List AlphaInstr
code_of_size value Byte to = load_short to (low_long value) ∷ []
code_of_size value Word to = load_short to (low_long value) ∷ []
code_of_size value Long to = load_longword to (low_long value)
code_of_size value Quad to = load_quad to value

-- a number below 2^15 is one displacement, whatever the size
abbrev pub least_size : (value : ℕ) → Size → Size
least_size value size = if nat_lt value (2 ^ 15) then Word else size

abbrev pub constant_code : (value : ℕ) → Size → (to : ℕ) → List AlphaInstr
constant_code value size to = code_of_size value (least_size value size) to
