-- Which registers hold the arguments of a computation, and which it changes.
use Rattle.std.specs.Prelude.{ℕ, ◌+◌, ◌/◌, ◌%◌, ◌^◌, ◌<◌, ◌≤◌, ◌==◌, ◌||◌, not, nat_lt, Bool, true, false, if◌then◌else◌}
use Rattle.vax_form.specs.declared.instr.Size.{Size}
use Rattle.alpha_encode.specs.Registers.{NEGATIVE, STATUS, TEMPORARIES, TARGET, ADDRESS, ZERO}
use Rattle.alpha_meaning.specs.State.{Regs}
use Rattle.micro_ops.specs.declared.program.Arg.{Arg}
use Rattle.micro_ops.specs.declared.program.Arg.TheVariants.{Temp, Register, Flag, Const}
use Rattle.micro_ops.specs.Uses.{is_quad}

-- R21 to R26 hold the temporaries 0 to 5
pub record IsTarget (register : ℕ) : Type 0 where
  pub low : TEMPORARIES ≤ register
  pub high : register ≤ TARGET

-- the arguments that stand in registers of a block, and constants
abbrev pub IsArgument : Arg → Type 0
IsArgument (Temp temp) = temp < 6
IsArgument (Register number) = number < 15
IsArgument (Flag flag) = flag < 8
IsArgument (Const value) = value < 2 ^ 64

-- R0 to R14 are the registers, R16 to R19 the codes, and R20 has the other flags in their places
abbrev pub register_at : Arg → ℕ
register_at (Temp temp) = TEMPORARIES + temp
register_at (Register number) = number
register_at (Flag flag) = if nat_lt flag 4 then NEGATIVE + flag else STATUS
register_at (Const value) = ZERO

-- what an argument is, by the registers; a register is the longword in it
abbrev pub value_at : Regs → Arg → ℕ
value_at regs (Temp temp) = regs (TEMPORARIES + temp)
value_at regs (Register number) = regs number % 2 ^ 32
value_at regs (Flag flag) = if nat_lt flag 4 then regs (NEGATIVE + flag) else regs STATUS / 2 ^ flag % 2
value_at regs (Const value) = value

-- an argument that takes words of its own: its low bytes are not those of its register
abbrev pub is_loaded : Size → Arg → Bool
is_loaded size (Temp temp) = false
is_loaded size (Register number) = is_quad size
is_loaded size (Flag flag) = not (nat_lt flag 4)
is_loaded size (Const value) = true

-- R27 is scratch
abbrev pub may_change : (to register : ℕ) → Bool
may_change to register = register == to || register == ADDRESS
