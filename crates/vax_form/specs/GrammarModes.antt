-- Addressing modes by the first byte of an operand specifier, and what a specifier of each mode reads and gives.
-- VAX Architecture Reference Manual, "Operand Specifiers", the summary of addressing modes.
use Rattle.std.specs.Prelude.{ℕ, ◌+◌, ◌/◌, ◌%◌, Bool, true, false, ◌==◌, nat_lt, if◌then◌else◌}
use Rattle.std.specs.Prelude.{Option, Some, None}
use Rattle.vax_form.specs.State.{SP}
use Rattle.vax_form.specs.Grammar.{extended, wrapped}
use Rattle.vax_form.specs.declared.mode.Mode.{Mode}
use Rattle.vax_form.specs.declared.mode.Mode.TheVariants as mode
use Rattle.vax_form.specs.declared.instr.Size.{Size}
use Rattle.vax_form.specs.declared.instr.Size.TheVariants.{Byte, Word, Long, Quad}
use Rattle.vax_form.specs.declared.instr.Access.{Access}
use Rattle.vax_form.specs.declared.instr.Access.TheVariants.{Read, Write, Modify, Address}
use Rattle.vax_form.specs.declared.instr.Base.{Base}
use Rattle.vax_form.specs.declared.instr.Base.TheVariants.{Deferred, Decrement, Increment, IncrementDeferred, Offset, Fixed}
use Rattle.vax_form.specs.declared.instr.Operand.{Operand}
use Rattle.vax_form.specs.declared.instr.Operand.TheVariants.{Value, Register, Place}

-- ---- the first byte

-- the modes of R0 to R14, by the high four bits
abbrev pub register_mode : ℕ → Mode
register_mode high =
    if high == 0x4 then mode.Index
    else (if high == 0x5 then mode.Register
    else (if high == 0x6 then mode.Deferred
    else (if high == 0x7 then mode.Decrement
    else (if high == 0x8 then mode.Increment
    else (if high == 0x9 then mode.IncrementDeferred
    else (if high == 0xA then mode.Displacement Byte false
    else (if high == 0xB then mode.Displacement Byte true
    else (if high == 0xC then mode.Displacement Word false
    else (if high == 0xD then mode.Displacement Word true
    else (if high == 0xE then mode.Displacement Long false
    else mode.Displacement Long true))))))))))

-- the modes of the program counter
abbrev pub program_counter_mode : ℕ → Mode
program_counter_mode high =
    if nat_lt high 0x8 then mode.Reserved
    else (if high == 0x8 then mode.Immediate
    else (if high == 0x9 then mode.Absolute
    else (if high == 0xA then mode.Relative Byte false
    else (if high == 0xB then mode.Relative Byte true
    else (if high == 0xC then mode.Relative Word false
    else (if high == 0xD then mode.Relative Word true
    else (if high == 0xE then mode.Relative Long false
    else mode.Relative Long true)))))))

unfoldable pub mode_of : ℕ → Mode
mode_of first =
    if nat_lt first 0x40 then mode.Literal
    else (if first % 16 == 15 then program_counter_mode (first / 16) else register_mode (first / 16))

-- ---- reserved addressing modes

-- whether the mode with register n is reserved for an operand of that use and size
unfoldable pub is_reserved_mode : Access → Size → ℕ → Mode → Bool
is_reserved_mode access size n mode.Reserved = true
is_reserved_mode Read size n mode.Literal = false
is_reserved_mode access size n mode.Literal = true
is_reserved_mode Address size n mode.Register = true
is_reserved_mode access Quad n mode.Register = n == SP
is_reserved_mode Write size n mode.Immediate = true
is_reserved_mode Modify size n mode.Immediate = true
is_reserved_mode access size n m = false

-- whether the mode with register n is reserved behind an index byte of register x
unfoldable pub is_reserved_base : ℕ → ℕ → Mode → Bool
is_reserved_base x n mode.Literal = true
is_reserved_base x n mode.Index = true
is_reserved_base x n mode.Register = true
is_reserved_base x n mode.Immediate = true
is_reserved_base x n mode.Reserved = true
is_reserved_base x n mode.Decrement = n == x
is_reserved_base x n mode.Increment = n == x
is_reserved_base x n mode.IncrementDeferred = n == x
is_reserved_base x n m = false

-- ---- behind the first byte

-- the size of the number behind the first byte, where there is one
unfoldable pub extension_size : Size → Mode → Option Size
extension_size size mode.Immediate = Some size
extension_size size mode.Absolute = Some Long
extension_size size (mode.Displacement displacement is_deferred) = Some displacement
extension_size size (mode.Relative displacement is_deferred) = Some displacement
extension_size size m = None

-- The base that a mode with register n and that number behind the first byte gives, where the number stands at the
-- address from, and behind is the address behind the specifier.
unfoldable pub base_of : ℕ → ℕ → ℕ → ℕ → Mode → Base
base_of n value from behind mode.Deferred = Deferred n
base_of n value from behind mode.Decrement = Decrement n
base_of n value from behind mode.Increment = Increment n
base_of n value from behind mode.IncrementDeferred = IncrementDeferred n
base_of n value from behind mode.Immediate = Fixed from false
base_of n value from behind mode.Absolute = Fixed value false
base_of n value from behind (mode.Displacement size is_deferred) = Offset n (extended size value) is_deferred
base_of n value from behind (mode.Relative size is_deferred) = Fixed (wrapped (behind + extended size value)) is_deferred
base_of n value from behind m = Deferred n

-- the operand that a specifier with that first byte, and no index, gives
unfoldable pub operand_of : Access → ℕ → ℕ → ℕ → ℕ → Mode → Operand
operand_of access first value from behind mode.Literal = Value first
operand_of access first value from behind mode.Register = Register (first % 16)
operand_of Read first value from behind mode.Immediate = Value value
operand_of access first value from behind m = Place (base_of (first % 16) value from behind m) None
