-- Which temporaries a micro operation reads and writes.
use Rattle.std.specs.Prelude.{ℕ, ◌==◌, ◌&&◌, ◌||◌, Bool, true, false, not, Option, Some, None, nat_le}
use Rattle.vax_form.specs.declared.instr.Size.{Size}
use Rattle.vax_form.specs.declared.instr.Size.TheVariants.{Quad}
use Rattle.micro_ops.specs.declared.program.Arg.{Arg}
use Rattle.micro_ops.specs.declared.program.Arg.TheVariants.{Flag, Temp}
use Rattle.micro_ops.specs.declared.program.Exit.{Exit}
use Rattle.micro_ops.specs.declared.program.Exit.TheVariants.{Computed, Choice, Service}
use Rattle.micro_ops.specs.declared.program.Micro.{Micro}
use Rattle.micro_ops.specs.declared.program.Micro.TheVariants.{Compute, Probe, Refuse, Read, Write, Locked, Commit, Codes, SetPsw, Leave}
use Rattle.micro_ops.specs.declared.program.MicroOp.{MicroOp}
use Rattle.micro_ops.specs.declared.program.MicroOp.TheVariants.{Move, SignExtend, ZeroExtend, SelectNonzero}

-- these operations have no second argument
abbrev pub is_unary : MicroOp → Bool
is_unary Move = true
is_unary SignExtend = true
is_unary ZeroExtend = true
is_unary op = false

-- this one may leave its temporary as it was
abbrev pub is_select : MicroOp → Bool
is_select SelectNonzero = true
is_select op = false

abbrev pub is_temp : (temp : ℕ) → Arg → Bool
is_temp temp (Temp number) = number == temp
is_temp temp arg = false

-- an argument of the computation is one that passes
abbrev pub takes : (Arg → Bool) → MicroOp → (a b : Arg) → Bool
takes passes op a b = passes a || (not (is_unary op) && passes b)

abbrev pub is_code : (temp : ℕ) → Option ℕ → Bool
is_code temp None = false
is_code temp (Some code) = code == temp

-- an exit that goes by a temporary
abbrev pub leaves_through : (temp : ℕ) → Exit → Bool
leaves_through temp (Computed address) = address == temp
leaves_through temp (Choice when taken other) = when == temp
leaves_through temp (Service code) = code == temp
leaves_through temp exit = false

-- what a temporary holds matters to the operation
abbrev pub reads : (temp : ℕ) → Micro → Bool
reads temp (Compute to op size a b) = takes (is_temp temp) op a b || (is_select op && (to == temp))
reads temp (Probe place count write) = place == temp
reads temp (Refuse when) = when == temp
reads temp (Read to place count) = place == temp
reads temp (Write place count from) = (place == temp) || (from == temp)
reads temp (Locked to place kind from) = (place == temp) || (from == temp)
reads temp (Commit register from) = from == temp
reads temp (Codes n z v c) = (n == temp) || (z == temp) || (v == temp) || is_code temp c
reads temp (SetPsw from) = from == temp
reads temp (Leave exit) = leaves_through temp exit

-- a write, not interlocked, has so many bytes
abbrev pub has_bytes : (count : ℕ) → Micro → Bool
has_bytes count (Write place bytes from) = bytes == count
has_bytes count operation = true

abbrev pub writes : (temp : ℕ) → Micro → Bool
writes temp (Compute to op size a b) = to == temp
writes temp (Read to place count) = to == temp
writes temp (Locked to place kind from) = to == temp
writes temp operation = false

-- nothing is left of what the temporary held
abbrev pub replaces : (temp : ℕ) → Micro → Bool
replaces temp (Compute to op size a b) = (to == temp) && not (is_select op)
replaces temp operation = writes temp operation

abbrev pub is_codes : Micro → Bool
is_codes (Codes n z v c) = true
is_codes operation = false

abbrev pub is_quad : Size → Bool
is_quad Quad = true
is_quad size = false

abbrev pub is_sign_extension : MicroOp → Bool
is_sign_extension SignExtend = true
is_sign_extension op = false

-- what it writes is below 2^32
abbrev pub leaves_longword : Micro → Bool
leaves_longword (Compute to op size a b) = not (is_quad size) && not (is_sign_extension op)
leaves_longword (Read to place count) = nat_le count 4
leaves_longword operation = false

abbrev pub is_flag : (flag : ℕ) → Arg → Bool
is_flag flag (Flag number) = number == flag
is_flag flag arg = false

abbrev pub reads_flag : (flag : ℕ) → Micro → Bool
reads_flag flag (Compute to op size a b) = takes (is_flag flag) op a b
reads_flag flag operation = false
