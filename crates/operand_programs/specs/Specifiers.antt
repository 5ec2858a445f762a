-- The part of a program that evaluates an operand specifier. Nothing is committed there: what earlier specifiers added to
-- a register is a number, which each later use of the register adds again.
-- VAX Architecture Reference Manual, "Operand Specifier Formats".
use Rattle.std.specs.Prelude.{ℕ, ◌+◌, ◌-◌, ◌%◌, ◌^◌, ◌==◌, List, [], ◌∷◌, ◌++◌, true, false, Option, Some, None, slice_index, slice_set, if◌then◌else◌, min}
use Rattle.vax_form.specs.Size.{bytes_of}
use Rattle.vax_form.specs.declared.instr.Base.{Base}
use Rattle.vax_form.specs.declared.instr.Base.TheVariants.{Deferred, Decrement, Increment, IncrementDeferred, Offset, Fixed}
use Rattle.vax_form.specs.declared.instr.Operand.{Operand}
use Rattle.vax_form.specs.declared.instr.Operand.TheVariants as operands
use Rattle.vax_form.specs.declared.instr.Size.{Size}
use Rattle.vax_form.specs.declared.instr.Size.TheVariants.{Byte, Long, Quad}
use Rattle.vax_form.specs.State.{with_core}
use Rattle.vax_form.specs.declared.state.VaxState.{VaxState}
use Rattle.micro_ops.specs.declared.program.Arg.TheVariants.{Temp, Register, Const}
use Rattle.micro_ops.specs.declared.program.Micro.{Micro}
use Rattle.micro_ops.specs.declared.program.Micro.TheVariants.{Compute, Probe, Read, Write, Commit}
use Rattle.micro_ops.specs.declared.program.MicroOp.TheVariants as ops
use Rattle.operand_programs.specs.declared.specifiers.Pointer.{Pointer}

-- the registers, each with what was added to it
abbrev pub stepped_registers : (r steps : List ℕ) → List ℕ
stepped_registers [] steps = []
stepped_registers (value ∷ r) [] = value ∷ r
stepped_registers (value ∷ r) (step ∷ steps) = (value + step) % 2 ^ 32 ∷ stepped_registers r steps

-- the state behind the specifiers that added that
abbrev pub stepped : (steps : List ℕ) → VaxState → VaxState
stepped steps state = with_core state (stepped_registers state.r steps) state.pc state.psw

-- what a specifier adds to a register
abbrev pub with_step : (number addend : ℕ) → (steps : List ℕ) → List ℕ
with_step number addend steps = slice_set steps number ((slice_index steps number + addend) % 2 ^ 32)

-- what a base leaves, for an operand of that many bytes
abbrev pub steps_behind : Base → (size : ℕ) → (steps : List ℕ) → List ℕ
steps_behind (Decrement n) size steps = with_step n (2 ^ 32 - size) steps
steps_behind (Increment n) size steps = with_step n size steps
steps_behind (IncrementDeferred n) size steps = with_step n 4 steps
steps_behind base size steps = steps

-- where a base points
abbrev pub pointer_of : Base → (size : ℕ) → (steps : List ℕ) → Pointer
pointer_of (Deferred n) size steps = record { register = Some n; offset = slice_index steps n; deferred = false }
pointer_of (Decrement n) size steps = record { register = Some n; offset = (slice_index steps n + (2 ^ 32 - size)) % 2 ^ 32; deferred = false }
pointer_of (Increment n) size steps = record { register = Some n; offset = slice_index steps n; deferred = false }
pointer_of (IncrementDeferred n) size steps = record { register = Some n; offset = slice_index steps n; deferred = true }
pointer_of (Offset n offset deferred) size steps = record { register = Some n; offset = (slice_index steps n + offset) % 2 ^ 32; deferred = deferred }
pointer_of (Fixed address deferred) size steps = record { register = None; offset = address; deferred = deferred }

-- a register plus an offset, in a temporary
abbrev pub sum_into : (to : ℕ) → Option ℕ → (offset : ℕ) → Micro
sum_into to None offset = Compute to ops.Move Long (Const offset) (Const 0)
sum_into to (Some n) offset = if offset == 0 then Compute to ops.Move Long (Register n) (Const 0) else Compute to ops.Add Long (Register n) (Const offset)

-- the address of a base goes into the place; a deferred one is read by an address in the spare temporary
abbrev pub address_program : Pointer → (place spare : ℕ) → List Micro
address_program pointer place spare =
    if pointer.deferred
    then sum_into spare pointer.register pointer.offset ∷ Probe spare 4 false ∷ Read place spare 4 ∷ []
    else sum_into place pointer.register pointer.offset ∷ []

-- the index counts operands
abbrev pub scaled : Size → List Micro → List Micro
scaled Byte program = program
scaled size program = Compute 4 ops.Mul Quad (Temp 4) (Const (bytes_of size)) ∷ program

abbrev pub index_program : Option ℕ → Size → (steps : List ℕ) → (place : ℕ) → List Micro
index_program None size steps place = []
index_program (Some x) size steps place = sum_into 4 (Some x) (slice_index steps x) ∷ scaled size (Compute place ops.Add Long (Temp place) (Temp 4) ∷ [])

-- the address of an operand in memory
abbrev pub place_program : Base → Option ℕ → Size → (steps : List ℕ) → (place spare : ℕ) → List Micro
place_program base index size steps place spare =
    address_program (pointer_of base (bytes_of size) steps) place spare ++ index_program index size (steps_behind base (bytes_of size) steps) place

-- what an operand leaves
abbrev pub steps_behind_operand : Operand → Size → (steps : List ℕ) → List ℕ
steps_behind_operand (operands.Place base index) size steps = steps_behind base (bytes_of size) steps
steps_behind_operand operand size steps = steps

-- a register is added as the upper half of a quadword
abbrev pub upper_half_program : (number : ℕ) → (steps : List ℕ) → (to : ℕ) → List Micro
upper_half_program n steps to =
    sum_into 4 (Some n) (slice_index steps n)
    ∷ Compute 4 ops.Mul Quad (Temp 4) (Const 0x1_0000_0000)
    ∷ Compute to ops.Add Quad (Temp to) (Temp 4)
    ∷ []

-- the low bytes of a register plus an offset
abbrev pub low_bytes_program : (number : ℕ) → Size → (offset to : ℕ) → List Micro
low_bytes_program n size offset to =
    if offset == 0
    then Compute to ops.ZeroExtend size (Register n) (Const 0) ∷ []
    else sum_into to (Some n) offset ∷ Compute to ops.ZeroExtend size (Temp to) (Const 0) ∷ []

-- the value of a register, at its size
abbrev pub register_program : (number : ℕ) → Size → (steps : List ℕ) → (to : ℕ) → List Micro
register_program n Long steps to = sum_into to (Some n) (slice_index steps n) ∷ []
register_program n Quad steps to = sum_into to (Some n) (slice_index steps n) ∷ upper_half_program (min (n + 1) 255) steps to
register_program n size steps to = low_bytes_program n size (slice_index steps n) to

-- the value of an operand that is read goes into a temporary; its address goes into the place
abbrev pub read_program : Operand → Size → (steps : List ℕ) → (to place : ℕ) → List Micro
read_program (operands.Value value) size steps to place = Compute to ops.Move size (Const value) (Const 0) ∷ []
read_program (operands.Register n) size steps to place = register_program n size steps to
read_program (operands.Place base index) size steps to place =
    place_program base index size steps place to ++ Probe place (bytes_of size) false ∷ Read to place (bytes_of size) ∷ []
read_program operands.Unused size steps to place = []
read_program (operands.Target address) size steps to place = []

-- what the specifiers added to a register goes into it
abbrev pub commit_one : (number step : ℕ) → List Micro
commit_one number step = if step == 0 then [] else Compute 5 ops.Add Long (Register number) (Const step) ∷ Commit number 5 ∷ []

-- the same of all registers, from that one on
abbrev pub commit_program : (number : ℕ) → (steps : List ℕ) → List Micro
commit_program number [] = []
commit_program number (step ∷ steps) = commit_one number step ++ commit_program (number + 1) steps

-- the address of an operand that is written, modified or used as an address
abbrev pub locate_program : Operand → Size → (steps : List ℕ) → (place spare : ℕ) → List Micro
locate_program (operands.Place base index) size steps place spare = place_program base index size steps place spare
locate_program operand size steps place spare = []

-- the operand at the place is checked with write intent and read
abbrev pub modify_program : Size → (to place : ℕ) → List Micro
modify_program size to place = Probe place (bytes_of size) true ∷ Read to place (bytes_of size) ∷ []

-- the operand at the place is checked with write intent and written
abbrev pub store_program : Size → (place from : ℕ) → List Micro
store_program size place from = Probe place (bytes_of size) true ∷ Write place (bytes_of size) from ∷ []
