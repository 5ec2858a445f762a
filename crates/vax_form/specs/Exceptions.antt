-- What is told of an exception: its vector, and what comes with it.
-- VAX Architecture Reference Manual, "Exceptions and Interrupts": the vectors of the System Control Block, and the
-- parameters of each exception.
use Rattle.std.specs.Prelude.{ℕ, if◌then◌else◌}
use Rattle.vax_form.specs.declared.state.Exception.{Exception}
use Rattle.vax_form.specs.declared.state.Exception.TheVariants.{ReservedInstruction, ReservedOperand, ReservedMode, AccessViolation, Breakpoint, Arithmetic}

-- the offset of its vector
abbrev pub vector_of : Exception → ℕ
vector_of ReservedInstruction = 0x10
vector_of ReservedOperand = 0x18
vector_of ReservedMode = 0x1C
vector_of (AccessViolation address write) = 0x20
vector_of Breakpoint = 0x2C
vector_of (Arithmetic kind) = 0x34

-- the address of an access violation, the type of an arithmetic trap, and 0 for any other
abbrev pub parameter_of : Exception → ℕ
parameter_of (AccessViolation address write) = address
parameter_of (Arithmetic kind) = kind
parameter_of _ = 0

-- 1 for an access violation with write intent, else 0
abbrev pub intent_of : Exception → ℕ
intent_of (AccessViolation address write) = if write then 1 else 0
intent_of _ = 0
