-- The operands of an instruction, evaluated from left to right.
-- VAX Architecture Reference Manual, "Operand Specifiers": access types.
use Rattle.std.specs.Prelude.{ℕ, zero, suc, ◌-◌, List, [], ◌∷◌, slice_set, slice_index_or}
use Rattle.vax_form.specs.Size.{bytes_of}
use Rattle.vax_form.specs.Row.{row_with, row_of_operation}
use Rattle.vax_form.specs.Script.{Script, ◌>>=◌, pure, bind, get}
pub use Rattle.vax_form.specs.Targets.{operand_of as operand}
use Rattle.vax_form.specs.declared.operation.Operation.{Operation}
use Rattle.vax_form.specs.declared.operation.Operation.TheVariants.{AddAlignedWord}
use Rattle.vax_form.specs.declared.row.Row.{Row}
use Rattle.vax_form.specs.declared.instr.Access.{Access}
use Rattle.vax_form.specs.declared.instr.Access.TheVariants.{Read, Write, Modify, Address, Field, Branch}
use Rattle.vax_form.specs.declared.instr.Size.{Size}
use Rattle.vax_form.specs.declared.instr.Size.TheVariants.{Byte, Word}
use Rattle.vax_form.specs.declared.instr.Operand.{Operand}
use Rattle.vax_form.specs.declared.instr.Operand.TheVariants.{Unused, Value, Register, Place, Target}
use Rattle.vax_form.specs.declared.instr.Instr.{Instr}
use Rattle.vax_meaning.specs.declared.operands.Location.{Location}
use Rattle.vax_meaning.specs.declared.operands.Location.TheVariants.{InMemory, InRegister}
use Rattle.vax_meaning.specs.declared.evaluation.Evaluated.{Evaluated}
use Rattle.vax_meaning.specs.Memory.{low_bytes, fetch}
use Rattle.vax_meaning.specs.Operands.{locate, modify_at, register_value}

-- an operand that is not evaluated
abbrev pub nothing : Evaluated
nothing = record { location = InMemory 0; value = 0 }

-- six of them
abbrev pub nothings : List Evaluated
nothings = nothing ∷ nothing ∷ nothing ∷ nothing ∷ nothing ∷ nothing ∷ []

-- where an operand is
unfoldable pub find : Access → Size → Operand → Script Location
find Read size from = locate from size
find Write size from = locate from size
find Modify size from = locate from size
find Address size from = locate from size
find Field size from = locate from size
find Branch size from = pure (InMemory 0)

-- the value of an operand that is read, once it was found
unfoldable pub read_found : Operand → Location → Size → Script ℕ
read_found (Value value) at size = pure (low_bytes (bytes_of size) value)
read_found (Register n) at size = get (λ state. low_bytes (bytes_of size) (register_value n (bytes_of size) state))
read_found (Place base index) (InMemory address) size = do
  value ← fetch address (bytes_of size)
  pure (low_bytes (bytes_of size) value)
read_found (Place base index) (InRegister n) size = pure 0
read_found Unused at size = pure 0
read_found (Target address) at size = pure 0

-- the address of an operand that was found
abbrev pub address_of : Location → ℕ
address_of (InMemory address) = address
address_of (InRegister n) = 0

-- the register and the next one, where a field has its base in registers
abbrev pub field_registers : Location → Script ℕ
field_registers (InRegister n) = get (register_value n 8)
field_registers (InMemory address) = pure 0

-- an operand that was found: read, checked with write intent and read, or left as it is
unfoldable pub obtain : Access → Size → Operand → Location → Script Evaluated
obtain Read size from at = do
  value ← read_found from at size
  pure (record { location = InMemory 0; value = value })
obtain Write size from at = pure (record { location = at; value = 0 })
obtain Modify size from at = do
  value ← modify_at at size
  pure (record { location = at; value = value })
obtain Address size from at = pure (record { location = at; value = address_of at })
obtain Field size from at = do
  value ← field_registers at
  pure (record { location = at; value = value })
obtain Branch size from at = pure nothing

-- one operand
abbrev pub evaluate : Access → Size → Operand → Script Evaluated
evaluate access size from = bind (find access size from) (obtain access size from)

-- the operands as they are evaluated: ADAWI makes the one reference to its second operand behind all specifiers
unfoldable pub evaluated_row : Operation → Row
evaluated_row AddAlignedWord = row_with ((Read, Word) ∷ (Write, Word) ∷ [])
evaluated_row operation = row_of_operation operation

-- the last so many of the six operands, into their places
unfoldable pub operands_from : (left : ℕ) → Row → Instr → List Evaluated → Script (List Evaluated)
operands_from zero row instr values = pure values
operands_from (suc left) row instr values = do
  value ← evaluate (slice_index_or row.access (5 - left) Read) (slice_index_or row.size (5 - left) Byte) (operand instr (5 - left))
  operands_from left row instr (slice_set values (5 - left) value)

-- the value of an operand, and where it is
abbrev pub value_of_place : List Evaluated → ℕ → Size → ℕ
value_of_place values place size = low_bytes (bytes_of size) (slice_index_or values place nothing).value

abbrev pub location_of_place : List Evaluated → ℕ → Location
location_of_place values place = (slice_index_or values place nothing).location
