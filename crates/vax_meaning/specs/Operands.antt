-- Operands: where they are, and what evaluating them changes.
-- VAX Architecture Reference Manual, "Operand Specifier Formats".
use Rattle.std.specs.Prelude.{ℕ, ◌+◌, ◌-◌, ◌*◌, ◌/◌, ◌%◌, ◌^◌, nat_lt, Bool, true, false, Option, Some, None, if◌then◌else◌, min}
use Rattle.vax_form.specs.Size.{bytes_of}
use Rattle.vax_form.specs.State.{register, with_register}
use Rattle.vax_form.specs.Script.{Script, ◌>>=◌, ◌>>◌, pure, get, change}
use Rattle.vax_form.specs.declared.instr.Size.{Size}
use Rattle.vax_form.specs.declared.instr.Size.TheVariants.{Byte, Word, Long, Quad}
use Rattle.vax_form.specs.declared.instr.Base.{Base}
use Rattle.vax_form.specs.declared.instr.Base.TheVariants.{Deferred, Decrement, Increment, IncrementDeferred, Offset, Fixed}
use Rattle.vax_form.specs.declared.instr.Operand.{Operand}
use Rattle.vax_form.specs.declared.instr.Operand.TheVariants.{Unused, Value, Register, Place, Target}
use Rattle.vax_form.specs.declared.state.VaxState.{VaxState}
use Rattle.vax_meaning.specs.declared.operands.Location.{Location}
use Rattle.vax_meaning.specs.declared.operands.Location.TheVariants.{InRegister, InMemory}
use Rattle.vax_meaning.specs.Memory.{low_bytes, check, read, write, fetch}

abbrev pub get_register : ℕ → Script ℕ
get_register number = get (register number)

abbrev pub set_register : (number value : ℕ) → Script (Unit {0})
set_register number value = change (with_register number value)

-- the address itself, or where it is deferred the one that the longword there has
abbrev pub through : ℕ → Bool → Script ℕ
through address true = do
  longword ← fetch address 4
  pure (low_bytes 4 longword)
through address false = pure address

-- the address of a base for an operand of that many bytes, with its side effect
unfoldable pub base_address : Base → (size : ℕ) → Script ℕ
base_address (Deferred n) size = get_register n
base_address (Decrement n) size = do
  old ← get_register n
  set_register n ((old + (2 ^ 32 - size)) % 2 ^ 32)
  pure ((old + (2 ^ 32 - size)) % 2 ^ 32)
base_address (Increment n) size = do
  old ← get_register n
  set_register n ((old + size) % 2 ^ 32)
  pure old
base_address (IncrementDeferred n) size = do
  old ← get_register n
  set_register n ((old + 4) % 2 ^ 32)
  through old true
base_address (Offset n offset deferred) size = do
  old ← get_register n
  through ((old + offset) % 2 ^ 32) deferred
base_address (Fixed address deferred) size = through address deferred

-- the address of an operand in memory, with the side effect of its base: the index counts operands
unfoldable pub place_address : Base → Option ℕ → (size : ℕ) → Script ℕ
place_address base None size = base_address base size
place_address base (Some x) size = do
  address ← base_address base size
  steps ← get_register x
  pure ((address + (steps * size) % 2 ^ 32) % 2 ^ 32)

-- what a register operand has: a quadword is two registers
abbrev pub register_value : (number size : ℕ) → VaxState → ℕ
register_value number size state =
    if nat_lt size 8 then low_bytes size (register number state)
    else register number state + register (min (number + 1) 255) state * 2 ^ 32

-- where an operand is, with the side effect of its specifier
unfoldable pub locate : Operand → Size → Script Location
locate (Register n) size = pure (InRegister n)
locate (Place base index) size = do
  address ← place_address base index (bytes_of size)
  pure (InMemory address)
locate Unused size = pure (InMemory 0)
locate (Value value) size = pure (InMemory 0)
locate (Target address) size = pure (InMemory 0)

-- checks with write intent, and reads
unfoldable pub modify_at : Location → Size → Script ℕ
modify_at (InRegister n) size = get (λ state. low_bytes (bytes_of size) (register_value n (bytes_of size) state))
modify_at (InMemory address) size = do
  check address (bytes_of size) true
  value ← read address (bytes_of size)
  pure (low_bytes (bytes_of size) value)

-- what a register has once a value of that size was put into it: a byte or a word keeps the upper bits
abbrev pub with_low : Size → (old value : ℕ) → ℕ
with_low Byte old value = old / 256 * 256 + value % 256
with_low Word old value = old / 65536 * 65536 + value % 65536
with_low Long old value = value % 2 ^ 32
with_low Quad old value = value % 2 ^ 32

abbrev pub put_register : ℕ → Size → ℕ → VaxState → VaxState
put_register n Quad value state = with_register (min (n + 1) 255) (value / 2 ^ 32) (with_register n (value % 2 ^ 32) state)
put_register n size value state = with_register n (with_low size (register n state) value) state

-- puts a value where an operand is, which was checked
unfoldable pub put : Location → Size → ℕ → Script (Unit {0})
put (InRegister n) size value = change (put_register n size value)
put (InMemory address) size value = write address (bytes_of size) value

-- checks where an operand is, and puts a value there
unfoldable pub store : Location → Size → ℕ → Script (Unit {0})
store (InRegister n) size value = put (InRegister n) size value
store (InMemory address) size value = do
  check address (bytes_of size) true
  put (InMemory address) size value
