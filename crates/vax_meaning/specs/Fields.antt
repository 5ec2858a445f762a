-- Variable-length bit fields.
-- VAX Architecture Reference Manual, "Variable-Length Bit Field Instructions"; the entry is named at each.
use Rattle.std.specs.Prelude.{ℕ, ◌+◌, ◌-◌, ◌*◌, ◌/◌, ◌%◌, ◌^◌, nat_lt, nat_le, ◌==◌, List, Bool, true, false, not, ◌&&◌, ◌||◌, if◌then◌else◌}
use Rattle.vax_form.specs.State.{SP}
use Rattle.vax_form.specs.Script.{Script, ◌>>=◌, ◌>>◌, pure, fail, when◌then◌else◌}
use Rattle.vax_form.specs.declared.instr.Size.TheVariants.{Byte, Long, Quad}
use Rattle.vax_form.specs.declared.instr.Instr.{Instr}
use Rattle.vax_form.specs.declared.operation.BitBranch.{BitBranch}
use Rattle.vax_form.specs.declared.operation.BitStore.{BitStore}
use Rattle.vax_form.specs.declared.operation.BitStore.TheVariants.{Nothing, Plain, Interlocked}
use Rattle.vax_form.specs.declared.script.End.{End}
use Rattle.vax_form.specs.declared.state.Exception.TheVariants.{ReservedOperand}
use Rattle.vax_form.specs.declared.state.RefKind.TheVariants.{SetBit, ClearBit}
use Rattle.vt_words.specs.Values.{bit}
use Rattle.vt_words.specs.Shifts.{right_shift_of}
use Rattle.vax_meaning.specs.declared.evaluation.Evaluated.{Evaluated}
use Rattle.vax_meaning.specs.declared.operands.Location.{Location}
use Rattle.vax_meaning.specs.declared.operands.Location.TheVariants.{InRegister, InMemory}
use Rattle.vax_meaning.specs.Memory.{low_bytes, check, read, write, fetch, lock}
use Rattle.vax_meaning.specs.Operands.{put}
use Rattle.vax_meaning.specs.Evaluation.{value_of_place, location_of_place}
use Rattle.vax_meaning.specs.Codes.{go_to}
use Rattle.vax_meaning.specs.Moves.{give}
use Rattle.vax_meaning.specs.Branches.{pc_after}

-- so many bits of a number, from a bit on
abbrev pub bits_of : (whole position size : ℕ) → ℕ
bits_of whole position size = whole / 2 ^ position % 2 ^ size

-- the number with these bits replaced by the lowest of a value
abbrev pub with_bits : (whole position size value : ℕ) → ℕ
with_bits whole position size value =
    whole / 2 ^ (position + size) * 2 ^ (position + size) + value % 2 ^ size * 2 ^ position + whole % 2 ^ position

-- the byte that has the first bit of a field in memory; the position is signed
abbrev pub field_address : (base position : ℕ) → ℕ
field_address base position = (base + low_bytes 4 (right_shift_of position 3)) % 2 ^ 32

-- how many bytes have bits of a field that begins at that bit of a byte
abbrev pub field_bytes : (position size : ℕ) → ℕ
field_bytes position size = (position % 8 + size + 7) / 8

-- in registers a field begins in the first one, and runs on into the next, but not from R14
abbrev pub is_outside : Location → (position size : ℕ) → Bool
is_outside (InRegister n) position size = not (size == 0) && (nat_lt 31 position || (n == SP && nat_lt 32 (position + size)))
is_outside (InMemory base) position size = false

-- the value of a field; one of size 0 makes no reference, and is 0
unfoldable pub field_value : Location → (registers position size : ℕ) → Script ℕ
field_value (InRegister n) registers position size = pure (bits_of registers (position % 32) size)
field_value (InMemory base) registers position size =
    when size == 0
    then pure 0
    else (do
      bytes ← fetch (field_address base position) (field_bytes position size)
      pure (bits_of bytes (position % 8) size))

-- a field as a longword: extended with its highest bit, or with zeros
abbrev pub extended : (signed : Bool) → (value size : ℕ) → ℕ
extended signed value size = if signed && nat_le (2 ^ (size - 1)) value then value + (2 ^ 32 - 2 ^ size) else value

-- EXTV, and EXTZV where it is not signed
unfoldable pub extract_field : Instr → (signed : Bool) → List Evaluated → Script End
extract_field instr signed values = do
  let position = value_of_place values 0 Long
  let size = value_of_place values 1 Byte
  when nat_lt 32 size || is_outside (location_of_place values 2) position size
      then fail ReservedOperand
      else (do
        value ← field_value (location_of_place values 2) (value_of_place values 2 Quad) position size
        give instr 3 Long (extended signed value size) values)

-- puts a value into bits of bytes: checked with write intent, read and then written
abbrev pub put_bytes : (address count position size value : ℕ) → Script (Unit {0})
put_bytes address count position size value = do
  check address count true
  bytes ← read address count
  write address count (with_bits bytes position size value)

-- puts a value into a field; one of size 0 makes no reference
unfoldable pub put_field : Location → (registers position size value : ℕ) → Script (Unit {0})
put_field (InRegister n) registers position size value = put (InRegister n) Quad (with_bits registers (position % 32) size value)
put_field (InMemory base) registers position size value =
    when size == 0
    then pure tt
    else put_bytes (field_address base position) (field_bytes position size) (position % 8) size value

-- INSV: the codes are kept
unfoldable pub insert_field : Instr → List Evaluated → Script End
insert_field instr values = do
  let position = value_of_place values 1 Long
  let size = value_of_place values 2 Byte
  when nat_lt 32 size || is_outside (location_of_place values 3) position size
      then fail ReservedOperand
      else (do
        put_field (location_of_place values 3) (value_of_place values 3 Quad) position size (value_of_place values 0 Long)
        go_to instr.after)

-- leaves a bit in a register
unfoldable pub leave_bit : ℕ → (registers position : ℕ) → BitStore → Script (Unit {0})
leave_bit n registers position Nothing = pure tt
leave_bit n registers position (Plain value) = put (InRegister n) Long (with_bits registers (position % 32) 1 (bit value))
leave_bit n registers position (Interlocked value) = put (InRegister n) Long (with_bits registers (position % 32) 1 (bit value))

-- the byte at an address, in which a bit is then left: checked with write intent, read and then written, or by one
-- interlocked reference
unfoldable pub byte_found : (address number : ℕ) → BitStore → Script ℕ
byte_found address number Nothing = fetch address 1
byte_found address number (Plain value) = do
  check address 1 true
  byte ← read address 1
  write address 1 (with_bits byte number 1 (bit value))
  pure byte
byte_found address number (Interlocked true) = do
  check address 1 true
  lock address 1 (SetBit number)
byte_found address number (Interlocked false) = do
  check address 1 true
  lock address 1 (ClearBit number)

-- the bit of a branch as it was found
unfoldable pub bit_found : Location → (registers position : ℕ) → BitStore → Script ℕ
bit_found (InRegister n) registers position store = do
  leave_bit n registers position store
  pure (bits_of registers (position % 32) 1)
bit_found (InMemory base) registers position store = do
  byte ← byte_found (field_address base position) (position % 8) store
  pure (bits_of byte (position % 8) 1)

-- BBS, BBC, BBSS, BBCS, BBSC, BBCC, BBSSI, BBCCI
unfoldable pub branch_on_bit : Instr → BitBranch → List Evaluated → Script End
branch_on_bit instr branch values = do
  let position = value_of_place values 0 Long
  when is_outside (location_of_place values 1) position 1
      then fail ReservedOperand
      else (do
        found ← bit_found (location_of_place values 1) (value_of_place values 1 Quad) position branch.store
        go_to (pc_after instr 2 (found == bit branch.state)))
