-- What references reply, and what they make of memory: a byte for each address. Addresses are taken modulo 2^32.
-- VAX Architecture Reference Manual, "Data Types": the lowest byte of a number stands at the lowest address.
use Rattle.std.specs.Prelude.{ℕ, zero, suc, ◌<◌, ◌≤◌, ◌+◌, ◌-◌, ◌*◌, ◌/◌, ◌%◌, ◌^◌, ◌==◌, min, if◌then◌else◌, bit_and, bit_or}
use Rattle.vax_form.specs.declared.state.Reference.{Reference}
use Rattle.vax_form.specs.declared.state.RefKind.{RefKind}
use Rattle.vax_form.specs.declared.state.RefKind.TheVariants.{Read, Write, Add, SetBit, ClearBit, Put, Get}

-- the number that so many bytes from an address on spell
abbrev pub value_at : (byte : ℕ → ℕ) → (address count : ℕ) → ℕ
value_at byte address zero = 0
value_at byte address (suc count) = byte (address % 2 ^ 32) + 256 * value_at byte (address + 1) count

-- memory with another byte at an address
abbrev pub with_byte : (byte : ℕ → ℕ) → (address value : ℕ) → ℕ → ℕ
with_byte byte address value at = if at == address then value else byte at

-- memory with the lowest bytes of a number from an address on
abbrev pub with_value : (byte : ℕ → ℕ) → (address count value : ℕ) → ℕ → ℕ
with_value byte address zero value = byte
with_value byte address (suc count) value = with_value (with_byte byte (address % 2 ^ 32) (value % 256)) (address + 1) count (value / 256)

-- what is replied, where memory is so and the input goes on with that answer. A read is zero-extended, and no
-- reply has more than eight bytes; an interlocked reference replies what was there before.
-- VAX Architecture Reference Manual, "Add Aligned Word Interlocked", "Branch on Bit Interlocked"
abbrev pub reply_by : RefKind → (byte : ℕ → ℕ) → (next_input address count : ℕ) → ℕ
reply_by Read byte next_input address count = value_at byte address (min count 8)
reply_by (Write value) byte next_input address count = 0
reply_by (Add value) byte next_input address count = value_at byte address 2
reply_by (SetBit bit) byte next_input address count = byte (address % 2 ^ 32)
reply_by (ClearBit bit) byte next_input address count = byte (address % 2 ^ 32)
reply_by (Put value) byte next_input address count = 0
reply_by Get byte next_input address count = next_input

-- memory behind the reference. A word is added to modulo 2^16, and the bits of a byte are numbered from 0 to 7
abbrev pub changed_by : RefKind → (byte : ℕ → ℕ) → (address count : ℕ) → ℕ → ℕ
changed_by Read byte address count = byte
changed_by (Write value) byte address count = with_value byte address count value
changed_by (Add value) byte address count = with_value byte address 2 ((value_at byte address 2 + value) % 2 ^ 16)
changed_by (SetBit bit) byte address count = with_byte byte (address % 2 ^ 32) (bit_or (byte (address % 2 ^ 32)) (2 ^ (bit % 8)))
changed_by (ClearBit bit) byte address count = with_byte byte (address % 2 ^ 32) (bit_and (byte (address % 2 ^ 32)) (255 - 2 ^ (bit % 8)))
changed_by (Put value) byte address count = byte
changed_by Get byte address count = byte

abbrev pub reply_of : Reference → (byte : ℕ → ℕ) → (next_input : ℕ) → ℕ
reply_of reference byte next_input = reply_by reference.kind byte next_input reference.address reference.count

abbrev pub changed : Reference → (byte : ℕ → ℕ) → ℕ → ℕ
changed reference byte = changed_by reference.kind byte reference.address reference.count

-- each address has a byte
abbrev pub AreBytes : (byte : ℕ → ℕ) → Type 0
AreBytes byte = (at : ℕ) → byte at < 256

-- how many bytes a reference names
abbrev pub byte_count_of : RefKind → (count : ℕ) → ℕ
byte_count_of Read count = count
byte_count_of (Write value) count = count
byte_count_of (Add value) count = 2
byte_count_of (SetBit bit) count = 1
byte_count_of (ClearBit bit) count = 1
byte_count_of (Put value) count = 0
byte_count_of Get count = 0

abbrev pub byte_count : Reference → ℕ
byte_count reference = byte_count_of reference.kind reference.count

abbrev pub FitsKind : RefKind → Type 0
FitsKind (SetBit bit) = bit < 8
FitsKind (ClearBit bit) = bit < 8
FitsKind _ = Unit {0}

-- a reference within one aligned quadword, and to a bit of its byte
pub record FitsQuadword (reference : Reference) : Type 0 where
  pub longword : reference.address < 2 ^ 32
  pub within : reference.address % 8 + byte_count reference ≤ 8
  pub bit : FitsKind reference.kind
