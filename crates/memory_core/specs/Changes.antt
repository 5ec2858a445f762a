-- What an access makes of its quadword.
use Rattle.std.specs.Prelude.{◌≡◌, ◌<◌, ◌+◌, ◌-◌, ◌*◌, ◌/◌, ◌%◌, ◌^◌, ◌==◌, ◌||◌, ℕ, Bool, true, false, if◌then◌else◌, bit_and, bit_or}
use Rattle.std.specs.Int.{bit_at}
use Rattle.memory_core.specs.declared.entry.Kind.{Kind}
use Rattle.memory_core.specs.declared.entry.Kind.TheVariants.{Load, LoadLocked, Store, StoreConditional, TieRead, TieWrite, TieLocked, Put, Get}
use Rattle.memory_core.specs.declared.entry.Change.{Change}
use Rattle.memory_core.specs.declared.entry.Change.TheVariants.{Nothing, Bytes, AddWord, SetBit, ClearBit, Byte}
use Rattle.memory_core.specs.Bytes.{with_bytes, word_at}

abbrev pub changed : Change → ℕ → ℕ
changed Nothing before = before
changed (Bytes mask value) before = with_bytes mask value before
changed (AddWord at value) before =
    with_bytes (3 * 2 ^ at) ((word_at at before + value) % 2 ^ 16 * 2 ^ (8 * at)) before
changed (SetBit n) before = bit_or before (2 ^ n)
changed (ClearBit n) before = bit_and before (2 ^ 64 - 1 - 2 ^ n)
changed (Byte b) before = b

abbrev pub is_nothing : Change → Bool
is_nothing Nothing = true
is_nothing _ = false

abbrev pub is_bytes : Change → Bool
is_bytes (Bytes mask value) = true
is_bytes _ = false

-- a read-modify-write: ADAWI, BBSSI, BBCCI
abbrev pub is_interlocked : Change → Bool
is_interlocked (AddWord at value) = true
is_interlocked (SetBit n) = true
is_interlocked (ClearBit n) = true
is_interlocked _ = false

abbrev pub is_byte : Change → Bool
is_byte (Byte b) = true
is_byte _ = false

-- the changes of each kind of access
abbrev pub is_change_of : Kind → Change → Bool
is_change_of Load change = is_nothing change
is_change_of LoadLocked change = is_nothing change
is_change_of Store change = is_bytes change
is_change_of StoreConditional change = is_bytes change
is_change_of TieRead change = is_nothing change
is_change_of TieWrite change = is_bytes change
is_change_of TieLocked change = is_interlocked change
is_change_of Put change = is_byte change
is_change_of Get change = is_nothing change

-- a word stands at an even byte
abbrev pub IsInRange : Change → Type 0
IsInRange Nothing = Unit {0}
IsInRange (Bytes mask value) = (mask < 2 ^ 8) × (value < 2 ^ 64)
IsInRange (AddWord at value) = (at < 8) × (at % 2 ≡ 0) × (value < 2 ^ 16)
IsInRange (SetBit n) = n < 64
IsInRange (ClearBit n) = n < 64
IsInRange (Byte b) = b < 2 ^ 8

pub record Allows (kind : Kind) (change : Change) : Type 0 where
  pub fits : is_change_of kind change ≡ true
  pub range : IsInRange change

-- what an access of the kind leaves, where it makes the change and a store conditional has this success
abbrev pub leaves : Kind → (success : Bool) → Change → (before : ℕ) → ℕ
leaves Load success change before = before
leaves LoadLocked success change before = before
leaves Store success change before = changed change before
leaves StoreConditional success change before = if success then changed change before else before
leaves TieRead success change before = before
leaves TieWrite success change before = changed change before
leaves TieLocked success change before = changed change before
leaves Put success change before = changed change before
leaves Get success change before = before

-- the bytes of the quadword that a change names
abbrev pub touches : Change → ℕ → Bool
touches Nothing at = false
touches (Bytes mask value) at = bit_at mask at == 1
touches (AddWord place value) at = (at == place) || (at == place + 1)
touches (SetBit n) at = at == n / 8
touches (ClearBit n) at = at == n / 8
touches (Byte b) at = true
