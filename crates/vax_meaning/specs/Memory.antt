-- Operands in memory. One that crosses an aligned quadword is read and written in two parts.
-- VAX Architecture Reference Manual, "Memory": the low byte of a value has the lowest address.
use Rattle.std.specs.Prelude.{ℕ, ◌+◌, ◌-◌, ◌*◌, ◌/◌, ◌%◌, ◌^◌, min, nat_lt, Bool, false}
use Rattle.vax_form.specs.declared.state.RefKind.{RefKind}
use Rattle.vax_form.specs.declared.state.RefKind.TheVariants.{Read, Write}
use Rattle.vax_form.specs.Script.{Script, ◌>>=◌, ◌>>◌, pure, ask, check_bytes, read_code, when◌then◌else◌}

-- the value of the low bytes
abbrev pub low_bytes : ℕ → ℕ → ℕ
low_bytes bytes value = value % 2 ^ (8 * bytes)

-- how many of the bytes from the address on stand in its aligned quadword
abbrev pub front_count : (address count : ℕ) → ℕ
front_count address count = min count (8 - address % 8)

-- where the others begin
abbrev pub next_part : (address count : ℕ) → ℕ
next_part address count = (address + front_count address count) % 2 ^ 32

abbrev pub check : (address count : ℕ) → (write : Bool) → Script (Unit {0})
check address count write = check_bytes address count write

abbrev pub read_part : (address count : ℕ) → Script ℕ
read_part address count = do
  reply ← ask (record { address = address; count = count; kind = Read })
  pure (low_bytes count reply)

-- reads bytes that were checked
unfoldable pub read : (address count : ℕ) → Script ℕ
read address count = do
  low ← read_part address (front_count address count)
  when nat_lt (front_count address count) count
      then (do
        high ← read_part (next_part address count) (count - front_count address count)
        pure (low + high * 2 ^ (8 * front_count address count)))
      else pure low

abbrev pub write_part : (address count value : ℕ) → Script (Unit {0})
write_part address count value = do
  _ ← ask (record { address = address; count = count; kind = Write (low_bytes count value) })
  pure tt

-- writes bytes that were checked
unfoldable pub write : (address count value : ℕ) → Script (Unit {0})
write address count value = do
  write_part address (front_count address count) value
  when nat_lt (front_count address count) count
      then write_part (next_part address count) (count - front_count address count) (value / 2 ^ (8 * front_count address count))
      else pure tt

-- checks and reads an operand in memory
abbrev pub fetch : (address count : ℕ) → Script ℕ
fetch address count = do
  check address count false
  read address count

-- one interlocked reference, within an aligned quadword
abbrev pub lock : (address count : ℕ) → RefKind → Script ℕ
lock address count kind = do
  reply ← ask (record { address = address; count = count; kind = kind })
  pure (low_bytes count reply)

-- a word of the code
unfoldable pub code_word : (address : ℕ) → Script ℕ
code_word address = do
  low ← read_code address
  high ← read_code ((address + 1) % 2 ^ 32)
  pure (low + high * 256)
