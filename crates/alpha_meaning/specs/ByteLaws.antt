-- What the byte instructions do to an operand in memory, by the address of its first byte.
-- Alpha Architecture Reference Manual, 4.6 "Byte Manipulation Instructions": the sequences that load and store
-- unaligned operands rest on these.
use Rattle.std.specs.Prelude.{ℕ, ◌≡◌, ◌+◌, ◌-◌, ◌*◌, ◌/◌, ◌%◌, ◌^◌, ◌<◌, ◌≤◌, bit_or}
use Rattle.vt_words.specs.Quad.{field_of, with_field_of, crossing}
use Rattle.alpha_encode.specs.declared.instr.OperateOp.{OperateOp}
use Rattle.alpha_meaning.specs.Result.{result_of}

-- EXTxL gives the operand's bytes that lie in the quadword
abbrev pub Extracts : (low : OperateOp) (count : ℕ) → Type 0
Extracts low count = (quad address held : ℕ) → quad < 2 ^ 64 → result_of low quad address held ≡ field_of quad (address % 8) count

-- EXTxL of the first quadword and EXTxH of the second together give the operand that crosses from one to the other
abbrev pub Joins : (low high : OperateOp) (count : ℕ) → Type 0
Joins low high count = (first second address held : ℕ) → first < 2 ^ 64 → 8 < address % 8 + count
    → bit_or (result_of low first address held) (result_of high second address held) ≡ crossing first second (address % 8) count

-- INSxL of a value and MSKxL of the quadword together replace just the operand's bytes, where it lies in the quadword
abbrev pub Replaces : (insert mask : OperateOp) (count : ℕ) → Type 0
Replaces insert mask count = (quad value address held : ℕ) → quad < 2 ^ 64 → address % 8 + count ≤ 8
    → bit_or (result_of insert value address held) (result_of mask quad address held) ≡ with_field_of quad (address % 8) count value

-- where it crosses, they replace just its bytes in the first quadword
abbrev pub ReplacesFirst : (insert mask : OperateOp) (count : ℕ) → Type 0
ReplacesFirst insert mask count = (quad value address held : ℕ) → quad < 2 ^ 64 → 8 < address % 8 + count
    → bit_or (result_of insert value address held) (result_of mask quad address held) ≡ with_field_of quad (address % 8) (8 - address % 8) value

-- and INSxH and MSKxH replace just its bytes in the second
abbrev pub ReplacesSecond : (insert mask : OperateOp) (count : ℕ) → Type 0
ReplacesSecond insert mask count = (quad value address held : ℕ) → quad < 2 ^ 64 → 8 < address % 8 + count
    → bit_or (result_of insert value address held) (result_of mask quad address held) ≡ with_field_of quad 0 (address % 8 + count - 8) (value / 2 ^ (8 * (8 - address % 8)))
