-- The rows of the memory format.
-- Alpha Architecture Reference Manual, 4.2 "Memory Integer Load/Store Instructions"; the entry is named at each.
use Rattle.std.specs.Prelude.{ℕ, ℤ, Bool, true, false, ◌*◌, ◌/◌, ◌%◌, ◌^◌, Option, Some, None, if◌then◌else◌}
use Rattle.std.specs.Int.{cast_unsigned, w64}
use Rattle.vt_words.specs.Quad.{sign_extended}
use Rattle.alpha_encode.specs.declared.instr.MemoryOp.{MemoryOp}
use Rattle.alpha_encode.specs.declared.instr.MemoryOp.TheVariants as row
use Rattle.alpha_meaning.specs.declared.access.AlphaKind.{AlphaKind}
use Rattle.alpha_meaning.specs.declared.access.AlphaKind.TheVariants.{Load, LoadLocked, Store, StoreConditional}
use Rattle.alpha_meaning.specs.declared.access.AlphaAccess.{AlphaAccess}
use Rattle.alpha_meaning.specs.declared.access.Extension.{Extension}
use Rattle.alpha_meaning.specs.declared.access.Extension.TheVariants.{Zero, Sign}
use Rattle.alpha_meaning.specs.Result.{plus, times}

-- the kind of access; LDA and LDAH make none, and leave the address in Ra
abbrev pub kind_of : MemoryOp → Option AlphaKind
kind_of row.Lda = None  -- Load Address
kind_of row.Ldah = None
kind_of row.Ldbu = Some Load  -- Load Zero-Extended Byte from Memory to Register
kind_of row.Ldwu = Some Load
kind_of row.LdqU = Some Load  -- Load Quadword Unaligned
kind_of row.Ldl = Some Load  -- Load Memory Data into Integer Register
kind_of row.Ldq = Some Load
kind_of row.LdlL = Some LoadLocked  -- Load Memory Data into Integer Register Locked
kind_of row.LdqL = Some LoadLocked
kind_of row.Stb = Some Store  -- Store Low Byte from Register to Memory
kind_of row.Stw = Some Store
kind_of row.Stl = Some Store  -- Store Integer Register Data into Memory
kind_of row.Stq = Some Store
kind_of row.StlC = Some StoreConditional  -- Store Integer Register Data into Memory Conditional
kind_of row.StqC = Some StoreConditional

-- the number of bytes of the access, and what its address is a multiple of: accesses are naturally aligned
abbrev pub bytes_of : MemoryOp → ℕ
bytes_of row.Ldbu = 1
bytes_of row.Stb = 1
bytes_of row.Ldwu = 2
bytes_of row.Stw = 2
bytes_of row.Ldl = 4
bytes_of row.LdlL = 4
bytes_of row.Stl = 4
bytes_of row.StlC = 4
bytes_of op = 8

-- how loaded bytes fill the register: SEXT for a longword
abbrev pub extension_of : MemoryOp → Extension
extension_of row.Ldl = Sign
extension_of row.LdlL = Sign
extension_of op = Zero

-- LDQ_U drops the low three bits of the address
abbrev pub drops_low_bits : MemoryOp → Bool
drops_low_bits row.LdqU = true
drops_low_bits op = false

-- what the displacement is multiplied by, for Load Address High
abbrev pub scale_of : MemoryOp → ℕ
scale_of row.Ldah = 65536
scale_of op = 1

-- Rbv + SEXT(disp), in bytes
abbrev pub address_of : MemoryOp → (base : ℕ) (disp : ℤ) → ℕ
address_of op base disp =
    let sum = plus base (times (cast_unsigned w64 disp) (scale_of op)) in
    if drops_low_bits op then sum / 8 * 8 else sum

-- whether an access writes memory, where it succeeds
abbrev pub stores : AlphaKind → Bool
stores Load = false
stores LoadLocked = false
stores Store = true
stores StoreConditional = true

-- the access: a store has the low bytes of Ra
abbrev pub access_of : MemoryOp → AlphaKind → (address register : ℕ) → AlphaAccess
access_of op kind address register = record {
  kind = kind;
  address = address;
  bytes = bytes_of op;
  value = if stores kind then register % 2 ^ (8 * bytes_of op) else 0;
}

-- the register for loaded bytes
abbrev pub extended : Extension → (bytes value : ℕ) → ℕ
extended Zero bytes value = value
extended Sign bytes value = sign_extended value (8 * bytes)
