-- Instructions as lists of bytes: which list spells which instruction, and which lists show that none stands there.
-- VAX Architecture Reference Manual, "Instruction Formats" and "Operand Specifiers".
use Rattle.std.specs.Prelude.{◌≡◌, ◌≢◌, ℕ, ◌+◌, ◌-◌, ◌*◌, ◌<◌, ◌%◌, ◌^◌, ◌⊎◌, Bool, false, if◌then◌else◌}
use Rattle.std.specs.Prelude.{List, [], ◌∷◌, ◌++◌, length, replicate, nat_lt, Some, None}
use Rattle.vax_form.specs.Size.{bytes_of}
use Rattle.vax_form.specs.GrammarRows.{operand_types}
use Rattle.vax_form.specs.declared.instr.Size.{Size}
use Rattle.vax_form.specs.declared.instr.Size.TheVariants.{Byte, Word, Long, Quad}
use Rattle.vax_form.specs.declared.instr.Access.{Access}
use Rattle.vax_form.specs.declared.instr.Access.TheVariants.{Read, Write, Modify, Address, Field, Branch}
use Rattle.vax_form.specs.declared.instr.Base.{Base}
use Rattle.vax_form.specs.declared.instr.Base.TheVariants.{Deferred, Decrement, Increment, IncrementDeferred, Offset, Fixed}
use Rattle.vax_form.specs.declared.instr.Operand.{Operand}
use Rattle.vax_form.specs.declared.instr.Operand.TheVariants.{Unused, Value, Register, Place, Target}
use Rattle.vax_form.specs.declared.instr.Instr.{Instr}

-- ---- numbers in the code

-- bytes as a number, the lowest first
abbrev pub number : List ℕ → ℕ
number [] = 0
number (b ∷ bs) = b + 256 * number bs

-- addresses are taken modulo 2^32
abbrev pub wrapped : ℕ → ℕ
wrapped n = n % 2 ^ 32

-- a displacement of that size, sign-extended to a longword
abbrev pub extended : Size → ℕ → ℕ
extended Byte d = if nat_lt d 0x80 then d else d + 0xFFFF_FF00
extended Word d = if nat_lt d 0x8000 then d else d + 0xFFFF_0000
extended Long d = d
extended Quad d = d % 2 ^ 32

-- ---- one operand specifier

-- the first byte of a displacement mode with register n; its deferred mode is 10 higher
abbrev pub first_byte : ℕ → Bool → ℕ → ℕ
first_byte mode is_deferred n = (if is_deferred then mode + 0x10 else mode) + n

-- The bytes, from that address on, say where an operand of that size lies in memory: one line for each addressing mode
-- that does.
pub data Locates (size : Size) (at : ℕ) (bytes : List ℕ) (base : Base) : Type 0 where
  deferred : (n : ℕ) → n < 15 → bytes ≡ (0x60 + n) ∷ [] → base ≡ Deferred n → Locates size at bytes base
  decrement : (n : ℕ) → n < 15 → bytes ≡ (0x70 + n) ∷ [] → base ≡ Decrement n → Locates size at bytes base
  increment : (n : ℕ) → n < 15 → bytes ≡ (0x80 + n) ∷ [] → base ≡ Increment n → Locates size at bytes base
  increment_deferred : (n : ℕ) → n < 15 → bytes ≡ (0x90 + n) ∷ [] → base ≡ IncrementDeferred n
      → Locates size at bytes base
  absolute : (d : List ℕ) → length d ≡ 4 → bytes ≡ 0x9F ∷ d → base ≡ Fixed (number d) false
      → Locates size at bytes base
  byte_displacement : (n : ℕ) (is_deferred : Bool) (d : List ℕ) → n < 15 → length d ≡ 1
      → bytes ≡ first_byte 0xA0 is_deferred n ∷ d → base ≡ Offset n (extended Byte (number d)) is_deferred
      → Locates size at bytes base
  word_displacement : (n : ℕ) (is_deferred : Bool) (d : List ℕ) → n < 15 → length d ≡ 2
      → bytes ≡ first_byte 0xC0 is_deferred n ∷ d → base ≡ Offset n (extended Word (number d)) is_deferred
      → Locates size at bytes base
  long_displacement : (n : ℕ) (is_deferred : Bool) (d : List ℕ) → n < 15 → length d ≡ 4
      → bytes ≡ first_byte 0xE0 is_deferred n ∷ d → base ≡ Offset n (extended Long (number d)) is_deferred
      → Locates size at bytes base
  byte_relative : (is_deferred : Bool) (d : List ℕ) → length d ≡ 1 → bytes ≡ first_byte 0xA0 is_deferred 15 ∷ d
      → base ≡ Fixed (wrapped (at + length bytes + extended Byte (number d))) is_deferred → Locates size at bytes base
  word_relative : (is_deferred : Bool) (d : List ℕ) → length d ≡ 2 → bytes ≡ first_byte 0xC0 is_deferred 15 ∷ d
      → base ≡ Fixed (wrapped (at + length bytes + extended Word (number d))) is_deferred → Locates size at bytes base
  long_relative : (is_deferred : Bool) (d : List ℕ) → length d ≡ 4 → bytes ≡ first_byte 0xE0 is_deferred 15 ∷ d
      → base ≡ Fixed (wrapped (at + length bytes + extended Long (number d))) is_deferred → Locates size at bytes base

-- evaluating the base changes that register
abbrev pub Steps : Base → ℕ → Type 0
Steps (Decrement n) x = n ≡ x
Steps (Increment n) x = n ≡ x
Steps (IncrementDeferred n) x = n ≡ x
Steps (Deferred n) x = ⊥
Steps (Offset n offset is_deferred) x = ⊥
Steps (Fixed address is_deferred) x = ⊥

-- A quadword in registers takes Rn and the next one, which R14 lacks.
abbrev pub HasRegister : Size → ℕ → Type 0
HasRegister Quad n = n < 14
HasRegister Byte n = n < 15
HasRegister Word n = n < 15
HasRegister Long n = n < 15

-- The bytes, from that address on, are a specifier of an operand that is used in that way and has that size.
pub data Describes (access : Access) (size : Size) (at : ℕ) (bytes : List ℕ) (operand : Operand) : Type 0 where
  literal : (v : ℕ) → v < 0x40 → access ≡ Read → bytes ≡ v ∷ [] → operand ≡ Value v
      → Describes access size at bytes operand
  register : (n : ℕ) → HasRegister size n → access ≢ Address → bytes ≡ (0x50 + n) ∷ [] → operand ≡ Register n
      → Describes access size at bytes operand
  immediate : (d : List ℕ) → length d ≡ bytes_of size → access ≡ Read → bytes ≡ 0x8F ∷ d
      → operand ≡ Value (number d) → Describes access size at bytes operand
  constant_address : (d : List ℕ) → length d ≡ bytes_of size → (access ≡ Address) ⊎ (access ≡ Field)
      → bytes ≡ 0x8F ∷ d → operand ≡ Place (Fixed (wrapped (at + 1)) false) None
      → Describes access size at bytes operand
  place : (base : Base) → Locates size at bytes base → operand ≡ Place base None
      → Describes access size at bytes operand
  indexed : (x : ℕ) (base : Base) (more : List ℕ) → x < 15 → Locates size (at + 1) more base → ¬ Steps base x
      → bytes ≡ (0x40 + x) ∷ more → operand ≡ Place base (Some x) → Describes access size at bytes operand

-- a branch displacement counts from the address behind it
abbrev pub Displaces : Size → ℕ → List ℕ → Operand → Type 0
Displaces size at bytes operand = (length bytes ≡ bytes_of size)
    × (operand ≡ Target (wrapped (at + length bytes + extended size (number bytes))))

-- the bytes, from that address on, spell the operand
abbrev pub Specifies : Access → Size → ℕ → List ℕ → Operand → Type 0
Specifies Branch size at bytes operand = Displaces size at bytes operand
Specifies access size at bytes operand = Describes access size at bytes operand

-- that byte may not follow an index byte of register x
pub data IsReservedBase (x byte : ℕ) : Type 0 where
  literal : byte < 0x40 → IsReservedBase x byte
  index : (n : ℕ) → n < 16 → byte ≡ 0x40 + n → IsReservedBase x byte
  register : (n : ℕ) → n < 16 → byte ≡ 0x50 + n → IsReservedBase x byte
  deferred_pc : byte ≡ 0x6F → IsReservedBase x byte
  decrement_pc : byte ≡ 0x7F → IsReservedBase x byte
  immediate : byte ≡ 0x8F → IsReservedBase x byte
  steps_down : byte ≡ 0x70 + x → IsReservedBase x byte
  steps_up : byte ≡ 0x80 + x → IsReservedBase x byte
  steps_up_deferred : byte ≡ 0x90 + x → IsReservedBase x byte

-- The last byte shows a reserved addressing mode.
pub data ShowsReserved (access : Access) (size : Size) (bytes : List ℕ) : Type 0 where
  literal : (v : ℕ) → v < 0x40 → access ≢ Read → bytes ≡ v ∷ [] → ShowsReserved access size bytes
  index_pc : bytes ≡ 0x4F ∷ [] → ShowsReserved access size bytes
  register_pc : bytes ≡ 0x5F ∷ [] → ShowsReserved access size bytes
  deferred_pc : bytes ≡ 0x6F ∷ [] → ShowsReserved access size bytes
  decrement_pc : bytes ≡ 0x7F ∷ [] → ShowsReserved access size bytes
  register_address : (n : ℕ) → n < 16 → access ≡ Address → bytes ≡ (0x50 + n) ∷ [] → ShowsReserved access size bytes
  quad_in_r14 : size ≡ Quad → bytes ≡ 0x5E ∷ [] → ShowsReserved access size bytes
  stored_immediate : (access ≡ Write) ⊎ (access ≡ Modify) → bytes ≡ 0x8F ∷ [] → ShowsReserved access size bytes
  base : (x byte : ℕ) → x < 15 → IsReservedBase x byte → bytes ≡ (0x40 + x) ∷ byte ∷ []
      → ShowsReserved access size bytes

-- a branch displacement has no mode
abbrev pub ShowsReservedMode : Access → Size → List ℕ → Type 0
ShowsReservedMode Branch size bytes = ⊥
ShowsReservedMode access size bytes = ShowsReserved access size bytes

-- ---- a whole instruction

-- the specifiers of operands of these types, one behind the other
abbrev pub SpecifyAll : List (Access × Size) → ℕ → List ℕ → List Operand → Type 0
SpecifyAll [] at bytes operands = (bytes ≡ []) × (operands ≡ [])
SpecifyAll (t ∷ types) at bytes operands =
    (first rest : List ℕ) × (operand : Operand) × (others : List Operand) × (bytes ≡ first ++ rest)
    × (operands ≡ operand ∷ others) × Specifies t.0 t.1 at first operand
    × SpecifyAll types (at + length first) rest others

-- some specifiers, and then bytes whose last shows a reserved addressing mode
abbrev pub EndReserved : List (Access × Size) → ℕ → List ℕ → Type 0
EndReserved [] at bytes = ⊥
EndReserved (t ∷ types) at bytes = ShowsReservedMode t.0 t.1 bytes
    ⊎ ((first rest : List ℕ) × (operand : Operand) × (bytes ≡ first ++ rest) × Specifies t.0 t.1 at first operand
    × EndReserved types (at + length first) rest)

-- the places behind the operands hold none
abbrev pub padded : List Operand → List Operand
padded operands = operands ++ replicate (6 - length operands) Unused

-- The list spells the instruction at that address: its opcode, its specifiers, and nothing behind them.
pub record Spells (at : ℕ) (bytes : List ℕ) (instr : Instr) : Type 0 where
  pub opcode : ℕ
  pub types : List (Access × Size)
  pub rest : List ℕ
  pub operands : List Operand
  pub is_opcode : operand_types opcode ≡ Some types
  pub are_bytes : bytes ≡ opcode ∷ rest
  pub are_operands : SpecifyAll types (at + 1) rest operands
  pub is_instr : instr ≡ record {
    at = at;
    opcode = opcode;
    count = length types;
    operands = padded operands;
    after = wrapped (at + length bytes);
  }

-- one byte, an opcode that is reserved
abbrev pub IsReserved : List ℕ → Type 0
IsReserved bytes = (opcode : ℕ) × (operand_types opcode ≡ None) × (bytes ≡ opcode ∷ [])

-- an opcode, perhaps some specifiers, and a byte that shows a reserved addressing mode
pub record IsBad (at : ℕ) (bytes : List ℕ) : Type 0 where
  pub opcode : ℕ
  pub types : List (Access × Size)
  pub rest : List ℕ
  pub is_opcode : operand_types opcode ≡ Some types
  pub are_bytes : bytes ≡ opcode ∷ rest
  pub are_reserved : EndReserved types (at + 1) rest

-- some instruction is decoded from a list of bytes at its address
abbrev pub IsSpelled : Instr → Type 0
IsSpelled instr = (bytes : List ℕ) × Spells instr.at bytes instr

-- ---- what stands at an address

pub data Found : Type 0 where
  instruction : Instr → Found
  reserved_instruction : Found
  reserved_mode : Found
  -- the code ends, and this is the address of the first byte that can't be fetched
  past : ℕ → Found

-- the list, whole, shows what stands at that address
abbrev pub Decides : ℕ → List ℕ → Found → Type 0
Decides at bytes (instruction instr) = Spells at bytes instr
Decides at bytes reserved_instruction = IsReserved bytes
Decides at bytes reserved_mode = IsBad at bytes
Decides at bytes (past address) = ⊥
