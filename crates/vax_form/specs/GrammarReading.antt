-- Reading an instruction from the front of a list of bytes, one byte after the other. None: more bytes are wanted.
use Rattle.std.specs.Prelude.{ℕ, ◌+◌, ◌%◌, nat_le, if◌then◌else◌}
use Rattle.std.specs.Prelude.{List, [], ◌∷◌, length, take, drop, Option, Some, None, option_map}
use Rattle.vax_form.specs.Size.{bytes_of}
use Rattle.vax_form.specs.Grammar.{Found, extended, instruction, number, padded, reserved_instruction, reserved_mode, wrapped}
use Rattle.vax_form.specs.GrammarModes.{base_of, extension_size, is_reserved_base, is_reserved_mode, mode_of, operand_of}
use Rattle.vax_form.specs.GrammarRows.{operand_types}
use Rattle.vax_form.specs.declared.mode.Mode.{Mode}
use Rattle.vax_form.specs.declared.mode.Mode.TheVariants as mode
use Rattle.vax_form.specs.declared.instr.Size.{Size}
use Rattle.vax_form.specs.declared.instr.Access.{Access}
use Rattle.vax_form.specs.declared.instr.Access.TheVariants.{Branch}
use Rattle.vax_form.specs.declared.instr.Operand.{Operand}
use Rattle.vax_form.specs.declared.instr.Operand.TheVariants.{Place, Target}

-- what is read where the bytes suffice, unless a reserved addressing mode is shown first
pub data Shown (X : Type 0) : Type 0 where
  complete : X → Shown X
  reserved : Shown X

-- ---- one operand specifier

-- a number of that size, and how many bytes it has
unfoldable pub read_number : Size → List ℕ → Option ℕ
read_number size bytes =
    if nat_le (bytes_of size) (length bytes) then Some (number (take (bytes_of size) bytes)) else None

-- the number behind a first byte, where there is one, and how many bytes it has
unfoldable pub read_extension : Option Size → List ℕ → Option (ℕ × ℕ)
read_extension None bytes = Some (0, 0)
read_extension (Some size) bytes = option_map (λ value. (value, bytes_of size)) (read_number size bytes)

-- a base behind the index byte of register x; at is the address of the base
unfoldable pub read_base : Size → ℕ → ℕ → List ℕ → Option (Shown Operand × ℕ)
read_base size at x [] = None
read_base size at x (first ∷ rest) =
    let m = mode_of first in
    let n = first % 16 in
    if is_reserved_base x n m then Some (reserved, 2)
    else option_map (λ e. (complete (Place (base_of n e.0 (wrapped (at + 1)) (wrapped (at + 1 + e.1)) m) (Some x)), 2 + e.1))
    (read_extension (extension_size size m) rest)

-- a specifier that isn't indexed
unfoldable pub read_plain : Access → Size → ℕ → ℕ → Mode → List ℕ → Option (Shown Operand × ℕ)
read_plain access size at first m rest =
    if is_reserved_mode access size (first % 16) m then Some (reserved, 1)
    else option_map (λ e. (complete (operand_of access first e.0 (wrapped (at + 1)) (wrapped (at + 1 + e.1)) m), 1 + e.1))
    (read_extension (extension_size size m) rest)

unfoldable pub read_by_mode : Access → Size → ℕ → ℕ → Mode → List ℕ → Option (Shown Operand × ℕ)
read_by_mode access size at first mode.Index rest = read_base size (at + 1) (first % 16) rest
read_by_mode access size at first m rest = read_plain access size at first m rest

unfoldable pub read_general : Access → Size → ℕ → List ℕ → Option (Shown Operand × ℕ)
read_general access size at [] = None
read_general access size at (first ∷ rest) = read_by_mode access size at first (mode_of first) rest

unfoldable pub read_displacement : Size → ℕ → List ℕ → Option (Shown Operand × ℕ)
read_displacement size at bytes = option_map
    (λ value. (complete (Target (wrapped (at + bytes_of size + extended size value))), bytes_of size))
    (read_number size bytes)

-- one operand specifier at that address, and how many bytes were read
unfoldable pub read_specifier : Access → Size → ℕ → List ℕ → Option (Shown Operand × ℕ)
read_specifier Branch size at bytes = read_displacement size at bytes
read_specifier access size at bytes = read_general access size at bytes

-- ---- a whole instruction

-- an operand, of that many bytes, in front of what is read behind it
abbrev pub in_front : Operand → ℕ → Option (Shown (List Operand) × ℕ) → Option (Shown (List Operand) × ℕ)
in_front operand n None = None
in_front operand n (Some (complete operands, count)) = Some (complete (operand ∷ operands), n + count)
in_front operand n (Some (reserved, count)) = Some (reserved, n + count)

-- what is read of one operand, and then of the others, which begin after its bytes
abbrev pub followed : Option (Shown Operand × ℕ) → (ℕ → Option (Shown (List Operand) × ℕ))
    → Option (Shown (List Operand) × ℕ)
followed None others = None
followed (Some (reserved, n)) others = Some (reserved, n)
followed (Some (complete operand, n)) others = in_front operand n (others n)

-- the specifiers of operands of these types
unfoldable pub read_specifiers : List (Access × Size) → ℕ → List ℕ → Option (Shown (List Operand) × ℕ)
read_specifiers [] at bytes = Some (complete [], 0)
read_specifiers (t ∷ types) at bytes =
    followed (read_specifier t.0 t.1 at bytes) (λ n. read_specifiers types (at + n) (drop n bytes))

-- what the opcode at that address and its operands show, and how many bytes that takes
unfoldable pub instruction_of : ℕ → ℕ → ℕ → Shown (List Operand) × ℕ → Found × ℕ
instruction_of at opcode count (reserved, n) = (reserved_mode, 1 + n)
instruction_of at opcode count (complete operands, n) = (
  instruction (record {
    at = at;
    opcode = opcode;
    count = count;
    operands = padded operands;
    after = wrapped (at + (1 + n));
  }),
  1 + n,
)

unfoldable pub read_operands : ℕ → ℕ → Option (List (Access × Size)) → List ℕ → Option (Found × ℕ)
read_operands at opcode None rest = Some (reserved_instruction, 1)
read_operands at opcode (Some types) rest =
    option_map (instruction_of at opcode (length types)) (read_specifiers types (at + 1) rest)

-- the instruction at that address, or that none stands there, and how many bytes were read
unfoldable pub read_instruction : ℕ → List ℕ → Option (Found × ℕ)
read_instruction at [] = None
read_instruction at (opcode ∷ rest) = read_operands at opcode (operand_types opcode) rest
