-- Operand specifiers as MACRO writes them, each with the number of its bytes.
-- VAX MACRO and Instruction Set Reference Manual, "Addressing Modes"; numbers are hexadecimal, with no prefix.
use Rattle.std.specs.Prelude.{ℕ, ◌+◌, ◌-◌, ◌%◌, ◌||◌, nat_lt, nat_le, Bool, false, if◌then◌else◌}
use Rattle.std.specs.Prelude.{List, [], ◌∷◌, ◌++◌, codes, take, slice_index_or, Option, Some, None}
use Rattle.array_text.specs.Hexadecimal.{hexadecimal}
use Rattle.vax_form.specs.Size.{bytes_of}
use Rattle.vax_form.specs.Grammar.{extended, number, wrapped}
use Rattle.vax_form.specs.GrammarModes.{extension_size, mode_of}
use Rattle.vax_form.specs.declared.mode.Mode.{Mode}
use Rattle.vax_form.specs.declared.mode.Mode.TheVariants as mode
use Rattle.vax_form.specs.declared.instr.Size.{Size}
use Rattle.vax_form.specs.declared.instr.Size.TheVariants.{Byte, Word, Long, Quad}
use Rattle.vax_form.specs.declared.instr.Access.{Access}
use Rattle.vax_form.specs.declared.instr.Access.TheVariants.{Branch}

-- ---- registers

abbrev pub register_names : List (List ℕ)
register_names =
    codes "R0" ∷ codes "R1" ∷ codes "R2" ∷ codes "R3" ∷ codes "R4" ∷ codes "R5" ∷ codes "R6" ∷ codes "R7"
    ∷ codes "R8" ∷ codes "R9" ∷ codes "R10" ∷ codes "R11" ∷ codes "AP" ∷ codes "FP" ∷ codes "SP" ∷ codes "PC" ∷ []

abbrev pub register_name : ℕ → List ℕ
register_name n = slice_index_or register_names n []

-- (R4)
abbrev pub in_parentheses : ℕ → List ℕ
in_parentheses n = codes "(" ++ register_name n ++ codes ")"

-- [R4]
abbrev pub in_brackets : ℕ → List ℕ
in_brackets n = codes "[" ++ register_name n ++ codes "]"

-- ---- numbers

-- a longword with its sign
abbrev pub signed_text : ℕ → List ℕ
signed_text n = if nat_lt n 0x8000_0000 then hexadecimal n else codes "-" ++ hexadecimal (0x1_0000_0000 - n)

-- the mark of a displacement of that width
abbrev pub width_mark : Size → List ℕ
width_mark Byte = codes "B^"
width_mark Word = codes "W^"
width_mark Long = codes "L^"
width_mark Quad = []

-- whether a displacement of a shorter form holds that longword, too
abbrev pub has_shorter : Size → ℕ → Bool
has_shorter Byte n = false
has_shorter Word n = nat_lt n 0x80 || nat_le 0xFFFF_FF80 n
has_shorter Long n = nat_lt n 0x8000 || nat_le 0xFFFF_8000 n
has_shorter Quad n = false

-- ---- addressing modes

abbrev pub deferred_mark : Bool → List ℕ
deferred_mark is_deferred = if is_deferred then codes "@" else []

-- the mark of an immediate that a short literal holds, too
abbrev pub immediate_mark : ℕ → List ℕ
immediate_mark value = if nat_lt value 0x40 then codes "I^" else []

abbrev pub literal_text : ℕ → List ℕ
literal_text value = codes "#" ++ hexadecimal value

abbrev pub immediate_text : ℕ → List ℕ
immediate_text value = immediate_mark value ++ literal_text value

abbrev pub displacement_mark : Size → ℕ → List ℕ
displacement_mark size n = if has_shorter size n then width_mark size else []

abbrev pub displacement_text : Size → Bool → (n displacement : ℕ) → List ℕ
displacement_text size is_deferred n displacement =
    deferred_mark is_deferred ++ displacement_mark size displacement ++ signed_text displacement ++ in_parentheses n

abbrev pub relative_text : Size → Bool → (address : ℕ) → List ℕ
relative_text size is_deferred address = deferred_mark is_deferred ++ width_mark size ++ hexadecimal address

-- The text of a mode, one line for each, by the first byte of its specifier, the number behind it, and the address behind
-- the specifier.
unfoldable pub mode_text : (first value behind : ℕ) → Mode → List ℕ
mode_text first value behind mode.Literal = literal_text first
mode_text first value behind mode.Index = []
mode_text first value behind mode.Register = register_name (first % 16)
mode_text first value behind mode.Deferred = in_parentheses (first % 16)
mode_text first value behind mode.Decrement = codes "-" ++ in_parentheses (first % 16)
mode_text first value behind mode.Increment = in_parentheses (first % 16) ++ codes "+"
mode_text first value behind mode.IncrementDeferred = codes "@" ++ in_parentheses (first % 16) ++ codes "+"
mode_text first value behind mode.Immediate = immediate_text value
mode_text first value behind mode.Absolute = codes "@#" ++ hexadecimal value
mode_text first value behind (mode.Displacement size is_deferred) = displacement_text size is_deferred (first % 16) (extended size value)
mode_text first value behind (mode.Relative size is_deferred) = relative_text size is_deferred (wrapped (behind + extended size value))
mode_text first value behind mode.Reserved = []

-- ---- specifiers

-- how many bytes there are behind the first one
abbrev pub extension_bytes : Option Size → ℕ
extension_bytes None = 0
extension_bytes (Some size) = bytes_of size

-- a specifier with that first byte, and no index
abbrev pub plain_of : (at first count : ℕ) → Mode → List ℕ → List ℕ × ℕ
plain_of at first count m rest = (mode_text first (number (take count rest)) (wrapped (at + 1 + count)) m, 1 + count)

unfoldable pub plain : Size → (at first : ℕ) → Mode → List ℕ → List ℕ × ℕ
plain size at first m rest = plain_of at first (extension_bytes (extension_size size m)) m rest

-- what an index byte stands before
unfoldable pub base : Size → (at : ℕ) → List ℕ → List ℕ × ℕ
base size at [] = ([], 0)
base size at (first ∷ rest) = plain size at first (mode_of first) rest

-- a base, and behind it the index
abbrev pub with_index : (n : ℕ) → List ℕ × ℕ → List ℕ × ℕ
with_index n b = (b.0 ++ in_brackets n, 1 + b.1)

unfoldable pub by_mode : Size → (at first : ℕ) → Mode → List ℕ → List ℕ × ℕ
by_mode size at first mode.Index rest = with_index (first % 16) (base size (wrapped (at + 1)) rest)
by_mode size at first m rest = plain size at first m rest

unfoldable pub general : Size → (at : ℕ) → List ℕ → List ℕ × ℕ
general size at [] = ([], 0)
general size at (first ∷ rest) = by_mode size at first (mode_of first) rest

-- the address that a branch displacement names
unfoldable pub target : Size → (at : ℕ) → List ℕ → List ℕ × ℕ
target size at bytes = (hexadecimal (wrapped (at + bytes_of size + extended size (number (take (bytes_of size) bytes)))), bytes_of size)

unfoldable pub specifier : Access → Size → (at : ℕ) → List ℕ → List ℕ × ℕ
specifier Branch size at bytes = target size at bytes
specifier access size at bytes = general size at bytes
