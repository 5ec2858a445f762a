-- The line of a piece.
use Rattle.std.specs.Prelude.{ℕ, ◌+◌, ◌-◌, ◌*◌, ◌&&◌, nat_le, Bool, if◌then◌else◌, List, [], ◌∷◌, ◌++◌, codes, length, map, replicate, Option, Some, None}
use Rattle.std.specs.List.{flat_map}
use Rattle.vax_form.specs.declared.instr.Instr.{Instr}
use Rattle.array_text.specs.Hexadecimal.{hexadecimal}
use Rattle.report_text.specs.Digits.{eight_digits, two_digits}
use Rattle.vax_text.specs.Text.{text_of}

abbrev pub spaced_byte : ℕ → List ℕ
spaced_byte byte = 32 ∷ two_digits byte

-- the bytes with two blanks before them, padded to 24 characters, and two blanks
abbrev pub bytes_text : List ℕ → List ℕ
bytes_text bytes = codes " " ++ flat_map spaced_byte bytes ++ replicate (25 - 3 * length bytes) 32 ++ codes "  "

-- an address, and the bytes that stand there
abbrev pub front : (address : ℕ) → List ℕ → List ℕ
front address bytes = eight_digits address ++ bytes_text bytes

-- a byte as an ASCII character, or a point
abbrev pub character : ℕ → ℕ
character byte = if nat_le 32 byte && nat_le byte 126 then byte else 46

abbrev pub interpreted_text : (has_block : Bool) → List ℕ
interpreted_text has_block = if has_block then [] else codes " ; interpreted"

abbrev pub inside_text : Option ℕ → List ℕ
inside_text None = []
inside_text (Some address) = codes " ; inside " ++ eight_digits address

abbrev pub instruction_line : List ℕ → Instr → Option ℕ → (has_block : Bool) → List ℕ
instruction_line bytes instr inside has_block =
    front instr.at bytes ++ text_of instr.at bytes ++ interpreted_text has_block ++ inside_text inside ++ codes "\n"

abbrev pub word_line : List ℕ → (at target : ℕ) → List ℕ
word_line bytes at target = front at bytes ++ codes ".WORD " ++ hexadecimal target ++ codes "\n"

abbrev pub bytes_line : List ℕ → (at : ℕ) → List ℕ
bytes_line bytes at = front at bytes ++ codes "; " ++ map character bytes ++ codes "\n"

abbrev pub zeros_line : (at count : ℕ) → List ℕ
zeros_line at count = codes "; " ++ eight_digits at ++ codes " to " ++ eight_digits (at + count - 1) ++ codes " 0\n"
