-- What a decoder answers, as what stands at an address.
use Rattle.std.specs.Prelude.{◌≡◌, ℕ}
use Rattle.vax_form.specs.Grammar.{Found, IsSpelled, instruction, past, reserved_instruction, reserved_mode}
use Rattle.vax_form.specs.declared.instr.Instr.{Instr}
use Rattle.vax_decode.specs.declared.decode.Decoded.{Decoded}
use Rattle.vax_decode.specs.declared.decode.Decoded.TheVariants as decoded

abbrev pub found_of : Decoded → Found
found_of (decoded.Instr instr) = instruction instr
found_of decoded.Reserved = reserved_instruction
found_of decoded.BadMode = reserved_mode
found_of (decoded.Past address) = past address

-- the instruction stands at that address, and some bytes there spell it
abbrev pub IsInstructionAt : ℕ → Instr → Type 0
IsInstructionAt pc instr = (instr.at ≡ pc) × IsSpelled instr

abbrev pub IfInstr : Decoded → (Instr → Type 0) → Type 0
IfInstr (decoded.Instr instr) P = P instr
IfInstr _ P = Unit {0}
