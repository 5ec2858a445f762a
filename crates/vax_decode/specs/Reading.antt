-- The operands of a row, and the answer of a call that reads an instruction.
use Rattle.std.specs.Prelude.{ℕ, ◌+◌, List, take, zip, Option, Some, None, Result, Ok, Err}
use Rattle.vax_form.specs.Grammar.{padded, wrapped}
use Rattle.vax_form.specs.GrammarReading.{Shown, complete, reserved}
use Rattle.vax_form.specs.declared.instr.Size.{Size}
use Rattle.vax_form.specs.declared.instr.Access.{Access}
use Rattle.vax_form.specs.declared.instr.Operand.{Operand}
use Rattle.vax_form.specs.declared.instr.Instr.{Instr}
use Rattle.vax_form.specs.declared.row.Row.{Row}
use Rattle.operand_specifiers.specs.declared.spec.SpecFault.{SpecFault}
use Rattle.operand_specifiers.specs.declared.spec.SpecFault.TheVariants.{Past, ReservedMode}

-- how each operand of the row is used, and its size
abbrev pub types_of : Row → List (Access × Size)
types_of row = take row.count (zip row.access row.size)

-- the answer for what was read behind an opcode at that address
abbrev pub instr_answer : ℕ → ℕ → ℕ → Option (Shown (List Operand) × ℕ) → Result Instr SpecFault
instr_answer pc opcode count None = Err Past
instr_answer pc opcode count (Some (reserved, n)) = Err ReservedMode
instr_answer pc opcode count (Some (complete operands, n)) = Ok (record {
  at = pc;
  opcode = opcode;
  count = count;
  operands = padded operands;
  after = wrapped (pc + (1 + n));
})
