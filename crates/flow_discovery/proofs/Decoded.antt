-- What is known of an address at which an instruction stands.
use Rattle.std.proofs.Common.{◌≡◌, ◌≢◌, ◌∙◌, ◌+◌, ◌<◌, ◌^◌, ℕ, true, List, [], ◌∷◌, length, Option, Some, None, refl, subst, sym, ap, arith}
use Rattle.std.specs.Option.{is_some, option_map, unwrap_or}
use Rattle.vax_form.specs.Pages.{code_byte_at, has_code, is_code}
use Rattle.vax_form.specs.Grammar.{past, wrapped}
use Rattle.vax_form.specs.GrammarFound.{fetched, found, found_in, in_front_of}
use Rattle.vax_form.specs.GrammarReading.{Shown, complete, reserved, instruction_of, read_instruction, read_operands, read_specifiers}
use Rattle.vax_form.specs.GrammarRows.{operand_types}
use Rattle.vax_form.specs.declared.instr.Access.{Access}
use Rattle.vax_form.specs.declared.instr.Instr.{Instr}
use Rattle.vax_form.specs.declared.instr.Operand.{Operand}
use Rattle.vax_form.specs.declared.instr.Size.{Size}
use Rattle.vax_form.specs.declared.pages.Pages.{Pages}
use Rattle.vax_form.specs.Row.{class_at}
use Rattle.vax_form.specs.declared.row.Class.TheVariants.{Reserved}
use Rattle.vax_form.proofs.PageTable.{found_is_some}
use Rattle.flow_discovery.proofs.Classes.{listed_class}
use Rattle.flow_discovery.specs.Reach.{instruction_at, instruction_in}

-- ---- its first byte can be fetched

first_byte : (pc : ℕ) (o : Option ℕ) (rest : List ℕ) (instr : Instr) → instruction_in (found_in pc (in_front_of o rest)) ≡ Some instr → is_some o ≡ true
unfolding found_in read_instruction
first_byte pc None rest instr e = cc
first_byte pc (Some b) rest instr e = refl

pub code_at : (pages : Pages) (address : ℕ) (instr : Instr) → address < 2 ^ 32 → instruction_at pages address ≡ Some instr → is_code pages address ≡ true
unfolding instruction_at found fetched
code_at pages address instr small e =
    let same : wrapped address ≡ address = omega arith in
    let first = first_byte address (code_byte_at pages (wrapped address)) (fetched pages (address + 1) 63) instr e in
    sym (found_is_some _ (has_code address) pages.ranges) ∙ rw same at first

-- ---- it has the address, and its opcode isn't reserved

record IsAt (address : ℕ) (instr : Instr) : Type 0 where
  pub same : instr.at ≡ address
  pub listed : is_some (operand_types instr.opcode) ≡ true

abbrev at_some : ℕ → Option Instr → Type 0
at_some pc None = Unit {0}
at_some pc (Some instr) = IsAt pc instr

by_operands : (pc opcode count : ℕ) (address : ℕ) (o : Option (Shown (List Operand) × ℕ)) (instr : Instr) → is_some (operand_types opcode) ≡ true
    → instruction_in (unwrap_or (option_map (λ r. r.0) (option_map (instruction_of pc opcode count) o)) (past address)) ≡ Some instr → IsAt pc instr
unfolding instruction_of
by_operands pc opcode count address None instr listed e = cc
by_operands pc opcode count address (Some (complete operands, n)) instr listed e =
    let P : Option Instr → Type 0 = at_some pc in
    subst P e (record { same = refl; listed = listed })
by_operands pc opcode count address (Some (reserved, n)) instr listed e = cc

by_opcode : (pc opcode : ℕ) (address : ℕ) (o : Option (List (Access × Size))) (rest : List ℕ) (instr : Instr) → operand_types opcode ≡ o
    → instruction_in (unwrap_or (option_map (λ r. r.0) (read_operands pc opcode o rest)) (past address)) ≡ Some instr → IsAt pc instr
unfolding read_operands
by_opcode pc opcode address None rest instr is e = cc
by_opcode pc opcode address (Some types) rest instr is e =
    by_operands pc opcode (length types) address (read_specifiers types (pc + 1) rest) instr (ap is_some is) e

by_bytes : (pc : ℕ) (bytes : List ℕ) (instr : Instr) → instruction_in (found_in pc bytes) ≡ Some instr → IsAt pc instr
unfolding found_in read_instruction
by_bytes pc [] instr e = cc
by_bytes pc (opcode ∷ rest) instr e = by_opcode pc opcode (wrapped (pc + length (opcode ∷ rest))) (operand_types opcode) rest instr refl e

is_at : (pages : Pages) (address : ℕ) (instr : Instr) → instruction_at pages address ≡ Some instr → IsAt address instr
unfolding instruction_at found
is_at pages address instr e = by_bytes address (fetched pages address 64) instr e

pub address_of : (pages : Pages) (address : ℕ) (instr : Instr) → instruction_at pages address ≡ Some instr → instr.at ≡ address
address_of pages address instr e = (is_at pages address instr e).same

pub class_of : (pages : Pages) (address : ℕ) (instr : Instr) → instruction_at pages address ≡ Some instr → class_at instr.opcode ≢ Reserved
class_of pages address instr e = listed_class instr.opcode (is_at pages address instr e).listed
