-- What is found in bytes that begin with an opcode.
use Rattle.std.proofs.Common.{◌≡◌, ℕ, zero, suc, ◌+◌, ◌≤◌, List, [], ◌∷◌, length, take, drop, map, Option, Some, None, Result, Ok, Err, refl, sym, ap, ◌∙◌, subst, arith}
use Rattle.std.specs.List.{slice_get, zip}
use Rattle.std.specs.Option.{option_map, unwrap_or}
use Rattle.vax_form.specs.Grammar.{Found, Spells, instruction, padded, past, reserved_instruction, reserved_mode, wrapped}
use Rattle.vax_form.specs.GrammarFound.{found_in}
use Rattle.vax_form.specs.GrammarReading.{Shown, complete, instruction_of, read_instruction, read_operands, read_specifiers, reserved}
use Rattle.vax_form.specs.GrammarRows.{operand_types}
use Rattle.vax_form.specs.Operation.{operation_at}
use Rattle.vax_form.specs.Row.{filled, operands_of, row_at, row_of_operation, row_with}
use Rattle.vax_form.proofs.GrammarCounts.{operation_most}
use Rattle.vax_form.proofs.GrammarFinds.{option_map-some}
use Rattle.vax_form.proofs.GrammarLengths.{option_map-none}
use Rattle.vax_form.specs.declared.instr.Size.{Size}
use Rattle.vax_form.specs.declared.instr.Size.TheVariants.{Byte}
use Rattle.vax_form.specs.declared.instr.Access.{Access}
use Rattle.vax_form.specs.declared.instr.Access.TheVariants.{Read}
use Rattle.vax_form.specs.declared.instr.Instr.{Instr}
use Rattle.vax_form.specs.declared.instr.Operand.{Operand}
use Rattle.vax_form.specs.declared.row.Row.{Row}
use Rattle.operand_specifiers.specs.declared.spec.SpecFault.{SpecFault}
use Rattle.operand_specifiers.specs.declared.spec.SpecFault.TheVariants.{Past, ReservedMode}
use Rattle.vax_form.specs.GrammarFound.{Stands}
use Rattle.vax_form.specs.declared.pages.Pages.{Pages}
use Rattle.vax_decode.specs.Decoded.{IfInstr, IsInstructionAt, found_of}
use Rattle.vax_decode.specs.declared.decode.Decoded.{Decoded}
use Rattle.vax_decode.specs.declared.decode.Decoded.TheVariants as decoded
use Rattle.vax_decode.specs.Reading.{instr_answer, types_of}

-- ---- the row of an opcode

zipped : (n : ℕ) (ts : List (Access × Size)) → length ts ≤ n
    → take (length ts) (zip (filled Read n (map (λ t. t.0) ts)) (filled Byte n (map (λ t. t.1) ts))) ≡ ts
zipped n [] h = refl
zipped zero (t ∷ ts) h = absurd (omega arith)
zipped (suc n) (t ∷ ts) h = ap (λ l. t ∷ l) (zipped n ts (omega arith))

-- the row has the operands of the opcode's operation
pub record IsRowOf (opcode : ℕ) (row : Row) : Type 0 where
  pub types : List (Access × Size)
  pub is_opcode : operand_types opcode ≡ Some types
  pub are_types : types_of row ≡ types
  pub count : row.count ≡ length types
  pub few : row.count ≤ 6

pub IsRowOf-from : (opcode : ℕ) (row : Row) → Some row ≡ row_at opcode → IsRowOf opcode row
IsRowOf-from opcode row e =
    let x = option_map-some row_of_operation (operation_at opcode) row (sym e) in
    let types = operands_of x.0 in
    let count : row.count ≡ length types = ap (λ (r : Row). r.count) (sym x.2) in
    record {
      types = types;
      is_opcode = ap (option_map operands_of) x.1;
      are_types = ap types_of (sym x.2) ∙ zipped 6 types (operation_most x.0);
      count = count;
      few = omega (arith, count, operation_most x.0);
    }

-- ---- what is found

found_from : (pc : ℕ) (bytes : List ℕ) (o : Option (Found × ℕ)) → read_instruction pc bytes ≡ o
    → found_in pc bytes ≡ unwrap_or (option_map (λ r. r.0) o) (past (wrapped (pc + length bytes)))
unfolding found_in
found_from pc bytes o e = ap (λ x. unwrap_or (option_map (λ r. r.0) x) (past (wrapped (pc + length bytes)))) e

-- no byte
pub found_none : (pc : ℕ) (bytes : List ℕ) → None ≡ slice_get bytes 0 → past (wrapped (pc + length bytes)) ≡ found_in pc bytes
unfolding read_instruction
found_none pc [] e = sym (found_from pc [] None refl)
found_none pc (b ∷ rest) e = absurd cc

read_by : (pc opcode : ℕ) (bytes : List ℕ) → Some opcode ≡ slice_get bytes 0
    → read_instruction pc bytes ≡ read_operands pc opcode (operand_types opcode) (drop 1 bytes)
unfolding read_instruction
read_by pc opcode [] e = absurd cc
read_by pc opcode (b ∷ rest) e = let same : b ≡ opcode = cc in ap (λ k. read_operands pc k (operand_types k) rest) same

module _ (pc opcode : ℕ) (bytes : List ℕ) (is : Some opcode ≡ slice_get bytes 0) where
  read_at : read_instruction pc bytes ≡ read_operands pc opcode (operand_types opcode) (drop 1 bytes)
  read_at = read_by pc opcode bytes is

  pub found_reserved : None ≡ row_at opcode → reserved_instruction ≡ found_in pc bytes
  unfolding read_operands
  found_reserved e =
      let none = option_map-none row_of_operation (operation_at opcode) (sym e) in
      sym (found_from pc bytes _ (read_at ∙ ap (λ o. read_operands pc opcode (option_map operands_of o) (drop 1 bytes)) none))

  module _ (row : Row) (r : IsRowOf opcode row) where
    -- what the opcode and its operands show
    shown : Option (Shown (List Operand) × ℕ) → Found
    shown o = unwrap_or (option_map (λ r. r.0) (option_map (instruction_of pc opcode row.count) o)) (past (wrapped (pc + length bytes)))

    found_shown : found_in pc bytes ≡ shown (read_specifiers (types_of row) (pc + 1) (drop 1 bytes))
    unfolding read_operands shown
    found_shown = found_from pc bytes _ (read_at ∙ ap (λ o. read_operands pc opcode o (drop 1 bytes)) r.is_opcode
        ∙ ap (λ n. option_map (instruction_of pc opcode n) (read_specifiers r.types (pc + 1) (drop 1 bytes))) (sym r.count)
        ∙ ap (λ ts. option_map (instruction_of pc opcode row.count) (read_specifiers ts (pc + 1) (drop 1 bytes))) (sym r.are_types))

    shown_instr : (instr : Instr) (o : Option (Shown (List Operand) × ℕ)) → Ok instr ≡ instr_answer pc opcode row.count o → instruction instr ≡ shown o
    unfolding shown instruction_of
    shown_instr instr None e = absurd cc
    shown_instr instr (Some (reserved, n)) e = absurd cc
    shown_instr instr (Some (complete operands, n)) e = ap instruction cc

    shown_past : (o : Option (Shown (List Operand) × ℕ)) → Err Past ≡ instr_answer pc opcode row.count o → past (wrapped (pc + length bytes)) ≡ shown o
    unfolding shown instruction_of
    shown_past None e = refl
    shown_past (Some (reserved, n)) e = absurd cc
    shown_past (Some (complete operands, n)) e = absurd cc

    shown_reserved : (o : Option (Shown (List Operand) × ℕ)) → Err ReservedMode ≡ instr_answer pc opcode row.count o → reserved_mode ≡ shown o
    unfolding shown instruction_of
    shown_reserved None e = absurd cc
    shown_reserved (Some (reserved, n)) e = refl
    shown_reserved (Some (complete operands, n)) e = absurd cc

    module _ (answer : Result Instr SpecFault) (a : answer ≡ instr_answer pc opcode row.count (read_specifiers (types_of row) (pc + 1) (drop 1 bytes))) where
      pub found_instr : (instr : Instr) → answer ≡ Ok instr → instruction instr ≡ found_in pc bytes
      found_instr instr e = shown_instr instr _ (sym e ∙ a) ∙ sym found_shown

      pub found_past : answer ≡ Err Past → past (wrapped (pc + length bytes)) ≡ found_in pc bytes
      found_past e = shown_past _ (sym e ∙ a) ∙ sym found_shown

      pub found_bad : answer ≡ Err ReservedMode → reserved_mode ≡ found_in pc bytes
      found_bad e = shown_reserved _ (sym e ∙ a) ∙ sym found_shown

-- an instruction that stands at an address is spelled there
pub spelled_from : (pages : Pages) (pc : ℕ) (d : Decoded) → Stands pages pc (found_of d) → IfInstr d (IsInstructionAt pc)
spelled_from pages pc (decoded.Instr instr) (bytes, fetch, s) =
    let at_is : instr.at ≡ pc = ap (λ (i : Instr). i.at) s.is_instr in
    (at_is, (bytes, subst (λ a. Spells a bytes instr) (sym at_is) s))
spelled_from pages pc decoded.Reserved h = tt
spelled_from pages pc decoded.BadMode h = tt
spelled_from pages pc (decoded.Past address) h = tt
