-- What an instruction is that some bytes spell.
use Rattle.std.proofs.Common.{◌≡◌, ℕ, ◌+◌, ◌<◌, ◌^◌, List, Some, sym, ap, ◌∙◌, subst, lit<}
use Rattle.std.specs.Prelude.{option_map, Option}
use Rattle.std.proofs.lemmas.Nat.{mod_below}
use Rattle.std.proofs.lemmas.Option.{same_Some}
use Rattle.vax_form.specs.Grammar.{IsSpelled, SpecifyAll, padded}
use Rattle.vax_form.specs.Operation.{operation_at}
use Rattle.vax_form.specs.Row.{operands_of}
use Rattle.vax_form.specs.declared.instr.Access.{Access}
use Rattle.vax_form.specs.declared.instr.Size.{Size}
use Rattle.vax_form.specs.declared.instr.Instr.{Instr}
use Rattle.vax_form.specs.declared.instr.Operand.{Operand}
use Rattle.vax_form.specs.declared.operation.Operation.{Operation}

-- an instruction with these operands
abbrev pub with_operands : (at opcode count after : ℕ) → List Operand → Instr
with_operands at opcode count after operands = record { at = at; opcode = opcode; count = count; operands = padded operands; after = after }

-- the operands are of these types
pub record Given (types : List (Access × Size)) (instr : Instr) : Type 0 where
  pub operands : List Operand
  pub bytes : List ℕ
  pub is_instr : instr ≡ with_operands instr.at instr.opcode instr.count instr.after operands
  pub are_operands : SpecifyAll types (instr.at + 1) bytes operands
  pub within : instr.after < 2 ^ 32

pub given : (instr : Instr) (operation : Operation) → IsSpelled instr → operation_at instr.opcode ≡ Some operation → Given (operands_of operation) instr
given instr operation spelled is =
    let s = spelled.1 in
    let at_opcode : operation_at s.opcode ≡ Some operation = ap (λ (i : Instr). operation_at i.opcode) (sym s.is_instr) ∙ is in
    let some : Some (operands_of operation) ≡ Some s.types = ap (λ (o : Option Operation). option_map operands_of o) (sym at_opcode) ∙ s.is_opcode in
    let types : s.types ≡ operands_of operation = sym (same_Some _ _ some) in
    record {
      operands = s.operands;
      bytes = s.rest;
      is_instr = ap (λ (operands : List Operand). record { at = instr.at; opcode = instr.opcode; count = instr.count; operands = operands; after = instr.after }) (ap (λ (i : Instr). i.operands) s.is_instr);
      are_operands = subst (λ (types : List (Access × Size)). SpecifyAll types (instr.at + 1) s.rest s.operands) types s.are_operands;
      within = subst (λ (n : ℕ). n < 2 ^ 32) (sym (ap (λ (i : Instr). i.after) s.is_instr)) (mod_below _ (2 ^ 32) (lit< tt));
    }
