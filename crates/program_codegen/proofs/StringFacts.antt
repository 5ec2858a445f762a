-- What is known of a MOVC3 that was decoded: its operands.
use Rattle.std.proofs.Common.{◌≡◌, ℕ, ◌+◌, ◌^◌, refl, sym, ap, ◌∙◌, subst, List, [], ◌∷◌, Option, Some, lit<}
use Rattle.std.specs.Prelude.{option_map, slice_index_or}
use Rattle.std.proofs.lemmas.Nat.{mod_below}
use Rattle.std.proofs.lemmas.Option.{same_Some}
use Rattle.vax_form.specs.Grammar.{Describes, SpecifyAll, Specifies, padded}
use Rattle.vax_form.specs.Operation.{operation_at}
use Rattle.vax_form.specs.Row.{operands_of, operands_of_long}
use Rattle.vax_form.specs.Targets.{operand_of}
use Rattle.vax_form.specs.declared.instr.Access.{Access}
use Rattle.vax_form.specs.declared.instr.Access.TheVariants.{Read, Address}
use Rattle.vax_form.specs.declared.instr.Instr.{Instr}
use Rattle.vax_form.specs.declared.instr.Operand.{Operand}
use Rattle.vax_form.specs.declared.instr.Operand.TheVariants.{Unused}
use Rattle.vax_form.specs.declared.instr.Size.{Size}
use Rattle.vax_form.specs.declared.instr.Size.TheVariants.{Byte, Word}
use Rattle.vax_form.specs.declared.operation.LongOperation.TheVariants.{MoveCharacters}
use Rattle.vax_form.specs.declared.operation.Operation.{Operation}
use Rattle.vax_form.specs.declared.operation.Operation.TheVariants as operations
use Rattle.operand_programs.specs.Behind.{AreFit}
use Rattle.operand_programs.specs.Operands.{IsFor}
use Rattle.operand_programs.specs.Registers.{SpecifiedIsNamed}
use Rattle.program_codegen.specs.StringPromises.{AreLongStrings, IsStringMove}
use Rattle.program_codegen.specs.Strings.{specifiers_of}
use Rattle.program_codegen.proofs.CallFacts.{in_memory, long_operands}
use Rattle.program_codegen.proofs.StringTrees.{IsMoveOf}
use Rattle.operand_programs.specs.Pieces.{IsLongOperand}

-- a word that is read
readable : (at : ℕ) (bytes : List ℕ) (operand : Operand) → Describes Read Word at bytes operand → IsLongOperand operand → IsFor Read operand
readable at bytes operand (Describes.literal v lt is b o) long = rw o tt
readable at bytes operand (Describes.register n has not b o) long = rw o tt
readable at bytes operand (Describes.immediate d l is b o) long = rw o tt
readable at bytes operand (Describes.constant_address d l is b o) long = rw o (mod_below _ (2 ^ 32) (lit< tt))
readable at bytes operand (Describes.place base locates o) long = rw o (subst IsLongOperand o long)
readable at bytes operand (Describes.indexed x base more lt locates free b o) long = rw o (subst IsLongOperand o long)

abbrev types : List (Access × Size)
types = (Read, Word) ∷ (Address, Byte) ∷ (Address, Byte) ∷ []

-- the operand is specified somewhere
record Specified (access : Access) (size : Size) (operand : Operand) : Type 0 where
  at : ℕ
  bytes : List ℕ
  described : Specifies access size at bytes operand

record Operands (instr : Instr) : Type 0 where
  all : instr.operands ≡ padded (operand_of instr 0 ∷ operand_of instr 1 ∷ operand_of instr 2 ∷ [])
  first : Specified Read Word (operand_of instr 0)
  second : Specified Address Byte (operand_of instr 1)
  third : Specified Address Byte (operand_of instr 2)

types_are : operands_of (operations.Long MoveCharacters) ≡ types
unfolding operands_of operands_of_long
types_are = refl

module _ (instr : Instr) (moves : IsStringMove instr) where
  by_operands : (operands : List Operand) (bytes : List ℕ) → SpecifyAll types (instr.at + 1) bytes operands → instr.operands ≡ padded operands → Operands instr
  by_operands operands bytes are its =
      let second = are.7 in
      let third = second.7 in
      let all : operands ≡ are.2 ∷ second.2 ∷ third.2 ∷ [] =
      are.5 ∙ ap (λ (os : List Operand). are.2 ∷ os) (second.5 ∙ ap (λ (os : List Operand). second.2 ∷ os) (third.5 ∙ ap (λ (os : List Operand). third.2 ∷ os) third.7.1)) in
      let padded_are : instr.operands ≡ padded (are.2 ∷ second.2 ∷ third.2 ∷ []) = its ∙ ap padded all in
      let in_0 : operand_of instr 0 ≡ are.2 = ap (λ (os : List Operand). slice_index_or os 0 Unused) padded_are in
      let in_1 : operand_of instr 1 ≡ second.2 = ap (λ (os : List Operand). slice_index_or os 1 Unused) padded_are in
      let in_2 : operand_of instr 2 ≡ third.2 = ap (λ (os : List Operand). slice_index_or os 2 Unused) padded_are in
      record {
        all = padded_are ∙ (ap (λ (o : Operand). padded (o ∷ second.2 ∷ third.2 ∷ [])) (sym in_0)
            ∙ (ap (λ (o : Operand). padded (operand_of instr 0 ∷ o ∷ third.2 ∷ [])) (sym in_1) ∙ ap (λ (o : Operand). padded (operand_of instr 0 ∷ operand_of instr 1 ∷ o ∷ [])) (sym in_2)));
        first = record { at = instr.at + 1; bytes = are.0; described = subst (Specifies Read Word (instr.at + 1) are.0) (sym in_0) are.6 };
        second = record { at = _; bytes = second.0; described = subst (Specifies Address Byte _ second.0) (sym in_1) second.6 };
        third = record { at = _; bytes = third.0; described = subst (Specifies Address Byte _ third.0) (sym in_2) third.6 };
      }

  its_operands : Operands instr
  its_operands =
      let s = moves.spelled.1 in
      let at_opcode : operation_at s.opcode ≡ Some (operations.Long MoveCharacters) = ap (λ (i : Instr). operation_at i.opcode) (sym s.is_instr) ∙ long_operands instr.opcode MoveCharacters moves.operation in
      let some : Some (operands_of (operations.Long MoveCharacters)) ≡ Some s.types = ap (λ (o : Option Operation). option_map operands_of o) (sym at_opcode) ∙ s.is_opcode in
      let are : s.types ≡ types = sym (same_Some _ _ some) ∙ types_are in
      by_operands s.operands s.rest (subst (λ (ts : List (Access × Size)). SpecifyAll ts (instr.at + 1) s.rest s.operands) are s.are_operands) (ap (λ (i : Instr). i.operands) s.is_instr)

-- ---- the instruction
pub record StringFacts (instr : Instr) : Type 0 where
  pub is : IsMoveOf instr (operand_of instr 0) (operand_of instr 1) (operand_of instr 2)
  pub readable : IsFor Read (operand_of instr 0)
  pub source : IsFor Address (operand_of instr 1)
  pub destination : IsFor Address (operand_of instr 2)
  pub fit : AreFit (specifiers_of instr)

pub string_facts : (instr : Instr) → SpecifiedIsNamed → AreLongStrings instr → IsStringMove instr → StringFacts instr
string_facts instr named long moves =
    let operands = its_operands instr moves in
    let first = operands.first in
    let second = operands.second in
    let third = operands.third in
    let read : IsFor Read (operand_of instr 0) = readable first.at first.bytes (operand_of instr 0) first.described long.0 in
    let source : IsFor Address (operand_of instr 1) = in_memory second.at second.bytes (operand_of instr 1) second.described long.1 in
    let destination : IsFor Address (operand_of instr 2) = in_memory third.at third.bytes (operand_of instr 2) third.described long.2 in
    record {
      is = record { operation = moves.operation; operands = operands.all };
      readable = read;
      source = source;
      destination = destination;
      fit = (
        record { placed = record { operand = read; to = lit< tt; place = lit< tt; apart = refl }; registers = named Read Word first.at first.bytes (operand_of instr 0) first.described },
        (
          record { placed = record { operand = source; to = lit< tt; place = lit< tt; apart = refl }; registers = named Address Byte second.at second.bytes (operand_of instr 1) second.described },
          (record { placed = record { operand = destination; to = lit< tt; place = lit< tt; apart = refl }; registers = named Address Byte third.at third.bytes (operand_of instr 2) third.described }, tt),
        ),
      );
    }
