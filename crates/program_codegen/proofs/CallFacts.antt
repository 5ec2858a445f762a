-- What is known of a call that was decoded: its operands, its destination and its mask.
use Rattle.std.proofs.Common.{◌≡◌, ℕ, ◌+◌, ◌^◌, ◌<◌, refl, sym, ap, ◌∙◌, subst, List, [], ◌∷◌, Option, Some, None, Bool, true, false, lit<}
use Rattle.std.specs.Prelude.{option_map, slice_index_or, unwrap_or}
use Rattle.std.specs.Option.{option_map_or}
use Rattle.std.proofs.lemmas.Nat.{mod_below}
use Rattle.std.proofs.lemmas.Option.{same_Some}
use Rattle.vax_form.specs.Grammar.{Describes, IsSpelled, SpecifyAll, Specifies, padded}
use Rattle.vax_form.specs.Operation.{operation_at}
use Rattle.vax_form.specs.Row.{operands_of, operands_of_long}
use Rattle.vax_form.specs.Targets.{fixed_address, operand_of}
use Rattle.vax_form.specs.declared.instr.Access.{Access}
use Rattle.vax_form.specs.declared.instr.Access.TheVariants.{Read, Address}
use Rattle.vax_form.specs.declared.instr.Base.TheVariants.{Deferred, Decrement, Increment, IncrementDeferred, Offset, Fixed}
use Rattle.vax_form.specs.declared.instr.Instr.{Instr}
use Rattle.vax_form.specs.declared.instr.Operand.{Operand}
use Rattle.vax_form.specs.declared.instr.Operand.TheVariants.{Unused, Value, Register, Place, Target}
use Rattle.vax_form.specs.declared.instr.Size.{Size}
use Rattle.vax_form.specs.declared.instr.Size.TheVariants.{Byte, Long}
use Rattle.vax_form.specs.declared.operation.LongOperation.{LongOperation}
use Rattle.vax_form.specs.declared.operation.LongOperation.TheVariants as long
use Rattle.vax_form.specs.declared.operation.Operation.{Operation}
use Rattle.vax_form.specs.declared.operation.Operation.TheVariants as operations
use Rattle.vax_form.specs.declared.pages.Pages.{Pages}
use Rattle.vax_long.specs.Instructions.{long_at, long_operation}
use Rattle.vax_long.specs.LongForms.{has_entry_mask, has_long_form, is_fixed_call}
use Rattle.operand_programs.specs.Behind.{IsFit}
use Rattle.operand_programs.specs.Operands.{IsFor}
use Rattle.operand_programs.specs.Registers.{SpecifiedIsNamed}
use Rattle.program_codegen.specs.Calls.{call_at, destination_of, first_specifier, is_on_stack}
use Rattle.program_codegen.specs.CallPromises.{AreLongOperands, IsCallOperation, IsFixedCall}
use Rattle.program_codegen.proofs.CallBodies.{IsCallTo, operation_by}
use Rattle.operand_programs.specs.Pieces.{IsLongOperand}

-- ---- the destination
-- the operand that fixes it
fixed_place : (operand : Operand) (address : ℕ) → fixed_address operand ≡ Some address → operand ≡ Place (Fixed address false) None
fixed_place (Place (Fixed at false) None) address is = ap (λ (a : ℕ). Place (Fixed a false) None) (same_Some at address is)
fixed_place (Place (Fixed at false) (Some x)) address is = absurd (cc is)
fixed_place (Place (Fixed at true) index) address is = absurd (cc is)
fixed_place (Place (Deferred n) index) address is = absurd (cc is)
fixed_place (Place (Decrement n) index) address is = absurd (cc is)
fixed_place (Place (Increment n) index) address is = absurd (cc is)
fixed_place (Place (IncrementDeferred n) index) address is = absurd (cc is)
fixed_place (Place (Offset n offset deferred) index) address is = absurd (cc is)
fixed_place Unused address is = absurd (cc is)
fixed_place (Value value) address is = absurd (cc is)
fixed_place (Register n) address is = absurd (cc is)
fixed_place (Target at) address is = absurd (cc is)

record Destination (instr : Instr) (pages : Pages) : Type 0 where
  pub operand : operand_of instr 1 ≡ Place (Fixed (destination_of instr) false) None
  pub has : has_entry_mask pages (destination_of instr) ≡ true

its_destination : (instr : Instr) (pages : Pages) → is_fixed_call instr pages ≡ true → Destination instr pages
its_destination instr pages form = by (fixed_address (operand_of instr 1)) refl form
  where
    by : (o : Option ℕ) → fixed_address (operand_of instr 1) ≡ o → option_map_or (has_entry_mask pages) o false ≡ true → Destination instr pages
    by None is form = absurd (cc form)
    by (Some address) is form =
        let here : destination_of instr ≡ address = ap (λ (o : Option ℕ). unwrap_or o 0) is in
        record {
          operand = fixed_place (operand_of instr 1) address is ∙ ap (λ (a : ℕ). Place (Fixed a false) None) (sym here);
          has = ap (has_entry_mask pages) here ∙ form;
        }

-- ---- the operands
-- an operand that is read, or whose address is used
readable : (at : ℕ) (bytes : List ℕ) (operand : Operand) → Describes Read Long at bytes operand → IsLongOperand operand → IsFor Read operand
readable at bytes operand (Describes.literal v lt is b o) long = rw o tt
readable at bytes operand (Describes.register n has not b o) long = rw o tt
readable at bytes operand (Describes.immediate d l is b o) long = rw o tt
readable at bytes operand (Describes.constant_address d l is b o) long = rw o (mod_below _ (2 ^ 32) (lit< tt))
readable at bytes operand (Describes.place base locates o) long = rw o (subst IsLongOperand o long)
readable at bytes operand (Describes.indexed x base more lt locates free b o) long = rw o (subst IsLongOperand o long)

pub in_memory : (at : ℕ) (bytes : List ℕ) (operand : Operand) → Describes Address Byte at bytes operand → IsLongOperand operand → IsFor Address operand
in_memory at bytes operand (Describes.literal v lt is b o) long = absurd (cc is)
in_memory at bytes operand (Describes.register n has not b o) long = absurd (not refl)
in_memory at bytes operand (Describes.immediate d l is b o) long = absurd (cc is)
in_memory at bytes operand (Describes.constant_address d l is b o) long = rw o (mod_below _ (2 ^ 32) (lit< tt))
in_memory at bytes operand (Describes.place base locates o) long = rw o (subst IsLongOperand o long)
in_memory at bytes operand (Describes.indexed x base more lt locates free b o) long = rw o (subst IsLongOperand o long)

abbrev types_by : (stack : Bool) → List (Access × Size)
types_by true = (Read, Long) ∷ (Address, Byte) ∷ []
types_by false = (Address, Byte) ∷ (Address, Byte) ∷ []

abbrev first_access : (stack : Bool) → Access
first_access true = Read
first_access false = Address

abbrev first_size : (stack : Bool) → Size
first_size true = Long
first_size false = Byte

record Operands (stack : Bool) (instr : Instr) : Type 0 where
  pub all : instr.operands ≡ padded (operand_of instr 0 ∷ operand_of instr 1 ∷ [])
  pub at : ℕ
  pub bytes : List ℕ
  pub described : Specifies (first_access stack) (first_size stack) at bytes (operand_of instr 0)

pub long_operands : (opcode : ℕ) (operation : LongOperation) → long_at opcode ≡ Some operation → operation_at opcode ≡ Some (operations.Long operation)
unfolding long_operation
long_operands opcode operation is = by (operation_at opcode) is
  where
    by : (o : Option Operation) → long_operation o ≡ Some operation → o ≡ Some (operations.Long operation)
    by None e = absurd (cc e)
    by (Some (operations.Long other)) e = ap (λ (l : LongOperation). Some (operations.Long l)) (same_Some other operation e)
    by (Some other) e = absurd (cc e)

types_are : (stack : Bool) → operands_of (operations.Long (operation_by stack)) ≡ types_by stack
unfolding operands_of operands_of_long
types_are true = refl
types_are false = refl

its_operands : (stack : Bool) (instr : Instr) → IsSpelled instr → long_at instr.opcode ≡ Some (operation_by stack) → Operands stack instr
its_operands stack instr spelled is =
    let s = spelled.1 in
    let at_opcode : operation_at s.opcode ≡ Some (operations.Long (operation_by stack)) = ap (λ (i : Instr). operation_at i.opcode) (sym s.is_instr) ∙ long_operands instr.opcode (operation_by stack) is in
    let some : Some (operands_of (operations.Long (operation_by stack))) ≡ Some s.types = ap (λ (o : Option Operation). option_map operands_of o) (sym at_opcode) ∙ s.is_opcode in
    let types : s.types ≡ types_by stack = sym (same_Some _ _ some) ∙ types_are stack in
    by stack s.operands s.rest (subst (λ (types : List (Access × Size)). SpecifyAll types (instr.at + 1) s.rest s.operands) types s.are_operands) (ap (λ (i : Instr). i.operands) s.is_instr)
  where
    both : (stack : Bool) (operands : List Operand) (first second : Operand) (at : ℕ) (bytes : List ℕ) → operands ≡ first ∷ second ∷ [] → instr.operands ≡ padded operands
        → Specifies (first_access stack) (first_size stack) at bytes first → Operands stack instr
    both stack operands first second at bytes are its is =
        let all : instr.operands ≡ padded (first ∷ second ∷ []) = its ∙ ap padded are in
        let here : operand_of instr 0 ≡ first = ap (λ (os : List Operand). slice_index_or os 0 Unused) all in
        let there : operand_of instr 1 ≡ second = ap (λ (os : List Operand). slice_index_or os 1 Unused) all in
        record {
          all = all ∙ (ap (λ (o : Operand). padded (o ∷ second ∷ [])) (sym here) ∙ ap (λ (o : Operand). padded (operand_of instr 0 ∷ o ∷ [])) (sym there));
          at = at;
          bytes = bytes;
          described = subst (Specifies (first_access stack) (first_size stack) at bytes) (sym here) is;
        }

    by : (stack : Bool) (operands : List Operand) (bytes : List ℕ) → SpecifyAll (types_by stack) (instr.at + 1) bytes operands → instr.operands ≡ padded operands → Operands stack instr
    by true operands bytes are its =
        let later = are.7 in
        both true operands are.2 later.2 (instr.at + 1) are.0 (are.5 ∙ ap (λ (os : List Operand). are.2 ∷ os) (later.5 ∙ ap (λ (os : List Operand). later.2 ∷ os) later.7.1)) its are.6
    by false operands bytes are its =
        let later = are.7 in
        both false operands are.2 later.2 (instr.at + 1) are.0 (are.5 ∙ ap (λ (os : List Operand). are.2 ∷ os) (later.5 ∙ ap (λ (os : List Operand). later.2 ∷ os) later.7.1)) its are.6

first_fits : (named : SpecifiedIsNamed) (stack : Bool) (at : ℕ) (bytes : List ℕ) (operand : Operand) → Specifies (first_access stack) (first_size stack) at bytes operand → IsLongOperand operand → IsFit (first_specifier stack operand)
first_fits named true at bytes operand is long = record {
  placed = record { operand = readable at bytes operand is long; to = lit< tt; place = lit< tt; apart = refl };
  registers = named Read Long at bytes operand is;
}
first_fits named false at bytes operand is long = record {
  placed = record { operand = in_memory at bytes operand is long; to = lit< tt; place = lit< tt; apart = refl };
  registers = named Address Byte at bytes operand is;
}

-- ---- the call
pub record CallFacts (instr : Instr) (pages : Pages) : Type 0 where
  pub is : IsCallTo (call_at instr pages).stack instr (operand_of instr 0) (destination_of instr)
  pub has : has_entry_mask pages (destination_of instr) ≡ true
  pub fits : destination_of instr < 2 ^ 32
  pub fit : IsFit (first_specifier (call_at instr pages).stack (operand_of instr 0))

module _ (instr : Instr) (pages : Pages) (named : SpecifiedIsNamed) (longwords : AreLongOperands instr) where
  facts_by : (stack : Bool) → IsSpelled instr → long_at instr.opcode ≡ Some (operation_by stack) → (call_at instr pages).stack ≡ stack → is_fixed_call instr pages ≡ true → CallFacts instr pages
  facts_by stack spelled is is_stack form =
      let to = its_destination instr pages form in
      let operands = its_operands stack instr spelled is in
      record {
        is = subst (λ (b : Bool). IsCallTo b instr (operand_of instr 0) (destination_of instr)) (sym is_stack)
            (record { operation = is; operands = operands.all ∙ ap (λ (o : Operand). padded (operand_of instr 0 ∷ o ∷ [])) to.operand });
        has = to.has;
        fits = subst IsLongOperand to.operand longwords.1;
        fit = subst (λ (b : Bool). IsFit (first_specifier b (operand_of instr 0))) (sym is_stack) (first_fits named stack operands.at operands.bytes (operand_of instr 0) operands.described longwords.0);
      }

  pub facts_of : IsFixedCall instr pages → CallFacts instr pages
  unfolding has_long_form
  facts_of fixed = by (long_at instr.opcode) refl fixed.operation fixed.form
    where
      by : (o : Option LongOperation) → long_at instr.opcode ≡ o → IsCallOperation o → option_map_or (λ operation. has_long_form operation instr pages) o false ≡ true → CallFacts instr pages
      by (Some long.CallStack) is call form = facts_by true fixed.spelled is (ap is_on_stack is) form
      by (Some long.CallGeneral) is call form = facts_by false fixed.spelled is (ap is_on_stack is) form
      by None is call form = absurd call
      by (Some other) is call form = absurd call
