-- The opcodes of the VAX: the operation of each, its class, whether it is a long one, its operands, and its condition codes.
-- VAX Architecture Reference Manual, "Instruction Set Summary"; "Instruction Descriptions".
use Rattle.std.proofs.Common.{◌≡◌, ℕ, List, [], ◌∷◌, Bool, true, false, Option, Some, None, refl}
use Rattle.std.specs.Option.{option_map}
use Rattle.vax_form.specs.Codes.{codes}
use Rattle.vax_form.specs.Operation.{integer_opcodes, control_opcodes, mixed_opcodes, move_opcodes, bit_opcodes, operation_at}
use Rattle.vax_form.specs.Row.{operands_of, operands_of_long, class_of_operation, class_at, is_long_operation, is_long_at, row_at, row_with}
use Rattle.vax_form.specs.declared.instr.Access.TheVariants.{Read, Write, Modify, Address, Field}
use Rattle.vax_form.specs.declared.instr.Access.TheVariants as accesses
use Rattle.vax_form.specs.declared.instr.Size.TheVariants as sizes
use Rattle.vax_form.specs.declared.instr.Width.TheVariants.{Byte, Word, Long}
use Rattle.vax_form.specs.declared.operation.Condition.TheVariants.{NotEqual, Equal, Greater, LessOrEqual, GreaterOrEqual, Less, GreaterUnsigned, LessOrEqualUnsigned, OverflowClear, OverflowSet, CarryClear, CarrySet}
use Rattle.vax_form.specs.declared.operation.BinaryOperation.TheVariants.{Add, Subtract, Multiply, Divide, BitSet, BitClear, ExclusiveOr}
use Rattle.vax_form.specs.declared.operation.BitStore.TheVariants.{Nothing, Plain, Interlocked}
use Rattle.vax_form.specs.declared.operation.LongOperation.TheVariants as long
use Rattle.vax_form.specs.declared.operation.Operation.TheVariants as op
use Rattle.vax_form.specs.declared.row.Class.TheVariants.{Translated, Tie, Reserved}
use Rattle.vax_form.specs.declared.instr.Access.{Access}
use Rattle.vax_form.specs.declared.instr.Size.{Size}
use Rattle.vax_form.specs.declared.operation.Operation.{Operation}
use Rattle.vax_form.specs.declared.row.Class.{Class}
use Rattle.vax_form.specs.declared.row.Row.{Row}
use Rattle.cc_liveness.specs.declared.uses.CodeUse.{CodeUse}
use Rattle.cc_liveness.specs.Uses.{code_use_of, tested_by, written_by_binary, written_by_long, goes_on, may_jump}

-- what the definitions say of an opcode
record Form : Type 0 where
  operation : Option Operation
  class : Class
  is_long : Bool
  row : Option Row
  uses : Option CodeUse

abbrev form_of : (opcode : ℕ) → Form
form_of opcode = record {
  operation = operation_at opcode;
  class = class_at opcode;
  is_long = is_long_at opcode;
  row = row_at opcode;
  uses = option_map code_use_of (operation_at opcode);
}

abbrev reserved : Form
reserved = record { operation = None; class = Reserved; is_long = false; row = None; uses = None }

abbrev form : Operation → Class → (is_long : Bool) → List (Access × Size) → CodeUse → Form
form operation class is_long operands uses = record { operation = Some operation; class = class; is_long = is_long; row = Some (row_with operands); uses = Some uses }

opcode_00 : form_of 0 ≡ reserved
unfolding integer_opcodes control_opcodes mixed_opcodes move_opcodes bit_opcodes operands_of operands_of_long operation_at class_of_operation is_long_operation code_use_of tested_by written_by_binary written_by_long
opcode_00 = refl

opcode_01 : form_of 1 ≡ form op.NoOperation Translated false ([]) (goes_on (codes false false false false) (codes false false false false))
unfolding integer_opcodes control_opcodes mixed_opcodes move_opcodes bit_opcodes operands_of operands_of_long operation_at class_of_operation is_long_operation code_use_of tested_by written_by_binary written_by_long
opcode_01 = refl

opcode_02 : form_of 2 ≡ reserved
unfolding integer_opcodes control_opcodes mixed_opcodes move_opcodes bit_opcodes operands_of operands_of_long operation_at class_of_operation is_long_operation code_use_of tested_by written_by_binary written_by_long
opcode_02 = refl

opcode_03 : form_of 3 ≡ form op.Breakpoint Translated false ([]) (goes_on (codes false false false false) (codes false false false false))
unfolding integer_opcodes control_opcodes mixed_opcodes move_opcodes bit_opcodes operands_of operands_of_long operation_at class_of_operation is_long_operation code_use_of tested_by written_by_binary written_by_long
opcode_03 = refl

opcode_04 : form_of 4 ≡ form (op.Long long.Return) Tie true ([]) (may_jump (codes false false false false) (codes true true true true))
unfolding integer_opcodes control_opcodes mixed_opcodes move_opcodes bit_opcodes operands_of operands_of_long operation_at class_of_operation is_long_operation code_use_of tested_by written_by_binary written_by_long
opcode_04 = refl

opcode_05 : form_of 5 ≡ form op.ReturnFromSubroutine Translated false ([]) (may_jump (codes false false false false) (codes false false false false))
unfolding integer_opcodes control_opcodes mixed_opcodes move_opcodes bit_opcodes operands_of operands_of_long operation_at class_of_operation is_long_operation code_use_of tested_by written_by_binary written_by_long
opcode_05 = refl

opcode_06 : form_of 6 ≡ reserved
unfolding integer_opcodes control_opcodes mixed_opcodes move_opcodes bit_opcodes operands_of operands_of_long operation_at class_of_operation is_long_operation code_use_of tested_by written_by_binary written_by_long
opcode_06 = refl

opcode_07 : form_of 7 ≡ reserved
unfolding integer_opcodes control_opcodes mixed_opcodes move_opcodes bit_opcodes operands_of operands_of_long operation_at class_of_operation is_long_operation code_use_of tested_by written_by_binary written_by_long
opcode_07 = refl

opcode_08 : form_of 8 ≡ reserved
unfolding integer_opcodes control_opcodes mixed_opcodes move_opcodes bit_opcodes operands_of operands_of_long operation_at class_of_operation is_long_operation code_use_of tested_by written_by_binary written_by_long
opcode_08 = refl

opcode_09 : form_of 9 ≡ reserved
unfolding integer_opcodes control_opcodes mixed_opcodes move_opcodes bit_opcodes operands_of operands_of_long operation_at class_of_operation is_long_operation code_use_of tested_by written_by_binary written_by_long
opcode_09 = refl

opcode_0A : form_of 10 ≡ form (op.Long long.Index) Tie true ((Read, sizes.Long) ∷ (Read, sizes.Long) ∷ (Read, sizes.Long) ∷ (Read, sizes.Long) ∷ (Read, sizes.Long) ∷ (Write, sizes.Long) ∷ []) (goes_on (codes false false false false) (codes true true true true))
unfolding integer_opcodes control_opcodes mixed_opcodes move_opcodes bit_opcodes operands_of operands_of_long operation_at class_of_operation is_long_operation code_use_of tested_by written_by_binary written_by_long
opcode_0A = refl

opcode_0B : form_of 11 ≡ reserved
unfolding integer_opcodes control_opcodes mixed_opcodes move_opcodes bit_opcodes operands_of operands_of_long operation_at class_of_operation is_long_operation code_use_of tested_by written_by_binary written_by_long
opcode_0B = refl

opcode_0C : form_of 12 ≡ reserved
unfolding integer_opcodes control_opcodes mixed_opcodes move_opcodes bit_opcodes operands_of operands_of_long operation_at class_of_operation is_long_operation code_use_of tested_by written_by_binary written_by_long
opcode_0C = refl

opcode_0D : form_of 13 ≡ reserved
unfolding integer_opcodes control_opcodes mixed_opcodes move_opcodes bit_opcodes operands_of operands_of_long operation_at class_of_operation is_long_operation code_use_of tested_by written_by_binary written_by_long
opcode_0D = refl

opcode_0E : form_of 14 ≡ reserved
unfolding integer_opcodes control_opcodes mixed_opcodes move_opcodes bit_opcodes operands_of operands_of_long operation_at class_of_operation is_long_operation code_use_of tested_by written_by_binary written_by_long
opcode_0E = refl

opcode_0F : form_of 15 ≡ reserved
unfolding integer_opcodes control_opcodes mixed_opcodes move_opcodes bit_opcodes operands_of operands_of_long operation_at class_of_operation is_long_operation code_use_of tested_by written_by_binary written_by_long
opcode_0F = refl

opcode_10 : form_of 16 ≡ form (op.BranchToSubroutine Byte) Translated false ((accesses.Branch, sizes.Byte) ∷ []) (may_jump (codes false false false false) (codes false false false false))
unfolding integer_opcodes control_opcodes mixed_opcodes move_opcodes bit_opcodes operands_of operands_of_long operation_at class_of_operation is_long_operation code_use_of tested_by written_by_binary written_by_long
opcode_10 = refl

opcode_11 : form_of 17 ≡ form (op.Branch Byte) Translated false ((accesses.Branch, sizes.Byte) ∷ []) (may_jump (codes false false false false) (codes false false false false))
unfolding integer_opcodes control_opcodes mixed_opcodes move_opcodes bit_opcodes operands_of operands_of_long operation_at class_of_operation is_long_operation code_use_of tested_by written_by_binary written_by_long
opcode_11 = refl

opcode_12 : form_of 18 ≡ form (op.BranchIf NotEqual) Translated false ((accesses.Branch, sizes.Byte) ∷ []) (may_jump (codes false true false false) (codes false false false false))
unfolding integer_opcodes control_opcodes mixed_opcodes move_opcodes bit_opcodes operands_of operands_of_long operation_at class_of_operation is_long_operation code_use_of tested_by written_by_binary written_by_long
opcode_12 = refl

opcode_13 : form_of 19 ≡ form (op.BranchIf Equal) Translated false ((accesses.Branch, sizes.Byte) ∷ []) (may_jump (codes false true false false) (codes false false false false))
unfolding integer_opcodes control_opcodes mixed_opcodes move_opcodes bit_opcodes operands_of operands_of_long operation_at class_of_operation is_long_operation code_use_of tested_by written_by_binary written_by_long
opcode_13 = refl

opcode_14 : form_of 20 ≡ form (op.BranchIf Greater) Translated false ((accesses.Branch, sizes.Byte) ∷ []) (may_jump (codes true true false false) (codes false false false false))
unfolding integer_opcodes control_opcodes mixed_opcodes move_opcodes bit_opcodes operands_of operands_of_long operation_at class_of_operation is_long_operation code_use_of tested_by written_by_binary written_by_long
opcode_14 = refl

opcode_15 : form_of 21 ≡ form (op.BranchIf LessOrEqual) Translated false ((accesses.Branch, sizes.Byte) ∷ []) (may_jump (codes true true false false) (codes false false false false))
unfolding integer_opcodes control_opcodes mixed_opcodes move_opcodes bit_opcodes operands_of operands_of_long operation_at class_of_operation is_long_operation code_use_of tested_by written_by_binary written_by_long
opcode_15 = refl

opcode_16 : form_of 22 ≡ form op.JumpToSubroutine Translated false ((Address, sizes.Byte) ∷ []) (may_jump (codes false false false false) (codes false false false false))
unfolding integer_opcodes control_opcodes mixed_opcodes move_opcodes bit_opcodes operands_of operands_of_long operation_at class_of_operation is_long_operation code_use_of tested_by written_by_binary written_by_long
opcode_16 = refl

opcode_17 : form_of 23 ≡ form op.Jump Translated false ((Address, sizes.Byte) ∷ []) (may_jump (codes false false false false) (codes false false false false))
unfolding integer_opcodes control_opcodes mixed_opcodes move_opcodes bit_opcodes operands_of operands_of_long operation_at class_of_operation is_long_operation code_use_of tested_by written_by_binary written_by_long
opcode_17 = refl

opcode_18 : form_of 24 ≡ form (op.BranchIf GreaterOrEqual) Translated false ((accesses.Branch, sizes.Byte) ∷ []) (may_jump (codes true false false false) (codes false false false false))
unfolding integer_opcodes control_opcodes mixed_opcodes move_opcodes bit_opcodes operands_of operands_of_long operation_at class_of_operation is_long_operation code_use_of tested_by written_by_binary written_by_long
opcode_18 = refl

opcode_19 : form_of 25 ≡ form (op.BranchIf Less) Translated false ((accesses.Branch, sizes.Byte) ∷ []) (may_jump (codes true false false false) (codes false false false false))
unfolding integer_opcodes control_opcodes mixed_opcodes move_opcodes bit_opcodes operands_of operands_of_long operation_at class_of_operation is_long_operation code_use_of tested_by written_by_binary written_by_long
opcode_19 = refl

opcode_1A : form_of 26 ≡ form (op.BranchIf GreaterUnsigned) Translated false ((accesses.Branch, sizes.Byte) ∷ []) (may_jump (codes false true false true) (codes false false false false))
unfolding integer_opcodes control_opcodes mixed_opcodes move_opcodes bit_opcodes operands_of operands_of_long operation_at class_of_operation is_long_operation code_use_of tested_by written_by_binary written_by_long
opcode_1A = refl

opcode_1B : form_of 27 ≡ form (op.BranchIf LessOrEqualUnsigned) Translated false ((accesses.Branch, sizes.Byte) ∷ []) (may_jump (codes false true false true) (codes false false false false))
unfolding integer_opcodes control_opcodes mixed_opcodes move_opcodes bit_opcodes operands_of operands_of_long operation_at class_of_operation is_long_operation code_use_of tested_by written_by_binary written_by_long
opcode_1B = refl

opcode_1C : form_of 28 ≡ form (op.BranchIf OverflowClear) Translated false ((accesses.Branch, sizes.Byte) ∷ []) (may_jump (codes false false true false) (codes false false false false))
unfolding integer_opcodes control_opcodes mixed_opcodes move_opcodes bit_opcodes operands_of operands_of_long operation_at class_of_operation is_long_operation code_use_of tested_by written_by_binary written_by_long
opcode_1C = refl

opcode_1D : form_of 29 ≡ form (op.BranchIf OverflowSet) Translated false ((accesses.Branch, sizes.Byte) ∷ []) (may_jump (codes false false true false) (codes false false false false))
unfolding integer_opcodes control_opcodes mixed_opcodes move_opcodes bit_opcodes operands_of operands_of_long operation_at class_of_operation is_long_operation code_use_of tested_by written_by_binary written_by_long
opcode_1D = refl

opcode_1E : form_of 30 ≡ form (op.BranchIf CarryClear) Translated false ((accesses.Branch, sizes.Byte) ∷ []) (may_jump (codes false false false true) (codes false false false false))
unfolding integer_opcodes control_opcodes mixed_opcodes move_opcodes bit_opcodes operands_of operands_of_long operation_at class_of_operation is_long_operation code_use_of tested_by written_by_binary written_by_long
opcode_1E = refl

opcode_1F : form_of 31 ≡ form (op.BranchIf CarrySet) Translated false ((accesses.Branch, sizes.Byte) ∷ []) (may_jump (codes false false false true) (codes false false false false))
unfolding integer_opcodes control_opcodes mixed_opcodes move_opcodes bit_opcodes operands_of operands_of_long operation_at class_of_operation is_long_operation code_use_of tested_by written_by_binary written_by_long
opcode_1F = refl

opcode_20 : form_of 32 ≡ reserved
unfolding integer_opcodes control_opcodes mixed_opcodes move_opcodes bit_opcodes operands_of operands_of_long operation_at class_of_operation is_long_operation code_use_of tested_by written_by_binary written_by_long
opcode_20 = refl

opcode_21 : form_of 33 ≡ reserved
unfolding integer_opcodes control_opcodes mixed_opcodes move_opcodes bit_opcodes operands_of operands_of_long operation_at class_of_operation is_long_operation code_use_of tested_by written_by_binary written_by_long
opcode_21 = refl

opcode_22 : form_of 34 ≡ reserved
unfolding integer_opcodes control_opcodes mixed_opcodes move_opcodes bit_opcodes operands_of operands_of_long operation_at class_of_operation is_long_operation code_use_of tested_by written_by_binary written_by_long
opcode_22 = refl

opcode_23 : form_of 35 ≡ reserved
unfolding integer_opcodes control_opcodes mixed_opcodes move_opcodes bit_opcodes operands_of operands_of_long operation_at class_of_operation is_long_operation code_use_of tested_by written_by_binary written_by_long
opcode_23 = refl

opcode_24 : form_of 36 ≡ reserved
unfolding integer_opcodes control_opcodes mixed_opcodes move_opcodes bit_opcodes operands_of operands_of_long operation_at class_of_operation is_long_operation code_use_of tested_by written_by_binary written_by_long
opcode_24 = refl

opcode_25 : form_of 37 ≡ reserved
unfolding integer_opcodes control_opcodes mixed_opcodes move_opcodes bit_opcodes operands_of operands_of_long operation_at class_of_operation is_long_operation code_use_of tested_by written_by_binary written_by_long
opcode_25 = refl

opcode_26 : form_of 38 ≡ reserved
unfolding integer_opcodes control_opcodes mixed_opcodes move_opcodes bit_opcodes operands_of operands_of_long operation_at class_of_operation is_long_operation code_use_of tested_by written_by_binary written_by_long
opcode_26 = refl

opcode_27 : form_of 39 ≡ reserved
unfolding integer_opcodes control_opcodes mixed_opcodes move_opcodes bit_opcodes operands_of operands_of_long operation_at class_of_operation is_long_operation code_use_of tested_by written_by_binary written_by_long
opcode_27 = refl

opcode_28 : form_of 40 ≡ form (op.Long long.MoveCharacters) Tie true ((Read, sizes.Word) ∷ (Address, sizes.Byte) ∷ (Address, sizes.Byte) ∷ []) (goes_on (codes false false false false) (codes true true true true))
unfolding integer_opcodes control_opcodes mixed_opcodes move_opcodes bit_opcodes operands_of operands_of_long operation_at class_of_operation is_long_operation code_use_of tested_by written_by_binary written_by_long
opcode_28 = refl

opcode_29 : form_of 41 ≡ form (op.Long long.CompareCharacters) Tie true ((Read, sizes.Word) ∷ (Address, sizes.Byte) ∷ (Address, sizes.Byte) ∷ []) (goes_on (codes false false false false) (codes true true true true))
unfolding integer_opcodes control_opcodes mixed_opcodes move_opcodes bit_opcodes operands_of operands_of_long operation_at class_of_operation is_long_operation code_use_of tested_by written_by_binary written_by_long
opcode_29 = refl

opcode_2A : form_of 42 ≡ reserved
unfolding integer_opcodes control_opcodes mixed_opcodes move_opcodes bit_opcodes operands_of operands_of_long operation_at class_of_operation is_long_operation code_use_of tested_by written_by_binary written_by_long
opcode_2A = refl

opcode_2B : form_of 43 ≡ reserved
unfolding integer_opcodes control_opcodes mixed_opcodes move_opcodes bit_opcodes operands_of operands_of_long operation_at class_of_operation is_long_operation code_use_of tested_by written_by_binary written_by_long
opcode_2B = refl

opcode_2C : form_of 44 ≡ form (op.Long long.MoveCharactersFilled) Tie true ((Read, sizes.Word) ∷ (Address, sizes.Byte) ∷ (Read, sizes.Byte) ∷ (Read, sizes.Word) ∷ (Address, sizes.Byte) ∷ []) (goes_on (codes false false false false) (codes true true true true))
unfolding integer_opcodes control_opcodes mixed_opcodes move_opcodes bit_opcodes operands_of operands_of_long operation_at class_of_operation is_long_operation code_use_of tested_by written_by_binary written_by_long
opcode_2C = refl

opcode_2D : form_of 45 ≡ reserved
unfolding integer_opcodes control_opcodes mixed_opcodes move_opcodes bit_opcodes operands_of operands_of_long operation_at class_of_operation is_long_operation code_use_of tested_by written_by_binary written_by_long
opcode_2D = refl

opcode_2E : form_of 46 ≡ reserved
unfolding integer_opcodes control_opcodes mixed_opcodes move_opcodes bit_opcodes operands_of operands_of_long operation_at class_of_operation is_long_operation code_use_of tested_by written_by_binary written_by_long
opcode_2E = refl

opcode_2F : form_of 47 ≡ reserved
unfolding integer_opcodes control_opcodes mixed_opcodes move_opcodes bit_opcodes operands_of operands_of_long operation_at class_of_operation is_long_operation code_use_of tested_by written_by_binary written_by_long
opcode_2F = refl

opcode_30 : form_of 48 ≡ form (op.BranchToSubroutine Word) Translated false ((accesses.Branch, sizes.Word) ∷ []) (may_jump (codes false false false false) (codes false false false false))
unfolding integer_opcodes control_opcodes mixed_opcodes move_opcodes bit_opcodes operands_of operands_of_long operation_at class_of_operation is_long_operation code_use_of tested_by written_by_binary written_by_long
opcode_30 = refl

opcode_31 : form_of 49 ≡ form (op.Branch Word) Translated false ((accesses.Branch, sizes.Word) ∷ []) (may_jump (codes false false false false) (codes false false false false))
unfolding integer_opcodes control_opcodes mixed_opcodes move_opcodes bit_opcodes operands_of operands_of_long operation_at class_of_operation is_long_operation code_use_of tested_by written_by_binary written_by_long
opcode_31 = refl

opcode_32 : form_of 50 ≡ form (op.Convert Word Long) Translated false ((Read, sizes.Word) ∷ (Write, sizes.Long) ∷ []) (goes_on (codes false false false false) (codes true true true true))
unfolding integer_opcodes control_opcodes mixed_opcodes move_opcodes bit_opcodes operands_of operands_of_long operation_at class_of_operation is_long_operation code_use_of tested_by written_by_binary written_by_long
opcode_32 = refl

opcode_33 : form_of 51 ≡ form (op.Convert Word Byte) Translated false ((Read, sizes.Word) ∷ (Write, sizes.Byte) ∷ []) (goes_on (codes false false false false) (codes true true true true))
unfolding integer_opcodes control_opcodes mixed_opcodes move_opcodes bit_opcodes operands_of operands_of_long operation_at class_of_operation is_long_operation code_use_of tested_by written_by_binary written_by_long
opcode_33 = refl

opcode_34 : form_of 52 ≡ reserved
unfolding integer_opcodes control_opcodes mixed_opcodes move_opcodes bit_opcodes operands_of operands_of_long operation_at class_of_operation is_long_operation code_use_of tested_by written_by_binary written_by_long
opcode_34 = refl

opcode_35 : form_of 53 ≡ reserved
unfolding integer_opcodes control_opcodes mixed_opcodes move_opcodes bit_opcodes operands_of operands_of_long operation_at class_of_operation is_long_operation code_use_of tested_by written_by_binary written_by_long
opcode_35 = refl

opcode_36 : form_of 54 ≡ reserved
unfolding integer_opcodes control_opcodes mixed_opcodes move_opcodes bit_opcodes operands_of operands_of_long operation_at class_of_operation is_long_operation code_use_of tested_by written_by_binary written_by_long
opcode_36 = refl

opcode_37 : form_of 55 ≡ reserved
unfolding integer_opcodes control_opcodes mixed_opcodes move_opcodes bit_opcodes operands_of operands_of_long operation_at class_of_operation is_long_operation code_use_of tested_by written_by_binary written_by_long
opcode_37 = refl

opcode_38 : form_of 56 ≡ reserved
unfolding integer_opcodes control_opcodes mixed_opcodes move_opcodes bit_opcodes operands_of operands_of_long operation_at class_of_operation is_long_operation code_use_of tested_by written_by_binary written_by_long
opcode_38 = refl

opcode_39 : form_of 57 ≡ reserved
unfolding integer_opcodes control_opcodes mixed_opcodes move_opcodes bit_opcodes operands_of operands_of_long operation_at class_of_operation is_long_operation code_use_of tested_by written_by_binary written_by_long
opcode_39 = refl

opcode_3A : form_of 58 ≡ form (op.Long long.LocateCharacter) Tie true ((Read, sizes.Byte) ∷ (Read, sizes.Word) ∷ (Address, sizes.Byte) ∷ []) (goes_on (codes false false false false) (codes true true true true))
unfolding integer_opcodes control_opcodes mixed_opcodes move_opcodes bit_opcodes operands_of operands_of_long operation_at class_of_operation is_long_operation code_use_of tested_by written_by_binary written_by_long
opcode_3A = refl

opcode_3B : form_of 59 ≡ form (op.Long long.SkipCharacter) Tie true ((Read, sizes.Byte) ∷ (Read, sizes.Word) ∷ (Address, sizes.Byte) ∷ []) (goes_on (codes false false false false) (codes true true true true))
unfolding integer_opcodes control_opcodes mixed_opcodes move_opcodes bit_opcodes operands_of operands_of_long operation_at class_of_operation is_long_operation code_use_of tested_by written_by_binary written_by_long
opcode_3B = refl

opcode_3C : form_of 60 ≡ form (op.MoveZeroExtended Word Long) Translated false ((Read, sizes.Word) ∷ (Write, sizes.Long) ∷ []) (goes_on (codes false false false false) (codes true true true false))
unfolding integer_opcodes control_opcodes mixed_opcodes move_opcodes bit_opcodes operands_of operands_of_long operation_at class_of_operation is_long_operation code_use_of tested_by written_by_binary written_by_long
opcode_3C = refl

opcode_3D : form_of 61 ≡ form (op.AddCompareBranch Word) Translated false ((Read, sizes.Word) ∷ (Read, sizes.Word) ∷ (Modify, sizes.Word) ∷ (accesses.Branch, sizes.Word) ∷ []) (may_jump (codes false false false false) (codes true true true false))
unfolding integer_opcodes control_opcodes mixed_opcodes move_opcodes bit_opcodes operands_of operands_of_long operation_at class_of_operation is_long_operation code_use_of tested_by written_by_binary written_by_long
opcode_3D = refl

opcode_3E : form_of 62 ≡ form (op.MoveAddress sizes.Word) Translated false ((Address, sizes.Word) ∷ (Write, sizes.Long) ∷ []) (goes_on (codes false false false false) (codes true true true false))
unfolding integer_opcodes control_opcodes mixed_opcodes move_opcodes bit_opcodes operands_of operands_of_long operation_at class_of_operation is_long_operation code_use_of tested_by written_by_binary written_by_long
opcode_3E = refl

opcode_3F : form_of 63 ≡ form (op.PushAddress sizes.Word) Translated false ((Address, sizes.Word) ∷ []) (goes_on (codes false false false false) (codes true true true false))
unfolding integer_opcodes control_opcodes mixed_opcodes move_opcodes bit_opcodes operands_of operands_of_long operation_at class_of_operation is_long_operation code_use_of tested_by written_by_binary written_by_long
opcode_3F = refl

opcode_40 : form_of 64 ≡ reserved
unfolding integer_opcodes control_opcodes mixed_opcodes move_opcodes bit_opcodes operands_of operands_of_long operation_at class_of_operation is_long_operation code_use_of tested_by written_by_binary written_by_long
opcode_40 = refl

opcode_41 : form_of 65 ≡ reserved
unfolding integer_opcodes control_opcodes mixed_opcodes move_opcodes bit_opcodes operands_of operands_of_long operation_at class_of_operation is_long_operation code_use_of tested_by written_by_binary written_by_long
opcode_41 = refl

opcode_42 : form_of 66 ≡ reserved
unfolding integer_opcodes control_opcodes mixed_opcodes move_opcodes bit_opcodes operands_of operands_of_long operation_at class_of_operation is_long_operation code_use_of tested_by written_by_binary written_by_long
opcode_42 = refl

opcode_43 : form_of 67 ≡ reserved
unfolding integer_opcodes control_opcodes mixed_opcodes move_opcodes bit_opcodes operands_of operands_of_long operation_at class_of_operation is_long_operation code_use_of tested_by written_by_binary written_by_long
opcode_43 = refl

opcode_44 : form_of 68 ≡ reserved
unfolding integer_opcodes control_opcodes mixed_opcodes move_opcodes bit_opcodes operands_of operands_of_long operation_at class_of_operation is_long_operation code_use_of tested_by written_by_binary written_by_long
opcode_44 = refl

opcode_45 : form_of 69 ≡ reserved
unfolding integer_opcodes control_opcodes mixed_opcodes move_opcodes bit_opcodes operands_of operands_of_long operation_at class_of_operation is_long_operation code_use_of tested_by written_by_binary written_by_long
opcode_45 = refl

opcode_46 : form_of 70 ≡ reserved
unfolding integer_opcodes control_opcodes mixed_opcodes move_opcodes bit_opcodes operands_of operands_of_long operation_at class_of_operation is_long_operation code_use_of tested_by written_by_binary written_by_long
opcode_46 = refl

opcode_47 : form_of 71 ≡ reserved
unfolding integer_opcodes control_opcodes mixed_opcodes move_opcodes bit_opcodes operands_of operands_of_long operation_at class_of_operation is_long_operation code_use_of tested_by written_by_binary written_by_long
opcode_47 = refl

opcode_48 : form_of 72 ≡ reserved
unfolding integer_opcodes control_opcodes mixed_opcodes move_opcodes bit_opcodes operands_of operands_of_long operation_at class_of_operation is_long_operation code_use_of tested_by written_by_binary written_by_long
opcode_48 = refl

opcode_49 : form_of 73 ≡ reserved
unfolding integer_opcodes control_opcodes mixed_opcodes move_opcodes bit_opcodes operands_of operands_of_long operation_at class_of_operation is_long_operation code_use_of tested_by written_by_binary written_by_long
opcode_49 = refl

opcode_4A : form_of 74 ≡ reserved
unfolding integer_opcodes control_opcodes mixed_opcodes move_opcodes bit_opcodes operands_of operands_of_long operation_at class_of_operation is_long_operation code_use_of tested_by written_by_binary written_by_long
opcode_4A = refl

opcode_4B : form_of 75 ≡ reserved
unfolding integer_opcodes control_opcodes mixed_opcodes move_opcodes bit_opcodes operands_of operands_of_long operation_at class_of_operation is_long_operation code_use_of tested_by written_by_binary written_by_long
opcode_4B = refl

opcode_4C : form_of 76 ≡ reserved
unfolding integer_opcodes control_opcodes mixed_opcodes move_opcodes bit_opcodes operands_of operands_of_long operation_at class_of_operation is_long_operation code_use_of tested_by written_by_binary written_by_long
opcode_4C = refl

opcode_4D : form_of 77 ≡ reserved
unfolding integer_opcodes control_opcodes mixed_opcodes move_opcodes bit_opcodes operands_of operands_of_long operation_at class_of_operation is_long_operation code_use_of tested_by written_by_binary written_by_long
opcode_4D = refl

opcode_4E : form_of 78 ≡ reserved
unfolding integer_opcodes control_opcodes mixed_opcodes move_opcodes bit_opcodes operands_of operands_of_long operation_at class_of_operation is_long_operation code_use_of tested_by written_by_binary written_by_long
opcode_4E = refl

opcode_4F : form_of 79 ≡ reserved
unfolding integer_opcodes control_opcodes mixed_opcodes move_opcodes bit_opcodes operands_of operands_of_long operation_at class_of_operation is_long_operation code_use_of tested_by written_by_binary written_by_long
opcode_4F = refl

opcode_50 : form_of 80 ≡ reserved
unfolding integer_opcodes control_opcodes mixed_opcodes move_opcodes bit_opcodes operands_of operands_of_long operation_at class_of_operation is_long_operation code_use_of tested_by written_by_binary written_by_long
opcode_50 = refl

opcode_51 : form_of 81 ≡ reserved
unfolding integer_opcodes control_opcodes mixed_opcodes move_opcodes bit_opcodes operands_of operands_of_long operation_at class_of_operation is_long_operation code_use_of tested_by written_by_binary written_by_long
opcode_51 = refl

opcode_52 : form_of 82 ≡ reserved
unfolding integer_opcodes control_opcodes mixed_opcodes move_opcodes bit_opcodes operands_of operands_of_long operation_at class_of_operation is_long_operation code_use_of tested_by written_by_binary written_by_long
opcode_52 = refl

opcode_53 : form_of 83 ≡ reserved
unfolding integer_opcodes control_opcodes mixed_opcodes move_opcodes bit_opcodes operands_of operands_of_long operation_at class_of_operation is_long_operation code_use_of tested_by written_by_binary written_by_long
opcode_53 = refl

opcode_54 : form_of 84 ≡ reserved
unfolding integer_opcodes control_opcodes mixed_opcodes move_opcodes bit_opcodes operands_of operands_of_long operation_at class_of_operation is_long_operation code_use_of tested_by written_by_binary written_by_long
opcode_54 = refl

opcode_55 : form_of 85 ≡ reserved
unfolding integer_opcodes control_opcodes mixed_opcodes move_opcodes bit_opcodes operands_of operands_of_long operation_at class_of_operation is_long_operation code_use_of tested_by written_by_binary written_by_long
opcode_55 = refl

opcode_56 : form_of 86 ≡ reserved
unfolding integer_opcodes control_opcodes mixed_opcodes move_opcodes bit_opcodes operands_of operands_of_long operation_at class_of_operation is_long_operation code_use_of tested_by written_by_binary written_by_long
opcode_56 = refl

opcode_57 : form_of 87 ≡ reserved
unfolding integer_opcodes control_opcodes mixed_opcodes move_opcodes bit_opcodes operands_of operands_of_long operation_at class_of_operation is_long_operation code_use_of tested_by written_by_binary written_by_long
opcode_57 = refl

opcode_58 : form_of 88 ≡ form op.AddAlignedWord Translated false ((Read, sizes.Word) ∷ (Modify, sizes.Word) ∷ []) (goes_on (codes false false false false) (codes true true true true))
unfolding integer_opcodes control_opcodes mixed_opcodes move_opcodes bit_opcodes operands_of operands_of_long operation_at class_of_operation is_long_operation code_use_of tested_by written_by_binary written_by_long
opcode_58 = refl

opcode_59 : form_of 89 ≡ reserved
unfolding integer_opcodes control_opcodes mixed_opcodes move_opcodes bit_opcodes operands_of operands_of_long operation_at class_of_operation is_long_operation code_use_of tested_by written_by_binary written_by_long
opcode_59 = refl

opcode_5A : form_of 90 ≡ reserved
unfolding integer_opcodes control_opcodes mixed_opcodes move_opcodes bit_opcodes operands_of operands_of_long operation_at class_of_operation is_long_operation code_use_of tested_by written_by_binary written_by_long
opcode_5A = refl

opcode_5B : form_of 91 ≡ reserved
unfolding integer_opcodes control_opcodes mixed_opcodes move_opcodes bit_opcodes operands_of operands_of_long operation_at class_of_operation is_long_operation code_use_of tested_by written_by_binary written_by_long
opcode_5B = refl

opcode_5C : form_of 92 ≡ reserved
unfolding integer_opcodes control_opcodes mixed_opcodes move_opcodes bit_opcodes operands_of operands_of_long operation_at class_of_operation is_long_operation code_use_of tested_by written_by_binary written_by_long
opcode_5C = refl

opcode_5D : form_of 93 ≡ reserved
unfolding integer_opcodes control_opcodes mixed_opcodes move_opcodes bit_opcodes operands_of operands_of_long operation_at class_of_operation is_long_operation code_use_of tested_by written_by_binary written_by_long
opcode_5D = refl

opcode_5E : form_of 94 ≡ reserved
unfolding integer_opcodes control_opcodes mixed_opcodes move_opcodes bit_opcodes operands_of operands_of_long operation_at class_of_operation is_long_operation code_use_of tested_by written_by_binary written_by_long
opcode_5E = refl

opcode_5F : form_of 95 ≡ reserved
unfolding integer_opcodes control_opcodes mixed_opcodes move_opcodes bit_opcodes operands_of operands_of_long operation_at class_of_operation is_long_operation code_use_of tested_by written_by_binary written_by_long
opcode_5F = refl

opcode_60 : form_of 96 ≡ reserved
unfolding integer_opcodes control_opcodes mixed_opcodes move_opcodes bit_opcodes operands_of operands_of_long operation_at class_of_operation is_long_operation code_use_of tested_by written_by_binary written_by_long
opcode_60 = refl

opcode_61 : form_of 97 ≡ reserved
unfolding integer_opcodes control_opcodes mixed_opcodes move_opcodes bit_opcodes operands_of operands_of_long operation_at class_of_operation is_long_operation code_use_of tested_by written_by_binary written_by_long
opcode_61 = refl

opcode_62 : form_of 98 ≡ reserved
unfolding integer_opcodes control_opcodes mixed_opcodes move_opcodes bit_opcodes operands_of operands_of_long operation_at class_of_operation is_long_operation code_use_of tested_by written_by_binary written_by_long
opcode_62 = refl

opcode_63 : form_of 99 ≡ reserved
unfolding integer_opcodes control_opcodes mixed_opcodes move_opcodes bit_opcodes operands_of operands_of_long operation_at class_of_operation is_long_operation code_use_of tested_by written_by_binary written_by_long
opcode_63 = refl

opcode_64 : form_of 100 ≡ reserved
unfolding integer_opcodes control_opcodes mixed_opcodes move_opcodes bit_opcodes operands_of operands_of_long operation_at class_of_operation is_long_operation code_use_of tested_by written_by_binary written_by_long
opcode_64 = refl

opcode_65 : form_of 101 ≡ reserved
unfolding integer_opcodes control_opcodes mixed_opcodes move_opcodes bit_opcodes operands_of operands_of_long operation_at class_of_operation is_long_operation code_use_of tested_by written_by_binary written_by_long
opcode_65 = refl

opcode_66 : form_of 102 ≡ reserved
unfolding integer_opcodes control_opcodes mixed_opcodes move_opcodes bit_opcodes operands_of operands_of_long operation_at class_of_operation is_long_operation code_use_of tested_by written_by_binary written_by_long
opcode_66 = refl

opcode_67 : form_of 103 ≡ reserved
unfolding integer_opcodes control_opcodes mixed_opcodes move_opcodes bit_opcodes operands_of operands_of_long operation_at class_of_operation is_long_operation code_use_of tested_by written_by_binary written_by_long
opcode_67 = refl

opcode_68 : form_of 104 ≡ reserved
unfolding integer_opcodes control_opcodes mixed_opcodes move_opcodes bit_opcodes operands_of operands_of_long operation_at class_of_operation is_long_operation code_use_of tested_by written_by_binary written_by_long
opcode_68 = refl

opcode_69 : form_of 105 ≡ reserved
unfolding integer_opcodes control_opcodes mixed_opcodes move_opcodes bit_opcodes operands_of operands_of_long operation_at class_of_operation is_long_operation code_use_of tested_by written_by_binary written_by_long
opcode_69 = refl

opcode_6A : form_of 106 ≡ reserved
unfolding integer_opcodes control_opcodes mixed_opcodes move_opcodes bit_opcodes operands_of operands_of_long operation_at class_of_operation is_long_operation code_use_of tested_by written_by_binary written_by_long
opcode_6A = refl

opcode_6B : form_of 107 ≡ reserved
unfolding integer_opcodes control_opcodes mixed_opcodes move_opcodes bit_opcodes operands_of operands_of_long operation_at class_of_operation is_long_operation code_use_of tested_by written_by_binary written_by_long
opcode_6B = refl

opcode_6C : form_of 108 ≡ reserved
unfolding integer_opcodes control_opcodes mixed_opcodes move_opcodes bit_opcodes operands_of operands_of_long operation_at class_of_operation is_long_operation code_use_of tested_by written_by_binary written_by_long
opcode_6C = refl

opcode_6D : form_of 109 ≡ reserved
unfolding integer_opcodes control_opcodes mixed_opcodes move_opcodes bit_opcodes operands_of operands_of_long operation_at class_of_operation is_long_operation code_use_of tested_by written_by_binary written_by_long
opcode_6D = refl

opcode_6E : form_of 110 ≡ reserved
unfolding integer_opcodes control_opcodes mixed_opcodes move_opcodes bit_opcodes operands_of operands_of_long operation_at class_of_operation is_long_operation code_use_of tested_by written_by_binary written_by_long
opcode_6E = refl

opcode_6F : form_of 111 ≡ reserved
unfolding integer_opcodes control_opcodes mixed_opcodes move_opcodes bit_opcodes operands_of operands_of_long operation_at class_of_operation is_long_operation code_use_of tested_by written_by_binary written_by_long
opcode_6F = refl

opcode_70 : form_of 112 ≡ reserved
unfolding integer_opcodes control_opcodes mixed_opcodes move_opcodes bit_opcodes operands_of operands_of_long operation_at class_of_operation is_long_operation code_use_of tested_by written_by_binary written_by_long
opcode_70 = refl

opcode_71 : form_of 113 ≡ reserved
unfolding integer_opcodes control_opcodes mixed_opcodes move_opcodes bit_opcodes operands_of operands_of_long operation_at class_of_operation is_long_operation code_use_of tested_by written_by_binary written_by_long
opcode_71 = refl

opcode_72 : form_of 114 ≡ reserved
unfolding integer_opcodes control_opcodes mixed_opcodes move_opcodes bit_opcodes operands_of operands_of_long operation_at class_of_operation is_long_operation code_use_of tested_by written_by_binary written_by_long
opcode_72 = refl

opcode_73 : form_of 115 ≡ reserved
unfolding integer_opcodes control_opcodes mixed_opcodes move_opcodes bit_opcodes operands_of operands_of_long operation_at class_of_operation is_long_operation code_use_of tested_by written_by_binary written_by_long
opcode_73 = refl

opcode_74 : form_of 116 ≡ reserved
unfolding integer_opcodes control_opcodes mixed_opcodes move_opcodes bit_opcodes operands_of operands_of_long operation_at class_of_operation is_long_operation code_use_of tested_by written_by_binary written_by_long
opcode_74 = refl

opcode_75 : form_of 117 ≡ reserved
unfolding integer_opcodes control_opcodes mixed_opcodes move_opcodes bit_opcodes operands_of operands_of_long operation_at class_of_operation is_long_operation code_use_of tested_by written_by_binary written_by_long
opcode_75 = refl

opcode_76 : form_of 118 ≡ reserved
unfolding integer_opcodes control_opcodes mixed_opcodes move_opcodes bit_opcodes operands_of operands_of_long operation_at class_of_operation is_long_operation code_use_of tested_by written_by_binary written_by_long
opcode_76 = refl

opcode_77 : form_of 119 ≡ reserved
unfolding integer_opcodes control_opcodes mixed_opcodes move_opcodes bit_opcodes operands_of operands_of_long operation_at class_of_operation is_long_operation code_use_of tested_by written_by_binary written_by_long
opcode_77 = refl

opcode_78 : form_of 120 ≡ form op.ArithmeticShift Translated false ((Read, sizes.Byte) ∷ (Read, sizes.Long) ∷ (Write, sizes.Long) ∷ []) (goes_on (codes false false false false) (codes true true true true))
unfolding integer_opcodes control_opcodes mixed_opcodes move_opcodes bit_opcodes operands_of operands_of_long operation_at class_of_operation is_long_operation code_use_of tested_by written_by_binary written_by_long
opcode_78 = refl

opcode_79 : form_of 121 ≡ reserved
unfolding integer_opcodes control_opcodes mixed_opcodes move_opcodes bit_opcodes operands_of operands_of_long operation_at class_of_operation is_long_operation code_use_of tested_by written_by_binary written_by_long
opcode_79 = refl

opcode_7A : form_of 122 ≡ form op.ExtendedMultiply Translated false ((Read, sizes.Long) ∷ (Read, sizes.Long) ∷ (Read, sizes.Long) ∷ (Write, sizes.Quad) ∷ []) (goes_on (codes false false false false) (codes true true true true))
unfolding integer_opcodes control_opcodes mixed_opcodes move_opcodes bit_opcodes operands_of operands_of_long operation_at class_of_operation is_long_operation code_use_of tested_by written_by_binary written_by_long
opcode_7A = refl

opcode_7B : form_of 123 ≡ reserved
unfolding integer_opcodes control_opcodes mixed_opcodes move_opcodes bit_opcodes operands_of operands_of_long operation_at class_of_operation is_long_operation code_use_of tested_by written_by_binary written_by_long
opcode_7B = refl

opcode_7C : form_of 124 ≡ form (op.Clear sizes.Quad) Translated false ((Write, sizes.Quad) ∷ []) (goes_on (codes false false false false) (codes true true true false))
unfolding integer_opcodes control_opcodes mixed_opcodes move_opcodes bit_opcodes operands_of operands_of_long operation_at class_of_operation is_long_operation code_use_of tested_by written_by_binary written_by_long
opcode_7C = refl

opcode_7D : form_of 125 ≡ form (op.Move sizes.Quad) Translated false ((Read, sizes.Quad) ∷ (Write, sizes.Quad) ∷ []) (goes_on (codes false false false false) (codes true true true false))
unfolding integer_opcodes control_opcodes mixed_opcodes move_opcodes bit_opcodes operands_of operands_of_long operation_at class_of_operation is_long_operation code_use_of tested_by written_by_binary written_by_long
opcode_7D = refl

opcode_7E : form_of 126 ≡ form (op.MoveAddress sizes.Quad) Translated false ((Address, sizes.Quad) ∷ (Write, sizes.Long) ∷ []) (goes_on (codes false false false false) (codes true true true false))
unfolding integer_opcodes control_opcodes mixed_opcodes move_opcodes bit_opcodes operands_of operands_of_long operation_at class_of_operation is_long_operation code_use_of tested_by written_by_binary written_by_long
opcode_7E = refl

opcode_7F : form_of 127 ≡ form (op.PushAddress sizes.Quad) Translated false ((Address, sizes.Quad) ∷ []) (goes_on (codes false false false false) (codes true true true false))
unfolding integer_opcodes control_opcodes mixed_opcodes move_opcodes bit_opcodes operands_of operands_of_long operation_at class_of_operation is_long_operation code_use_of tested_by written_by_binary written_by_long
opcode_7F = refl

opcode_80 : form_of 128 ≡ form (op.TwoOperands Add Byte) Translated false ((Read, sizes.Byte) ∷ (Modify, sizes.Byte) ∷ []) (goes_on (codes false false false false) (codes true true true true))
unfolding integer_opcodes control_opcodes mixed_opcodes move_opcodes bit_opcodes operands_of operands_of_long operation_at class_of_operation is_long_operation code_use_of tested_by written_by_binary written_by_long
opcode_80 = refl

opcode_81 : form_of 129 ≡ form (op.ThreeOperands Add Byte) Translated false ((Read, sizes.Byte) ∷ (Read, sizes.Byte) ∷ (Write, sizes.Byte) ∷ []) (goes_on (codes false false false false) (codes true true true true))
unfolding integer_opcodes control_opcodes mixed_opcodes move_opcodes bit_opcodes operands_of operands_of_long operation_at class_of_operation is_long_operation code_use_of tested_by written_by_binary written_by_long
opcode_81 = refl

opcode_82 : form_of 130 ≡ form (op.TwoOperands Subtract Byte) Translated false ((Read, sizes.Byte) ∷ (Modify, sizes.Byte) ∷ []) (goes_on (codes false false false false) (codes true true true true))
unfolding integer_opcodes control_opcodes mixed_opcodes move_opcodes bit_opcodes operands_of operands_of_long operation_at class_of_operation is_long_operation code_use_of tested_by written_by_binary written_by_long
opcode_82 = refl

opcode_83 : form_of 131 ≡ form (op.ThreeOperands Subtract Byte) Translated false ((Read, sizes.Byte) ∷ (Read, sizes.Byte) ∷ (Write, sizes.Byte) ∷ []) (goes_on (codes false false false false) (codes true true true true))
unfolding integer_opcodes control_opcodes mixed_opcodes move_opcodes bit_opcodes operands_of operands_of_long operation_at class_of_operation is_long_operation code_use_of tested_by written_by_binary written_by_long
opcode_83 = refl

opcode_84 : form_of 132 ≡ form (op.TwoOperands Multiply Byte) Translated false ((Read, sizes.Byte) ∷ (Modify, sizes.Byte) ∷ []) (goes_on (codes false false false false) (codes true true true true))
unfolding integer_opcodes control_opcodes mixed_opcodes move_opcodes bit_opcodes operands_of operands_of_long operation_at class_of_operation is_long_operation code_use_of tested_by written_by_binary written_by_long
opcode_84 = refl

opcode_85 : form_of 133 ≡ form (op.ThreeOperands Multiply Byte) Translated false ((Read, sizes.Byte) ∷ (Read, sizes.Byte) ∷ (Write, sizes.Byte) ∷ []) (goes_on (codes false false false false) (codes true true true true))
unfolding integer_opcodes control_opcodes mixed_opcodes move_opcodes bit_opcodes operands_of operands_of_long operation_at class_of_operation is_long_operation code_use_of tested_by written_by_binary written_by_long
opcode_85 = refl

opcode_86 : form_of 134 ≡ form (op.TwoOperands Divide Byte) Tie false ((Read, sizes.Byte) ∷ (Modify, sizes.Byte) ∷ []) (goes_on (codes false false false false) (codes true true true true))
unfolding integer_opcodes control_opcodes mixed_opcodes move_opcodes bit_opcodes operands_of operands_of_long operation_at class_of_operation is_long_operation code_use_of tested_by written_by_binary written_by_long
opcode_86 = refl

opcode_87 : form_of 135 ≡ form (op.ThreeOperands Divide Byte) Tie false ((Read, sizes.Byte) ∷ (Read, sizes.Byte) ∷ (Write, sizes.Byte) ∷ []) (goes_on (codes false false false false) (codes true true true true))
unfolding integer_opcodes control_opcodes mixed_opcodes move_opcodes bit_opcodes operands_of operands_of_long operation_at class_of_operation is_long_operation code_use_of tested_by written_by_binary written_by_long
opcode_87 = refl

opcode_88 : form_of 136 ≡ form (op.TwoOperands BitSet Byte) Translated false ((Read, sizes.Byte) ∷ (Modify, sizes.Byte) ∷ []) (goes_on (codes false false false false) (codes true true true false))
unfolding integer_opcodes control_opcodes mixed_opcodes move_opcodes bit_opcodes operands_of operands_of_long operation_at class_of_operation is_long_operation code_use_of tested_by written_by_binary written_by_long
opcode_88 = refl

opcode_89 : form_of 137 ≡ form (op.ThreeOperands BitSet Byte) Translated false ((Read, sizes.Byte) ∷ (Read, sizes.Byte) ∷ (Write, sizes.Byte) ∷ []) (goes_on (codes false false false false) (codes true true true false))
unfolding integer_opcodes control_opcodes mixed_opcodes move_opcodes bit_opcodes operands_of operands_of_long operation_at class_of_operation is_long_operation code_use_of tested_by written_by_binary written_by_long
opcode_89 = refl

opcode_8A : form_of 138 ≡ form (op.TwoOperands BitClear Byte) Translated false ((Read, sizes.Byte) ∷ (Modify, sizes.Byte) ∷ []) (goes_on (codes false false false false) (codes true true true false))
unfolding integer_opcodes control_opcodes mixed_opcodes move_opcodes bit_opcodes operands_of operands_of_long operation_at class_of_operation is_long_operation code_use_of tested_by written_by_binary written_by_long
opcode_8A = refl

opcode_8B : form_of 139 ≡ form (op.ThreeOperands BitClear Byte) Translated false ((Read, sizes.Byte) ∷ (Read, sizes.Byte) ∷ (Write, sizes.Byte) ∷ []) (goes_on (codes false false false false) (codes true true true false))
unfolding integer_opcodes control_opcodes mixed_opcodes move_opcodes bit_opcodes operands_of operands_of_long operation_at class_of_operation is_long_operation code_use_of tested_by written_by_binary written_by_long
opcode_8B = refl

opcode_8C : form_of 140 ≡ form (op.TwoOperands ExclusiveOr Byte) Translated false ((Read, sizes.Byte) ∷ (Modify, sizes.Byte) ∷ []) (goes_on (codes false false false false) (codes true true true false))
unfolding integer_opcodes control_opcodes mixed_opcodes move_opcodes bit_opcodes operands_of operands_of_long operation_at class_of_operation is_long_operation code_use_of tested_by written_by_binary written_by_long
opcode_8C = refl

opcode_8D : form_of 141 ≡ form (op.ThreeOperands ExclusiveOr Byte) Translated false ((Read, sizes.Byte) ∷ (Read, sizes.Byte) ∷ (Write, sizes.Byte) ∷ []) (goes_on (codes false false false false) (codes true true true false))
unfolding integer_opcodes control_opcodes mixed_opcodes move_opcodes bit_opcodes operands_of operands_of_long operation_at class_of_operation is_long_operation code_use_of tested_by written_by_binary written_by_long
opcode_8D = refl

opcode_8E : form_of 142 ≡ form (op.MoveNegated Byte) Translated false ((Read, sizes.Byte) ∷ (Write, sizes.Byte) ∷ []) (goes_on (codes false false false false) (codes true true true true))
unfolding integer_opcodes control_opcodes mixed_opcodes move_opcodes bit_opcodes operands_of operands_of_long operation_at class_of_operation is_long_operation code_use_of tested_by written_by_binary written_by_long
opcode_8E = refl

opcode_8F : form_of 143 ≡ form (op.Case Byte) Tie false ((Read, sizes.Byte) ∷ (Read, sizes.Byte) ∷ (Read, sizes.Byte) ∷ []) (may_jump (codes false false false false) (codes true true true true))
unfolding integer_opcodes control_opcodes mixed_opcodes move_opcodes bit_opcodes operands_of operands_of_long operation_at class_of_operation is_long_operation code_use_of tested_by written_by_binary written_by_long
opcode_8F = refl

opcode_90 : form_of 144 ≡ form (op.Move sizes.Byte) Translated false ((Read, sizes.Byte) ∷ (Write, sizes.Byte) ∷ []) (goes_on (codes false false false false) (codes true true true false))
unfolding integer_opcodes control_opcodes mixed_opcodes move_opcodes bit_opcodes operands_of operands_of_long operation_at class_of_operation is_long_operation code_use_of tested_by written_by_binary written_by_long
opcode_90 = refl

opcode_91 : form_of 145 ≡ form (op.Compare Byte) Translated false ((Read, sizes.Byte) ∷ (Read, sizes.Byte) ∷ []) (goes_on (codes false false false false) (codes true true true true))
unfolding integer_opcodes control_opcodes mixed_opcodes move_opcodes bit_opcodes operands_of operands_of_long operation_at class_of_operation is_long_operation code_use_of tested_by written_by_binary written_by_long
opcode_91 = refl

opcode_92 : form_of 146 ≡ form (op.MoveComplemented Byte) Translated false ((Read, sizes.Byte) ∷ (Write, sizes.Byte) ∷ []) (goes_on (codes false false false false) (codes true true true false))
unfolding integer_opcodes control_opcodes mixed_opcodes move_opcodes bit_opcodes operands_of operands_of_long operation_at class_of_operation is_long_operation code_use_of tested_by written_by_binary written_by_long
opcode_92 = refl

opcode_93 : form_of 147 ≡ form (op.BitTest Byte) Translated false ((Read, sizes.Byte) ∷ (Read, sizes.Byte) ∷ []) (goes_on (codes false false false false) (codes true true true false))
unfolding integer_opcodes control_opcodes mixed_opcodes move_opcodes bit_opcodes operands_of operands_of_long operation_at class_of_operation is_long_operation code_use_of tested_by written_by_binary written_by_long
opcode_93 = refl

opcode_94 : form_of 148 ≡ form (op.Clear sizes.Byte) Translated false ((Write, sizes.Byte) ∷ []) (goes_on (codes false false false false) (codes true true true false))
unfolding integer_opcodes control_opcodes mixed_opcodes move_opcodes bit_opcodes operands_of operands_of_long operation_at class_of_operation is_long_operation code_use_of tested_by written_by_binary written_by_long
opcode_94 = refl

opcode_95 : form_of 149 ≡ form (op.Test Byte) Translated false ((Read, sizes.Byte) ∷ []) (goes_on (codes false false false false) (codes true true true true))
unfolding integer_opcodes control_opcodes mixed_opcodes move_opcodes bit_opcodes operands_of operands_of_long operation_at class_of_operation is_long_operation code_use_of tested_by written_by_binary written_by_long
opcode_95 = refl

opcode_96 : form_of 150 ≡ form (op.Increment Byte) Translated false ((Modify, sizes.Byte) ∷ []) (goes_on (codes false false false false) (codes true true true true))
unfolding integer_opcodes control_opcodes mixed_opcodes move_opcodes bit_opcodes operands_of operands_of_long operation_at class_of_operation is_long_operation code_use_of tested_by written_by_binary written_by_long
opcode_96 = refl

opcode_97 : form_of 151 ≡ form (op.Decrement Byte) Translated false ((Modify, sizes.Byte) ∷ []) (goes_on (codes false false false false) (codes true true true true))
unfolding integer_opcodes control_opcodes mixed_opcodes move_opcodes bit_opcodes operands_of operands_of_long operation_at class_of_operation is_long_operation code_use_of tested_by written_by_binary written_by_long
opcode_97 = refl

opcode_98 : form_of 152 ≡ form (op.Convert Byte Long) Translated false ((Read, sizes.Byte) ∷ (Write, sizes.Long) ∷ []) (goes_on (codes false false false false) (codes true true true true))
unfolding integer_opcodes control_opcodes mixed_opcodes move_opcodes bit_opcodes operands_of operands_of_long operation_at class_of_operation is_long_operation code_use_of tested_by written_by_binary written_by_long
opcode_98 = refl

opcode_99 : form_of 153 ≡ form (op.Convert Byte Word) Translated false ((Read, sizes.Byte) ∷ (Write, sizes.Word) ∷ []) (goes_on (codes false false false false) (codes true true true true))
unfolding integer_opcodes control_opcodes mixed_opcodes move_opcodes bit_opcodes operands_of operands_of_long operation_at class_of_operation is_long_operation code_use_of tested_by written_by_binary written_by_long
opcode_99 = refl

opcode_9A : form_of 154 ≡ form (op.MoveZeroExtended Byte Long) Translated false ((Read, sizes.Byte) ∷ (Write, sizes.Long) ∷ []) (goes_on (codes false false false false) (codes true true true false))
unfolding integer_opcodes control_opcodes mixed_opcodes move_opcodes bit_opcodes operands_of operands_of_long operation_at class_of_operation is_long_operation code_use_of tested_by written_by_binary written_by_long
opcode_9A = refl

opcode_9B : form_of 155 ≡ form (op.MoveZeroExtended Byte Word) Translated false ((Read, sizes.Byte) ∷ (Write, sizes.Word) ∷ []) (goes_on (codes false false false false) (codes true true true false))
unfolding integer_opcodes control_opcodes mixed_opcodes move_opcodes bit_opcodes operands_of operands_of_long operation_at class_of_operation is_long_operation code_use_of tested_by written_by_binary written_by_long
opcode_9B = refl

opcode_9C : form_of 156 ≡ form op.Rotate Translated false ((Read, sizes.Byte) ∷ (Read, sizes.Long) ∷ (Write, sizes.Long) ∷ []) (goes_on (codes false false false false) (codes true true true false))
unfolding integer_opcodes control_opcodes mixed_opcodes move_opcodes bit_opcodes operands_of operands_of_long operation_at class_of_operation is_long_operation code_use_of tested_by written_by_binary written_by_long
opcode_9C = refl

opcode_9D : form_of 157 ≡ form (op.AddCompareBranch Byte) Translated false ((Read, sizes.Byte) ∷ (Read, sizes.Byte) ∷ (Modify, sizes.Byte) ∷ (accesses.Branch, sizes.Word) ∷ []) (may_jump (codes false false false false) (codes true true true false))
unfolding integer_opcodes control_opcodes mixed_opcodes move_opcodes bit_opcodes operands_of operands_of_long operation_at class_of_operation is_long_operation code_use_of tested_by written_by_binary written_by_long
opcode_9D = refl

opcode_9E : form_of 158 ≡ form (op.MoveAddress sizes.Byte) Translated false ((Address, sizes.Byte) ∷ (Write, sizes.Long) ∷ []) (goes_on (codes false false false false) (codes true true true false))
unfolding integer_opcodes control_opcodes mixed_opcodes move_opcodes bit_opcodes operands_of operands_of_long operation_at class_of_operation is_long_operation code_use_of tested_by written_by_binary written_by_long
opcode_9E = refl

opcode_9F : form_of 159 ≡ form (op.PushAddress sizes.Byte) Translated false ((Address, sizes.Byte) ∷ []) (goes_on (codes false false false false) (codes true true true false))
unfolding integer_opcodes control_opcodes mixed_opcodes move_opcodes bit_opcodes operands_of operands_of_long operation_at class_of_operation is_long_operation code_use_of tested_by written_by_binary written_by_long
opcode_9F = refl

opcode_A0 : form_of 160 ≡ form (op.TwoOperands Add Word) Translated false ((Read, sizes.Word) ∷ (Modify, sizes.Word) ∷ []) (goes_on (codes false false false false) (codes true true true true))
unfolding integer_opcodes control_opcodes mixed_opcodes move_opcodes bit_opcodes operands_of operands_of_long operation_at class_of_operation is_long_operation code_use_of tested_by written_by_binary written_by_long
opcode_A0 = refl

opcode_A1 : form_of 161 ≡ form (op.ThreeOperands Add Word) Translated false ((Read, sizes.Word) ∷ (Read, sizes.Word) ∷ (Write, sizes.Word) ∷ []) (goes_on (codes false false false false) (codes true true true true))
unfolding integer_opcodes control_opcodes mixed_opcodes move_opcodes bit_opcodes operands_of operands_of_long operation_at class_of_operation is_long_operation code_use_of tested_by written_by_binary written_by_long
opcode_A1 = refl

opcode_A2 : form_of 162 ≡ form (op.TwoOperands Subtract Word) Translated false ((Read, sizes.Word) ∷ (Modify, sizes.Word) ∷ []) (goes_on (codes false false false false) (codes true true true true))
unfolding integer_opcodes control_opcodes mixed_opcodes move_opcodes bit_opcodes operands_of operands_of_long operation_at class_of_operation is_long_operation code_use_of tested_by written_by_binary written_by_long
opcode_A2 = refl

opcode_A3 : form_of 163 ≡ form (op.ThreeOperands Subtract Word) Translated false ((Read, sizes.Word) ∷ (Read, sizes.Word) ∷ (Write, sizes.Word) ∷ []) (goes_on (codes false false false false) (codes true true true true))
unfolding integer_opcodes control_opcodes mixed_opcodes move_opcodes bit_opcodes operands_of operands_of_long operation_at class_of_operation is_long_operation code_use_of tested_by written_by_binary written_by_long
opcode_A3 = refl

opcode_A4 : form_of 164 ≡ form (op.TwoOperands Multiply Word) Translated false ((Read, sizes.Word) ∷ (Modify, sizes.Word) ∷ []) (goes_on (codes false false false false) (codes true true true true))
unfolding integer_opcodes control_opcodes mixed_opcodes move_opcodes bit_opcodes operands_of operands_of_long operation_at class_of_operation is_long_operation code_use_of tested_by written_by_binary written_by_long
opcode_A4 = refl

opcode_A5 : form_of 165 ≡ form (op.ThreeOperands Multiply Word) Translated false ((Read, sizes.Word) ∷ (Read, sizes.Word) ∷ (Write, sizes.Word) ∷ []) (goes_on (codes false false false false) (codes true true true true))
unfolding integer_opcodes control_opcodes mixed_opcodes move_opcodes bit_opcodes operands_of operands_of_long operation_at class_of_operation is_long_operation code_use_of tested_by written_by_binary written_by_long
opcode_A5 = refl

opcode_A6 : form_of 166 ≡ form (op.TwoOperands Divide Word) Tie false ((Read, sizes.Word) ∷ (Modify, sizes.Word) ∷ []) (goes_on (codes false false false false) (codes true true true true))
unfolding integer_opcodes control_opcodes mixed_opcodes move_opcodes bit_opcodes operands_of operands_of_long operation_at class_of_operation is_long_operation code_use_of tested_by written_by_binary written_by_long
opcode_A6 = refl

opcode_A7 : form_of 167 ≡ form (op.ThreeOperands Divide Word) Tie false ((Read, sizes.Word) ∷ (Read, sizes.Word) ∷ (Write, sizes.Word) ∷ []) (goes_on (codes false false false false) (codes true true true true))
unfolding integer_opcodes control_opcodes mixed_opcodes move_opcodes bit_opcodes operands_of operands_of_long operation_at class_of_operation is_long_operation code_use_of tested_by written_by_binary written_by_long
opcode_A7 = refl

opcode_A8 : form_of 168 ≡ form (op.TwoOperands BitSet Word) Translated false ((Read, sizes.Word) ∷ (Modify, sizes.Word) ∷ []) (goes_on (codes false false false false) (codes true true true false))
unfolding integer_opcodes control_opcodes mixed_opcodes move_opcodes bit_opcodes operands_of operands_of_long operation_at class_of_operation is_long_operation code_use_of tested_by written_by_binary written_by_long
opcode_A8 = refl

opcode_A9 : form_of 169 ≡ form (op.ThreeOperands BitSet Word) Translated false ((Read, sizes.Word) ∷ (Read, sizes.Word) ∷ (Write, sizes.Word) ∷ []) (goes_on (codes false false false false) (codes true true true false))
unfolding integer_opcodes control_opcodes mixed_opcodes move_opcodes bit_opcodes operands_of operands_of_long operation_at class_of_operation is_long_operation code_use_of tested_by written_by_binary written_by_long
opcode_A9 = refl

opcode_AA : form_of 170 ≡ form (op.TwoOperands BitClear Word) Translated false ((Read, sizes.Word) ∷ (Modify, sizes.Word) ∷ []) (goes_on (codes false false false false) (codes true true true false))
unfolding integer_opcodes control_opcodes mixed_opcodes move_opcodes bit_opcodes operands_of operands_of_long operation_at class_of_operation is_long_operation code_use_of tested_by written_by_binary written_by_long
opcode_AA = refl

opcode_AB : form_of 171 ≡ form (op.ThreeOperands BitClear Word) Translated false ((Read, sizes.Word) ∷ (Read, sizes.Word) ∷ (Write, sizes.Word) ∷ []) (goes_on (codes false false false false) (codes true true true false))
unfolding integer_opcodes control_opcodes mixed_opcodes move_opcodes bit_opcodes operands_of operands_of_long operation_at class_of_operation is_long_operation code_use_of tested_by written_by_binary written_by_long
opcode_AB = refl

opcode_AC : form_of 172 ≡ form (op.TwoOperands ExclusiveOr Word) Translated false ((Read, sizes.Word) ∷ (Modify, sizes.Word) ∷ []) (goes_on (codes false false false false) (codes true true true false))
unfolding integer_opcodes control_opcodes mixed_opcodes move_opcodes bit_opcodes operands_of operands_of_long operation_at class_of_operation is_long_operation code_use_of tested_by written_by_binary written_by_long
opcode_AC = refl

opcode_AD : form_of 173 ≡ form (op.ThreeOperands ExclusiveOr Word) Translated false ((Read, sizes.Word) ∷ (Read, sizes.Word) ∷ (Write, sizes.Word) ∷ []) (goes_on (codes false false false false) (codes true true true false))
unfolding integer_opcodes control_opcodes mixed_opcodes move_opcodes bit_opcodes operands_of operands_of_long operation_at class_of_operation is_long_operation code_use_of tested_by written_by_binary written_by_long
opcode_AD = refl

opcode_AE : form_of 174 ≡ form (op.MoveNegated Word) Translated false ((Read, sizes.Word) ∷ (Write, sizes.Word) ∷ []) (goes_on (codes false false false false) (codes true true true true))
unfolding integer_opcodes control_opcodes mixed_opcodes move_opcodes bit_opcodes operands_of operands_of_long operation_at class_of_operation is_long_operation code_use_of tested_by written_by_binary written_by_long
opcode_AE = refl

opcode_AF : form_of 175 ≡ form (op.Case Word) Tie false ((Read, sizes.Word) ∷ (Read, sizes.Word) ∷ (Read, sizes.Word) ∷ []) (may_jump (codes false false false false) (codes true true true true))
unfolding integer_opcodes control_opcodes mixed_opcodes move_opcodes bit_opcodes operands_of operands_of_long operation_at class_of_operation is_long_operation code_use_of tested_by written_by_binary written_by_long
opcode_AF = refl

opcode_B0 : form_of 176 ≡ form (op.Move sizes.Word) Translated false ((Read, sizes.Word) ∷ (Write, sizes.Word) ∷ []) (goes_on (codes false false false false) (codes true true true false))
unfolding integer_opcodes control_opcodes mixed_opcodes move_opcodes bit_opcodes operands_of operands_of_long operation_at class_of_operation is_long_operation code_use_of tested_by written_by_binary written_by_long
opcode_B0 = refl

opcode_B1 : form_of 177 ≡ form (op.Compare Word) Translated false ((Read, sizes.Word) ∷ (Read, sizes.Word) ∷ []) (goes_on (codes false false false false) (codes true true true true))
unfolding integer_opcodes control_opcodes mixed_opcodes move_opcodes bit_opcodes operands_of operands_of_long operation_at class_of_operation is_long_operation code_use_of tested_by written_by_binary written_by_long
opcode_B1 = refl

opcode_B2 : form_of 178 ≡ form (op.MoveComplemented Word) Translated false ((Read, sizes.Word) ∷ (Write, sizes.Word) ∷ []) (goes_on (codes false false false false) (codes true true true false))
unfolding integer_opcodes control_opcodes mixed_opcodes move_opcodes bit_opcodes operands_of operands_of_long operation_at class_of_operation is_long_operation code_use_of tested_by written_by_binary written_by_long
opcode_B2 = refl

opcode_B3 : form_of 179 ≡ form (op.BitTest Word) Translated false ((Read, sizes.Word) ∷ (Read, sizes.Word) ∷ []) (goes_on (codes false false false false) (codes true true true false))
unfolding integer_opcodes control_opcodes mixed_opcodes move_opcodes bit_opcodes operands_of operands_of_long operation_at class_of_operation is_long_operation code_use_of tested_by written_by_binary written_by_long
opcode_B3 = refl

opcode_B4 : form_of 180 ≡ form (op.Clear sizes.Word) Translated false ((Write, sizes.Word) ∷ []) (goes_on (codes false false false false) (codes true true true false))
unfolding integer_opcodes control_opcodes mixed_opcodes move_opcodes bit_opcodes operands_of operands_of_long operation_at class_of_operation is_long_operation code_use_of tested_by written_by_binary written_by_long
opcode_B4 = refl

opcode_B5 : form_of 181 ≡ form (op.Test Word) Translated false ((Read, sizes.Word) ∷ []) (goes_on (codes false false false false) (codes true true true true))
unfolding integer_opcodes control_opcodes mixed_opcodes move_opcodes bit_opcodes operands_of operands_of_long operation_at class_of_operation is_long_operation code_use_of tested_by written_by_binary written_by_long
opcode_B5 = refl

opcode_B6 : form_of 182 ≡ form (op.Increment Word) Translated false ((Modify, sizes.Word) ∷ []) (goes_on (codes false false false false) (codes true true true true))
unfolding integer_opcodes control_opcodes mixed_opcodes move_opcodes bit_opcodes operands_of operands_of_long operation_at class_of_operation is_long_operation code_use_of tested_by written_by_binary written_by_long
opcode_B6 = refl

opcode_B7 : form_of 183 ≡ form (op.Decrement Word) Translated false ((Modify, sizes.Word) ∷ []) (goes_on (codes false false false false) (codes true true true true))
unfolding integer_opcodes control_opcodes mixed_opcodes move_opcodes bit_opcodes operands_of operands_of_long operation_at class_of_operation is_long_operation code_use_of tested_by written_by_binary written_by_long
opcode_B7 = refl

opcode_B8 : form_of 184 ≡ form op.BitSetPsw Translated false ((Read, sizes.Word) ∷ []) (goes_on (codes true true true true) (codes true true true true))
unfolding integer_opcodes control_opcodes mixed_opcodes move_opcodes bit_opcodes operands_of operands_of_long operation_at class_of_operation is_long_operation code_use_of tested_by written_by_binary written_by_long
opcode_B8 = refl

opcode_B9 : form_of 185 ≡ form op.BitClearPsw Translated false ((Read, sizes.Word) ∷ []) (goes_on (codes true true true true) (codes true true true true))
unfolding integer_opcodes control_opcodes mixed_opcodes move_opcodes bit_opcodes operands_of operands_of_long operation_at class_of_operation is_long_operation code_use_of tested_by written_by_binary written_by_long
opcode_B9 = refl

opcode_BA : form_of 186 ≡ form (op.Long long.PopRegisters) Tie true ((Read, sizes.Word) ∷ []) (goes_on (codes false false false false) (codes false false false false))
unfolding integer_opcodes control_opcodes mixed_opcodes move_opcodes bit_opcodes operands_of operands_of_long operation_at class_of_operation is_long_operation code_use_of tested_by written_by_binary written_by_long
opcode_BA = refl

opcode_BB : form_of 187 ≡ form (op.Long long.PushRegisters) Tie true ((Read, sizes.Word) ∷ []) (goes_on (codes false false false false) (codes false false false false))
unfolding integer_opcodes control_opcodes mixed_opcodes move_opcodes bit_opcodes operands_of operands_of_long operation_at class_of_operation is_long_operation code_use_of tested_by written_by_binary written_by_long
opcode_BB = refl

opcode_BC : form_of 188 ≡ form op.ChangeMode Translated false ((Read, sizes.Word) ∷ []) (goes_on (codes false false false false) (codes false false false false))
unfolding integer_opcodes control_opcodes mixed_opcodes move_opcodes bit_opcodes operands_of operands_of_long operation_at class_of_operation is_long_operation code_use_of tested_by written_by_binary written_by_long
opcode_BC = refl

opcode_BD : form_of 189 ≡ reserved
unfolding integer_opcodes control_opcodes mixed_opcodes move_opcodes bit_opcodes operands_of operands_of_long operation_at class_of_operation is_long_operation code_use_of tested_by written_by_binary written_by_long
opcode_BD = refl

opcode_BE : form_of 190 ≡ reserved
unfolding integer_opcodes control_opcodes mixed_opcodes move_opcodes bit_opcodes operands_of operands_of_long operation_at class_of_operation is_long_operation code_use_of tested_by written_by_binary written_by_long
opcode_BE = refl

opcode_BF : form_of 191 ≡ reserved
unfolding integer_opcodes control_opcodes mixed_opcodes move_opcodes bit_opcodes operands_of operands_of_long operation_at class_of_operation is_long_operation code_use_of tested_by written_by_binary written_by_long
opcode_BF = refl

opcode_C0 : form_of 192 ≡ form (op.TwoOperands Add Long) Translated false ((Read, sizes.Long) ∷ (Modify, sizes.Long) ∷ []) (goes_on (codes false false false false) (codes true true true true))
unfolding integer_opcodes control_opcodes mixed_opcodes move_opcodes bit_opcodes operands_of operands_of_long operation_at class_of_operation is_long_operation code_use_of tested_by written_by_binary written_by_long
opcode_C0 = refl

opcode_C1 : form_of 193 ≡ form (op.ThreeOperands Add Long) Translated false ((Read, sizes.Long) ∷ (Read, sizes.Long) ∷ (Write, sizes.Long) ∷ []) (goes_on (codes false false false false) (codes true true true true))
unfolding integer_opcodes control_opcodes mixed_opcodes move_opcodes bit_opcodes operands_of operands_of_long operation_at class_of_operation is_long_operation code_use_of tested_by written_by_binary written_by_long
opcode_C1 = refl

opcode_C2 : form_of 194 ≡ form (op.TwoOperands Subtract Long) Translated false ((Read, sizes.Long) ∷ (Modify, sizes.Long) ∷ []) (goes_on (codes false false false false) (codes true true true true))
unfolding integer_opcodes control_opcodes mixed_opcodes move_opcodes bit_opcodes operands_of operands_of_long operation_at class_of_operation is_long_operation code_use_of tested_by written_by_binary written_by_long
opcode_C2 = refl

opcode_C3 : form_of 195 ≡ form (op.ThreeOperands Subtract Long) Translated false ((Read, sizes.Long) ∷ (Read, sizes.Long) ∷ (Write, sizes.Long) ∷ []) (goes_on (codes false false false false) (codes true true true true))
unfolding integer_opcodes control_opcodes mixed_opcodes move_opcodes bit_opcodes operands_of operands_of_long operation_at class_of_operation is_long_operation code_use_of tested_by written_by_binary written_by_long
opcode_C3 = refl

opcode_C4 : form_of 196 ≡ form (op.TwoOperands Multiply Long) Translated false ((Read, sizes.Long) ∷ (Modify, sizes.Long) ∷ []) (goes_on (codes false false false false) (codes true true true true))
unfolding integer_opcodes control_opcodes mixed_opcodes move_opcodes bit_opcodes operands_of operands_of_long operation_at class_of_operation is_long_operation code_use_of tested_by written_by_binary written_by_long
opcode_C4 = refl

opcode_C5 : form_of 197 ≡ form (op.ThreeOperands Multiply Long) Translated false ((Read, sizes.Long) ∷ (Read, sizes.Long) ∷ (Write, sizes.Long) ∷ []) (goes_on (codes false false false false) (codes true true true true))
unfolding integer_opcodes control_opcodes mixed_opcodes move_opcodes bit_opcodes operands_of operands_of_long operation_at class_of_operation is_long_operation code_use_of tested_by written_by_binary written_by_long
opcode_C5 = refl

opcode_C6 : form_of 198 ≡ form (op.TwoOperands Divide Long) Tie false ((Read, sizes.Long) ∷ (Modify, sizes.Long) ∷ []) (goes_on (codes false false false false) (codes true true true true))
unfolding integer_opcodes control_opcodes mixed_opcodes move_opcodes bit_opcodes operands_of operands_of_long operation_at class_of_operation is_long_operation code_use_of tested_by written_by_binary written_by_long
opcode_C6 = refl

opcode_C7 : form_of 199 ≡ form (op.ThreeOperands Divide Long) Tie false ((Read, sizes.Long) ∷ (Read, sizes.Long) ∷ (Write, sizes.Long) ∷ []) (goes_on (codes false false false false) (codes true true true true))
unfolding integer_opcodes control_opcodes mixed_opcodes move_opcodes bit_opcodes operands_of operands_of_long operation_at class_of_operation is_long_operation code_use_of tested_by written_by_binary written_by_long
opcode_C7 = refl

opcode_C8 : form_of 200 ≡ form (op.TwoOperands BitSet Long) Translated false ((Read, sizes.Long) ∷ (Modify, sizes.Long) ∷ []) (goes_on (codes false false false false) (codes true true true false))
unfolding integer_opcodes control_opcodes mixed_opcodes move_opcodes bit_opcodes operands_of operands_of_long operation_at class_of_operation is_long_operation code_use_of tested_by written_by_binary written_by_long
opcode_C8 = refl

opcode_C9 : form_of 201 ≡ form (op.ThreeOperands BitSet Long) Translated false ((Read, sizes.Long) ∷ (Read, sizes.Long) ∷ (Write, sizes.Long) ∷ []) (goes_on (codes false false false false) (codes true true true false))
unfolding integer_opcodes control_opcodes mixed_opcodes move_opcodes bit_opcodes operands_of operands_of_long operation_at class_of_operation is_long_operation code_use_of tested_by written_by_binary written_by_long
opcode_C9 = refl

opcode_CA : form_of 202 ≡ form (op.TwoOperands BitClear Long) Translated false ((Read, sizes.Long) ∷ (Modify, sizes.Long) ∷ []) (goes_on (codes false false false false) (codes true true true false))
unfolding integer_opcodes control_opcodes mixed_opcodes move_opcodes bit_opcodes operands_of operands_of_long operation_at class_of_operation is_long_operation code_use_of tested_by written_by_binary written_by_long
opcode_CA = refl

opcode_CB : form_of 203 ≡ form (op.ThreeOperands BitClear Long) Translated false ((Read, sizes.Long) ∷ (Read, sizes.Long) ∷ (Write, sizes.Long) ∷ []) (goes_on (codes false false false false) (codes true true true false))
unfolding integer_opcodes control_opcodes mixed_opcodes move_opcodes bit_opcodes operands_of operands_of_long operation_at class_of_operation is_long_operation code_use_of tested_by written_by_binary written_by_long
opcode_CB = refl

opcode_CC : form_of 204 ≡ form (op.TwoOperands ExclusiveOr Long) Translated false ((Read, sizes.Long) ∷ (Modify, sizes.Long) ∷ []) (goes_on (codes false false false false) (codes true true true false))
unfolding integer_opcodes control_opcodes mixed_opcodes move_opcodes bit_opcodes operands_of operands_of_long operation_at class_of_operation is_long_operation code_use_of tested_by written_by_binary written_by_long
opcode_CC = refl

opcode_CD : form_of 205 ≡ form (op.ThreeOperands ExclusiveOr Long) Translated false ((Read, sizes.Long) ∷ (Read, sizes.Long) ∷ (Write, sizes.Long) ∷ []) (goes_on (codes false false false false) (codes true true true false))
unfolding integer_opcodes control_opcodes mixed_opcodes move_opcodes bit_opcodes operands_of operands_of_long operation_at class_of_operation is_long_operation code_use_of tested_by written_by_binary written_by_long
opcode_CD = refl

opcode_CE : form_of 206 ≡ form (op.MoveNegated Long) Translated false ((Read, sizes.Long) ∷ (Write, sizes.Long) ∷ []) (goes_on (codes false false false false) (codes true true true true))
unfolding integer_opcodes control_opcodes mixed_opcodes move_opcodes bit_opcodes operands_of operands_of_long operation_at class_of_operation is_long_operation code_use_of tested_by written_by_binary written_by_long
opcode_CE = refl

opcode_CF : form_of 207 ≡ form (op.Case Long) Tie false ((Read, sizes.Long) ∷ (Read, sizes.Long) ∷ (Read, sizes.Long) ∷ []) (may_jump (codes false false false false) (codes true true true true))
unfolding integer_opcodes control_opcodes mixed_opcodes move_opcodes bit_opcodes operands_of operands_of_long operation_at class_of_operation is_long_operation code_use_of tested_by written_by_binary written_by_long
opcode_CF = refl

opcode_D0 : form_of 208 ≡ form (op.Move sizes.Long) Translated false ((Read, sizes.Long) ∷ (Write, sizes.Long) ∷ []) (goes_on (codes false false false false) (codes true true true false))
unfolding integer_opcodes control_opcodes mixed_opcodes move_opcodes bit_opcodes operands_of operands_of_long operation_at class_of_operation is_long_operation code_use_of tested_by written_by_binary written_by_long
opcode_D0 = refl

opcode_D1 : form_of 209 ≡ form (op.Compare Long) Translated false ((Read, sizes.Long) ∷ (Read, sizes.Long) ∷ []) (goes_on (codes false false false false) (codes true true true true))
unfolding integer_opcodes control_opcodes mixed_opcodes move_opcodes bit_opcodes operands_of operands_of_long operation_at class_of_operation is_long_operation code_use_of tested_by written_by_binary written_by_long
opcode_D1 = refl

opcode_D2 : form_of 210 ≡ form (op.MoveComplemented Long) Translated false ((Read, sizes.Long) ∷ (Write, sizes.Long) ∷ []) (goes_on (codes false false false false) (codes true true true false))
unfolding integer_opcodes control_opcodes mixed_opcodes move_opcodes bit_opcodes operands_of operands_of_long operation_at class_of_operation is_long_operation code_use_of tested_by written_by_binary written_by_long
opcode_D2 = refl

opcode_D3 : form_of 211 ≡ form (op.BitTest Long) Translated false ((Read, sizes.Long) ∷ (Read, sizes.Long) ∷ []) (goes_on (codes false false false false) (codes true true true false))
unfolding integer_opcodes control_opcodes mixed_opcodes move_opcodes bit_opcodes operands_of operands_of_long operation_at class_of_operation is_long_operation code_use_of tested_by written_by_binary written_by_long
opcode_D3 = refl

opcode_D4 : form_of 212 ≡ form (op.Clear sizes.Long) Translated false ((Write, sizes.Long) ∷ []) (goes_on (codes false false false false) (codes true true true false))
unfolding integer_opcodes control_opcodes mixed_opcodes move_opcodes bit_opcodes operands_of operands_of_long operation_at class_of_operation is_long_operation code_use_of tested_by written_by_binary written_by_long
opcode_D4 = refl

opcode_D5 : form_of 213 ≡ form (op.Test Long) Translated false ((Read, sizes.Long) ∷ []) (goes_on (codes false false false false) (codes true true true true))
unfolding integer_opcodes control_opcodes mixed_opcodes move_opcodes bit_opcodes operands_of operands_of_long operation_at class_of_operation is_long_operation code_use_of tested_by written_by_binary written_by_long
opcode_D5 = refl

opcode_D6 : form_of 214 ≡ form (op.Increment Long) Translated false ((Modify, sizes.Long) ∷ []) (goes_on (codes false false false false) (codes true true true true))
unfolding integer_opcodes control_opcodes mixed_opcodes move_opcodes bit_opcodes operands_of operands_of_long operation_at class_of_operation is_long_operation code_use_of tested_by written_by_binary written_by_long
opcode_D6 = refl

opcode_D7 : form_of 215 ≡ form (op.Decrement Long) Translated false ((Modify, sizes.Long) ∷ []) (goes_on (codes false false false false) (codes true true true true))
unfolding integer_opcodes control_opcodes mixed_opcodes move_opcodes bit_opcodes operands_of operands_of_long operation_at class_of_operation is_long_operation code_use_of tested_by written_by_binary written_by_long
opcode_D7 = refl

opcode_D8 : form_of 216 ≡ form op.AddWithCarry Translated false ((Read, sizes.Long) ∷ (Modify, sizes.Long) ∷ []) (goes_on (codes false false false true) (codes true true true true))
unfolding integer_opcodes control_opcodes mixed_opcodes move_opcodes bit_opcodes operands_of operands_of_long operation_at class_of_operation is_long_operation code_use_of tested_by written_by_binary written_by_long
opcode_D8 = refl

opcode_D9 : form_of 217 ≡ form op.SubtractWithCarry Translated false ((Read, sizes.Long) ∷ (Modify, sizes.Long) ∷ []) (goes_on (codes false false false true) (codes true true true true))
unfolding integer_opcodes control_opcodes mixed_opcodes move_opcodes bit_opcodes operands_of operands_of_long operation_at class_of_operation is_long_operation code_use_of tested_by written_by_binary written_by_long
opcode_D9 = refl

opcode_DA : form_of 218 ≡ reserved
unfolding integer_opcodes control_opcodes mixed_opcodes move_opcodes bit_opcodes operands_of operands_of_long operation_at class_of_operation is_long_operation code_use_of tested_by written_by_binary written_by_long
opcode_DA = refl

opcode_DB : form_of 219 ≡ reserved
unfolding integer_opcodes control_opcodes mixed_opcodes move_opcodes bit_opcodes operands_of operands_of_long operation_at class_of_operation is_long_operation code_use_of tested_by written_by_binary written_by_long
opcode_DB = refl

opcode_DC : form_of 220 ≡ form op.MovePsl Translated false ((Write, sizes.Long) ∷ []) (goes_on (codes true true true true) (codes false false false false))
unfolding integer_opcodes control_opcodes mixed_opcodes move_opcodes bit_opcodes operands_of operands_of_long operation_at class_of_operation is_long_operation code_use_of tested_by written_by_binary written_by_long
opcode_DC = refl

opcode_DD : form_of 221 ≡ form op.PushLong Translated false ((Read, sizes.Long) ∷ []) (goes_on (codes false false false false) (codes true true true false))
unfolding integer_opcodes control_opcodes mixed_opcodes move_opcodes bit_opcodes operands_of operands_of_long operation_at class_of_operation is_long_operation code_use_of tested_by written_by_binary written_by_long
opcode_DD = refl

opcode_DE : form_of 222 ≡ form (op.MoveAddress sizes.Long) Translated false ((Address, sizes.Long) ∷ (Write, sizes.Long) ∷ []) (goes_on (codes false false false false) (codes true true true false))
unfolding integer_opcodes control_opcodes mixed_opcodes move_opcodes bit_opcodes operands_of operands_of_long operation_at class_of_operation is_long_operation code_use_of tested_by written_by_binary written_by_long
opcode_DE = refl

opcode_DF : form_of 223 ≡ form (op.PushAddress sizes.Long) Translated false ((Address, sizes.Long) ∷ []) (goes_on (codes false false false false) (codes true true true false))
unfolding integer_opcodes control_opcodes mixed_opcodes move_opcodes bit_opcodes operands_of operands_of_long operation_at class_of_operation is_long_operation code_use_of tested_by written_by_binary written_by_long
opcode_DF = refl

opcode_E0 : form_of 224 ≡ form (op.BranchOnBit (record { state = true; store = Nothing })) Translated false ((Read, sizes.Long) ∷ (Field, sizes.Byte) ∷ (accesses.Branch, sizes.Byte) ∷ []) (may_jump (codes false false false false) (codes false false false false))
unfolding integer_opcodes control_opcodes mixed_opcodes move_opcodes bit_opcodes operands_of operands_of_long operation_at class_of_operation is_long_operation code_use_of tested_by written_by_binary written_by_long
opcode_E0 = refl

opcode_E1 : form_of 225 ≡ form (op.BranchOnBit (record { state = false; store = Nothing })) Translated false ((Read, sizes.Long) ∷ (Field, sizes.Byte) ∷ (accesses.Branch, sizes.Byte) ∷ []) (may_jump (codes false false false false) (codes false false false false))
unfolding integer_opcodes control_opcodes mixed_opcodes move_opcodes bit_opcodes operands_of operands_of_long operation_at class_of_operation is_long_operation code_use_of tested_by written_by_binary written_by_long
opcode_E1 = refl

opcode_E2 : form_of 226 ≡ form (op.BranchOnBit (record { state = true; store = (Plain true) })) Translated false ((Read, sizes.Long) ∷ (Field, sizes.Byte) ∷ (accesses.Branch, sizes.Byte) ∷ []) (may_jump (codes false false false false) (codes false false false false))
unfolding integer_opcodes control_opcodes mixed_opcodes move_opcodes bit_opcodes operands_of operands_of_long operation_at class_of_operation is_long_operation code_use_of tested_by written_by_binary written_by_long
opcode_E2 = refl

opcode_E3 : form_of 227 ≡ form (op.BranchOnBit (record { state = false; store = (Plain true) })) Translated false ((Read, sizes.Long) ∷ (Field, sizes.Byte) ∷ (accesses.Branch, sizes.Byte) ∷ []) (may_jump (codes false false false false) (codes false false false false))
unfolding integer_opcodes control_opcodes mixed_opcodes move_opcodes bit_opcodes operands_of operands_of_long operation_at class_of_operation is_long_operation code_use_of tested_by written_by_binary written_by_long
opcode_E3 = refl

opcode_E4 : form_of 228 ≡ form (op.BranchOnBit (record { state = true; store = (Plain false) })) Translated false ((Read, sizes.Long) ∷ (Field, sizes.Byte) ∷ (accesses.Branch, sizes.Byte) ∷ []) (may_jump (codes false false false false) (codes false false false false))
unfolding integer_opcodes control_opcodes mixed_opcodes move_opcodes bit_opcodes operands_of operands_of_long operation_at class_of_operation is_long_operation code_use_of tested_by written_by_binary written_by_long
opcode_E4 = refl

opcode_E5 : form_of 229 ≡ form (op.BranchOnBit (record { state = false; store = (Plain false) })) Translated false ((Read, sizes.Long) ∷ (Field, sizes.Byte) ∷ (accesses.Branch, sizes.Byte) ∷ []) (may_jump (codes false false false false) (codes false false false false))
unfolding integer_opcodes control_opcodes mixed_opcodes move_opcodes bit_opcodes operands_of operands_of_long operation_at class_of_operation is_long_operation code_use_of tested_by written_by_binary written_by_long
opcode_E5 = refl

opcode_E6 : form_of 230 ≡ form (op.BranchOnBit (record { state = true; store = (Interlocked true) })) Translated false ((Read, sizes.Long) ∷ (Field, sizes.Byte) ∷ (accesses.Branch, sizes.Byte) ∷ []) (may_jump (codes false false false false) (codes false false false false))
unfolding integer_opcodes control_opcodes mixed_opcodes move_opcodes bit_opcodes operands_of operands_of_long operation_at class_of_operation is_long_operation code_use_of tested_by written_by_binary written_by_long
opcode_E6 = refl

opcode_E7 : form_of 231 ≡ form (op.BranchOnBit (record { state = false; store = (Interlocked false) })) Translated false ((Read, sizes.Long) ∷ (Field, sizes.Byte) ∷ (accesses.Branch, sizes.Byte) ∷ []) (may_jump (codes false false false false) (codes false false false false))
unfolding integer_opcodes control_opcodes mixed_opcodes move_opcodes bit_opcodes operands_of operands_of_long operation_at class_of_operation is_long_operation code_use_of tested_by written_by_binary written_by_long
opcode_E7 = refl

opcode_E8 : form_of 232 ≡ form (op.BranchOnLowBit true) Translated false ((Read, sizes.Long) ∷ (accesses.Branch, sizes.Byte) ∷ []) (may_jump (codes false false false false) (codes false false false false))
unfolding integer_opcodes control_opcodes mixed_opcodes move_opcodes bit_opcodes operands_of operands_of_long operation_at class_of_operation is_long_operation code_use_of tested_by written_by_binary written_by_long
opcode_E8 = refl

opcode_E9 : form_of 233 ≡ form (op.BranchOnLowBit false) Translated false ((Read, sizes.Long) ∷ (accesses.Branch, sizes.Byte) ∷ []) (may_jump (codes false false false false) (codes false false false false))
unfolding integer_opcodes control_opcodes mixed_opcodes move_opcodes bit_opcodes operands_of operands_of_long operation_at class_of_operation is_long_operation code_use_of tested_by written_by_binary written_by_long
opcode_E9 = refl

opcode_EA : form_of 234 ≡ reserved
unfolding integer_opcodes control_opcodes mixed_opcodes move_opcodes bit_opcodes operands_of operands_of_long operation_at class_of_operation is_long_operation code_use_of tested_by written_by_binary written_by_long
opcode_EA = refl

opcode_EB : form_of 235 ≡ reserved
unfolding integer_opcodes control_opcodes mixed_opcodes move_opcodes bit_opcodes operands_of operands_of_long operation_at class_of_operation is_long_operation code_use_of tested_by written_by_binary written_by_long
opcode_EB = refl

opcode_EC : form_of 236 ≡ reserved
unfolding integer_opcodes control_opcodes mixed_opcodes move_opcodes bit_opcodes operands_of operands_of_long operation_at class_of_operation is_long_operation code_use_of tested_by written_by_binary written_by_long
opcode_EC = refl

opcode_ED : form_of 237 ≡ reserved
unfolding integer_opcodes control_opcodes mixed_opcodes move_opcodes bit_opcodes operands_of operands_of_long operation_at class_of_operation is_long_operation code_use_of tested_by written_by_binary written_by_long
opcode_ED = refl

opcode_EE : form_of 238 ≡ form (op.ExtractField true) Tie false ((Read, sizes.Long) ∷ (Read, sizes.Byte) ∷ (Field, sizes.Byte) ∷ (Write, sizes.Long) ∷ []) (goes_on (codes false false false false) (codes true true true false))
unfolding integer_opcodes control_opcodes mixed_opcodes move_opcodes bit_opcodes operands_of operands_of_long operation_at class_of_operation is_long_operation code_use_of tested_by written_by_binary written_by_long
opcode_EE = refl

opcode_EF : form_of 239 ≡ form (op.ExtractField false) Tie false ((Read, sizes.Long) ∷ (Read, sizes.Byte) ∷ (Field, sizes.Byte) ∷ (Write, sizes.Long) ∷ []) (goes_on (codes false false false false) (codes true true true false))
unfolding integer_opcodes control_opcodes mixed_opcodes move_opcodes bit_opcodes operands_of operands_of_long operation_at class_of_operation is_long_operation code_use_of tested_by written_by_binary written_by_long
opcode_EF = refl

opcode_F0 : form_of 240 ≡ form op.InsertField Tie false ((Read, sizes.Long) ∷ (Read, sizes.Long) ∷ (Read, sizes.Byte) ∷ (Field, sizes.Byte) ∷ []) (goes_on (codes false false false false) (codes false false false false))
unfolding integer_opcodes control_opcodes mixed_opcodes move_opcodes bit_opcodes operands_of operands_of_long operation_at class_of_operation is_long_operation code_use_of tested_by written_by_binary written_by_long
opcode_F0 = refl

opcode_F1 : form_of 241 ≡ form (op.AddCompareBranch Long) Translated false ((Read, sizes.Long) ∷ (Read, sizes.Long) ∷ (Modify, sizes.Long) ∷ (accesses.Branch, sizes.Word) ∷ []) (may_jump (codes false false false false) (codes true true true false))
unfolding integer_opcodes control_opcodes mixed_opcodes move_opcodes bit_opcodes operands_of operands_of_long operation_at class_of_operation is_long_operation code_use_of tested_by written_by_binary written_by_long
opcode_F1 = refl

opcode_F2 : form_of 242 ≡ form (op.AddOneBranch false) Translated false ((Read, sizes.Long) ∷ (Modify, sizes.Long) ∷ (accesses.Branch, sizes.Byte) ∷ []) (may_jump (codes false false false false) (codes true true true false))
unfolding integer_opcodes control_opcodes mixed_opcodes move_opcodes bit_opcodes operands_of operands_of_long operation_at class_of_operation is_long_operation code_use_of tested_by written_by_binary written_by_long
opcode_F2 = refl

opcode_F3 : form_of 243 ≡ form (op.AddOneBranch true) Translated false ((Read, sizes.Long) ∷ (Modify, sizes.Long) ∷ (accesses.Branch, sizes.Byte) ∷ []) (may_jump (codes false false false false) (codes true true true false))
unfolding integer_opcodes control_opcodes mixed_opcodes move_opcodes bit_opcodes operands_of operands_of_long operation_at class_of_operation is_long_operation code_use_of tested_by written_by_binary written_by_long
opcode_F3 = refl

opcode_F4 : form_of 244 ≡ form (op.SubtractOneBranch true) Translated false ((Modify, sizes.Long) ∷ (accesses.Branch, sizes.Byte) ∷ []) (may_jump (codes false false false false) (codes true true true false))
unfolding integer_opcodes control_opcodes mixed_opcodes move_opcodes bit_opcodes operands_of operands_of_long operation_at class_of_operation is_long_operation code_use_of tested_by written_by_binary written_by_long
opcode_F4 = refl

opcode_F5 : form_of 245 ≡ form (op.SubtractOneBranch false) Translated false ((Modify, sizes.Long) ∷ (accesses.Branch, sizes.Byte) ∷ []) (may_jump (codes false false false false) (codes true true true false))
unfolding integer_opcodes control_opcodes mixed_opcodes move_opcodes bit_opcodes operands_of operands_of_long operation_at class_of_operation is_long_operation code_use_of tested_by written_by_binary written_by_long
opcode_F5 = refl

opcode_F6 : form_of 246 ≡ form (op.Convert Long Byte) Translated false ((Read, sizes.Long) ∷ (Write, sizes.Byte) ∷ []) (goes_on (codes false false false false) (codes true true true true))
unfolding integer_opcodes control_opcodes mixed_opcodes move_opcodes bit_opcodes operands_of operands_of_long operation_at class_of_operation is_long_operation code_use_of tested_by written_by_binary written_by_long
opcode_F6 = refl

opcode_F7 : form_of 247 ≡ form (op.Convert Long Word) Translated false ((Read, sizes.Long) ∷ (Write, sizes.Word) ∷ []) (goes_on (codes false false false false) (codes true true true true))
unfolding integer_opcodes control_opcodes mixed_opcodes move_opcodes bit_opcodes operands_of operands_of_long operation_at class_of_operation is_long_operation code_use_of tested_by written_by_binary written_by_long
opcode_F7 = refl

opcode_F8 : form_of 248 ≡ reserved
unfolding integer_opcodes control_opcodes mixed_opcodes move_opcodes bit_opcodes operands_of operands_of_long operation_at class_of_operation is_long_operation code_use_of tested_by written_by_binary written_by_long
opcode_F8 = refl

opcode_F9 : form_of 249 ≡ reserved
unfolding integer_opcodes control_opcodes mixed_opcodes move_opcodes bit_opcodes operands_of operands_of_long operation_at class_of_operation is_long_operation code_use_of tested_by written_by_binary written_by_long
opcode_F9 = refl

opcode_FA : form_of 250 ≡ form (op.Long long.CallGeneral) Tie true ((Address, sizes.Byte) ∷ (Address, sizes.Byte) ∷ []) (may_jump (codes false false false false) (codes true true true true))
unfolding integer_opcodes control_opcodes mixed_opcodes move_opcodes bit_opcodes operands_of operands_of_long operation_at class_of_operation is_long_operation code_use_of tested_by written_by_binary written_by_long
opcode_FA = refl

opcode_FB : form_of 251 ≡ form (op.Long long.CallStack) Tie true ((Read, sizes.Long) ∷ (Address, sizes.Byte) ∷ []) (may_jump (codes false false false false) (codes true true true true))
unfolding integer_opcodes control_opcodes mixed_opcodes move_opcodes bit_opcodes operands_of operands_of_long operation_at class_of_operation is_long_operation code_use_of tested_by written_by_binary written_by_long
opcode_FB = refl

opcode_FC : form_of 252 ≡ reserved
unfolding integer_opcodes control_opcodes mixed_opcodes move_opcodes bit_opcodes operands_of operands_of_long operation_at class_of_operation is_long_operation code_use_of tested_by written_by_binary written_by_long
opcode_FC = refl

opcode_FD : form_of 253 ≡ reserved
unfolding integer_opcodes control_opcodes mixed_opcodes move_opcodes bit_opcodes operands_of operands_of_long operation_at class_of_operation is_long_operation code_use_of tested_by written_by_binary written_by_long
opcode_FD = refl

opcode_FE : form_of 254 ≡ reserved
unfolding integer_opcodes control_opcodes mixed_opcodes move_opcodes bit_opcodes operands_of operands_of_long operation_at class_of_operation is_long_operation code_use_of tested_by written_by_binary written_by_long
opcode_FE = refl

opcode_FF : form_of 255 ≡ reserved
unfolding integer_opcodes control_opcodes mixed_opcodes move_opcodes bit_opcodes operands_of operands_of_long operation_at class_of_operation is_long_operation code_use_of tested_by written_by_binary written_by_long
opcode_FF = refl
