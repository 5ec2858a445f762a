-- The operands of each operation, and what becomes of it.
-- VAX Architecture Reference Manual, "Instruction Descriptions": the line of operands of each instruction, as
-- "add.rx, sum.mx".
use Rattle.std.specs.Prelude.{ℕ, zero, suc, List, [], ◌∷◌, map, length, Bool, true, false, Option, Some, None}
use Rattle.std.specs.Option.{option_map, option_map_or}
use Rattle.vax_form.specs.Size.{size_of}
use Rattle.vax_form.specs.Operation.{operation_at}
use Rattle.vax_form.specs.declared.instr.Access.{Access}
use Rattle.vax_form.specs.declared.instr.Access.TheVariants.{Read, Write, Modify, Address, Field}
use Rattle.vax_form.specs.declared.instr.Access.TheVariants as accesses
use Rattle.vax_form.specs.declared.instr.Size.{Size}
use Rattle.vax_form.specs.declared.instr.Size.TheVariants.{Byte, Word, Long, Quad}
use Rattle.vax_form.specs.declared.operation.BinaryOperation.{BinaryOperation}
use Rattle.vax_form.specs.declared.operation.BinaryOperation.TheVariants.{Divide}
use Rattle.vax_form.specs.declared.operation.LongOperation.{LongOperation}
use Rattle.vax_form.specs.declared.operation.LongOperation.TheVariants.{Index, CallGeneral, CallStack, Return, PushRegisters, PopRegisters, MoveCharacters, MoveCharactersFilled, CompareCharacters, LocateCharacter, SkipCharacter}
use Rattle.vax_form.specs.declared.operation.Operation.{Operation}
use Rattle.vax_form.specs.declared.operation.Operation.TheVariants as operations
use Rattle.vax_form.specs.declared.operation.Operation.TheVariants.{NoOperation, Breakpoint, ChangeMode, Move, Clear, MoveAddress, PushAddress, PushLong, MoveZeroExtended, Convert, MoveComplemented, MoveNegated, MovePsl, BitSetPsw, BitClearPsw, Compare, Test, BitTest, TwoOperands, ThreeOperands, Increment, Decrement, AddWithCarry, SubtractWithCarry, AddAlignedWord, ExtendedMultiply, ArithmeticShift, Rotate, ExtractField, InsertField, Branch, BranchIf, BranchOnLowBit, BranchOnBit, AddOneBranch, SubtractOneBranch, AddCompareBranch, BranchToSubroutine, Jump, JumpToSubroutine, ReturnFromSubroutine, Case}
use Rattle.vax_form.specs.declared.row.Class.{Class}
use Rattle.vax_form.specs.declared.row.Class.TheVariants.{Translated, Tie, Reserved}
use Rattle.vax_form.specs.declared.row.Row.{Row}

-- the first so many of a list that goes on with the same element
abbrev pub filled : {A : Type 0} → A → ℕ → List A → List A
filled x zero ys = []
filled x (suc n) [] = x ∷ filled x n []
filled x (suc n) (y ∷ ys) = y ∷ filled x n ys

-- the row with these operands; the places behind the last hold Read and Byte
abbrev pub row_with : List (Access × Size) → Row
row_with operands = record {
  count = length operands;
  access = filled Read 6 (map (λ operand. operand.0) operands);
  size = filled Byte 6 (map (λ operand. operand.1) operands);
}

-- the operands of the long instructions
unfoldable pub operands_of_long : LongOperation → List (Access × Size)
operands_of_long Index = (Read, Long) ∷ (Read, Long) ∷ (Read, Long) ∷ (Read, Long) ∷ (Read, Long) ∷ (Write, Long) ∷ []
operands_of_long CallGeneral = (Address, Byte) ∷ (Address, Byte) ∷ []
operands_of_long CallStack = (Read, Long) ∷ (Address, Byte) ∷ []
operands_of_long Return = []
operands_of_long PushRegisters = (Read, Word) ∷ []
operands_of_long PopRegisters = (Read, Word) ∷ []
operands_of_long MoveCharacters = (Read, Word) ∷ (Address, Byte) ∷ (Address, Byte) ∷ []
operands_of_long MoveCharactersFilled = (Read, Word) ∷ (Address, Byte) ∷ (Read, Byte) ∷ (Read, Word) ∷ (Address, Byte) ∷ []
operands_of_long CompareCharacters = (Read, Word) ∷ (Address, Byte) ∷ (Address, Byte) ∷ []
operands_of_long LocateCharacter = (Read, Byte) ∷ (Read, Word) ∷ (Address, Byte) ∷ []
operands_of_long SkipCharacter = (Read, Byte) ∷ (Read, Word) ∷ (Address, Byte) ∷ []

-- the displacement of a branch
abbrev pub displacement : Size → Access × Size
displacement size = (accesses.Branch, size)

unfoldable pub operands_of : Operation → List (Access × Size)
operands_of NoOperation = []
operands_of Breakpoint = []
operands_of ChangeMode = (Read, Word) ∷ []
operands_of (Move size) = (Read, size) ∷ (Write, size) ∷ []
operands_of (Clear size) = (Write, size) ∷ []
operands_of (MoveAddress size) = (Address, size) ∷ (Write, Long) ∷ []
operands_of (PushAddress size) = (Address, size) ∷ []
operands_of PushLong = (Read, Long) ∷ []
operands_of (MoveZeroExtended from to) = (Read, size_of from) ∷ (Write, size_of to) ∷ []
operands_of (Convert from to) = (Read, size_of from) ∷ (Write, size_of to) ∷ []
operands_of (MoveComplemented width) = (Read, size_of width) ∷ (Write, size_of width) ∷ []
operands_of (MoveNegated width) = (Read, size_of width) ∷ (Write, size_of width) ∷ []
operands_of MovePsl = (Write, Long) ∷ []
operands_of BitSetPsw = (Read, Word) ∷ []
operands_of BitClearPsw = (Read, Word) ∷ []
operands_of (Compare width) = (Read, size_of width) ∷ (Read, size_of width) ∷ []
operands_of (Test width) = (Read, size_of width) ∷ []
operands_of (BitTest width) = (Read, size_of width) ∷ (Read, size_of width) ∷ []
operands_of (TwoOperands operation width) = (Read, size_of width) ∷ (Modify, size_of width) ∷ []
operands_of (ThreeOperands operation width) = (Read, size_of width) ∷ (Read, size_of width) ∷ (Write, size_of width) ∷ []
operands_of (Increment width) = (Modify, size_of width) ∷ []
operands_of (Decrement width) = (Modify, size_of width) ∷ []
operands_of AddWithCarry = (Read, Long) ∷ (Modify, Long) ∷ []
operands_of SubtractWithCarry = (Read, Long) ∷ (Modify, Long) ∷ []
operands_of AddAlignedWord = (Read, Word) ∷ (Modify, Word) ∷ []
operands_of ExtendedMultiply = (Read, Long) ∷ (Read, Long) ∷ (Read, Long) ∷ (Write, Quad) ∷ []
operands_of ArithmeticShift = (Read, Byte) ∷ (Read, Long) ∷ (Write, Long) ∷ []
operands_of Rotate = (Read, Byte) ∷ (Read, Long) ∷ (Write, Long) ∷ []
operands_of (ExtractField signed) = (Read, Long) ∷ (Read, Byte) ∷ (Field, Byte) ∷ (Write, Long) ∷ []
operands_of InsertField = (Read, Long) ∷ (Read, Long) ∷ (Read, Byte) ∷ (Field, Byte) ∷ []
operands_of (Branch width) = displacement (size_of width) ∷ []
operands_of (BranchIf condition) = displacement Byte ∷ []
operands_of (BranchOnLowBit state) = (Read, Long) ∷ displacement Byte ∷ []
operands_of (BranchOnBit branch) = (Read, Long) ∷ (Field, Byte) ∷ displacement Byte ∷ []
operands_of (AddOneBranch or_equal) = (Read, Long) ∷ (Modify, Long) ∷ displacement Byte ∷ []
operands_of (SubtractOneBranch or_equal) = (Modify, Long) ∷ displacement Byte ∷ []
operands_of (AddCompareBranch width) = (Read, size_of width) ∷ (Read, size_of width) ∷ (Modify, size_of width) ∷ displacement Word ∷ []
operands_of (BranchToSubroutine width) = displacement (size_of width) ∷ []
operands_of Jump = (Address, Byte) ∷ []
operands_of JumpToSubroutine = (Address, Byte) ∷ []
operands_of ReturnFromSubroutine = []
operands_of (Case width) = (Read, size_of width) ∷ (Read, size_of width) ∷ (Read, size_of width) ∷ []
operands_of (operations.Long operation) = operands_of_long operation

abbrev pub row_of_operation : Operation → Row
row_of_operation operation = row_with (operands_of operation)

-- the row of an opcode, where it is no reserved one
abbrev pub row_at : ℕ → Option Row
row_at opcode = option_map row_of_operation (operation_at opcode)

-- division is always interpreted
abbrev pub class_of_binary : BinaryOperation → Class
class_of_binary Divide = Tie
class_of_binary _ = Translated

-- so are CASE, fields of more than one bit and the long instructions
unfoldable pub class_of_operation : Operation → Class
class_of_operation (TwoOperands operation width) = class_of_binary operation
class_of_operation (ThreeOperands operation width) = class_of_binary operation
class_of_operation (ExtractField signed) = Tie
class_of_operation InsertField = Tie
class_of_operation (Case width) = Tie
class_of_operation (operations.Long operation) = Tie
class_of_operation _ = Translated

abbrev pub class_where : Option Operation → Class
class_where None = Reserved
class_where (Some operation) = class_of_operation operation

-- the class of an opcode: HALT and the opcodes that the table lacks are reserved
abbrev pub class_at : ℕ → Class
class_at opcode = class_where (operation_at opcode)

abbrev pub is_translated : Class → Bool
is_translated Translated = true
is_translated class = false

unfoldable pub is_long_operation : Operation → Bool
is_long_operation (operations.Long operation) = true
is_long_operation _ = false

abbrev pub is_long_at : ℕ → Bool
is_long_at opcode = option_map_or is_long_operation (operation_at opcode) false
