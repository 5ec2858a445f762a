-- The operations of the opcodes.
-- VAX Architecture Reference Manual, "Instruction Set Summary".
use Rattle.std.specs.Prelude.{ℕ, ◌-◌, List, [], ◌∷◌, Bool, true, false, ◌&&◌, nat_le, Option, Some, None, ◌==◌, if◌then◌else◌}
use Rattle.std.specs.Option.{option_or}
use Rattle.vax_form.specs.Size.{size_of}
use Rattle.vax_form.specs.declared.instr.Size.TheVariants as sizes
use Rattle.vax_form.specs.declared.instr.Width.{Width}
use Rattle.vax_form.specs.declared.instr.Width.TheVariants.{Byte, Word, Long}
use Rattle.vax_form.specs.declared.operation.Condition.TheVariants.{NotEqual, Equal, Greater, LessOrEqual, GreaterOrEqual, Less, GreaterUnsigned, LessOrEqualUnsigned, OverflowClear, OverflowSet, CarryClear, CarrySet}
use Rattle.vax_form.specs.declared.operation.BinaryOperation.TheVariants.{Add, Subtract, Multiply, Divide, BitSet, BitClear, ExclusiveOr}
use Rattle.vax_form.specs.declared.operation.BitStore.{BitStore}
use Rattle.vax_form.specs.declared.operation.BitStore.TheVariants.{Nothing, Plain, Interlocked}
use Rattle.vax_form.specs.declared.operation.LongOperation.TheVariants.{Index, CallGeneral, CallStack, Return, PushRegisters, PopRegisters, MoveCharacters, MoveCharactersFilled, CompareCharacters, LocateCharacter, SkipCharacter}
use Rattle.vax_form.specs.declared.operation.Operation.{Operation}
use Rattle.vax_form.specs.declared.operation.Operation.TheVariants as operations
use Rattle.vax_form.specs.declared.operation.Operation.TheVariants.{NoOperation, Breakpoint, ChangeMode, Move, Clear, MoveAddress, PushAddress, PushLong, MoveZeroExtended, Convert, MoveComplemented, MoveNegated, MovePsl, BitSetPsw, BitClearPsw, Compare, Test, BitTest, TwoOperands, ThreeOperands, Increment, Decrement, AddWithCarry, SubtractWithCarry, AddAlignedWord, ExtendedMultiply, ArithmeticShift, Rotate, ExtractField, InsertField, Branch, BranchIf, BranchOnLowBit, BranchOnBit, AddOneBranch, SubtractOneBranch, AddCompareBranch, BranchToSubroutine, Jump, JumpToSubroutine, ReturnFromSubroutine, Case}

-- integer arithmetic of one width: 80 to 97 for bytes, A0 to B7 for words, C0 to D7 for longwords
unfoldable pub integer_opcodes : Width → List (ℕ × Operation)
integer_opcodes width =
    (0x00, TwoOperands Add width)
    ∷ (0x01, ThreeOperands Add width)
    ∷ (0x02, TwoOperands Subtract width)
    ∷ (0x03, ThreeOperands Subtract width)
    ∷ (0x04, TwoOperands Multiply width)
    ∷ (0x05, ThreeOperands Multiply width)
    ∷ (0x06, TwoOperands Divide width)
    ∷ (0x07, ThreeOperands Divide width)
    ∷ (0x08, TwoOperands BitSet width)
    ∷ (0x09, ThreeOperands BitSet width)
    ∷ (0x0A, TwoOperands BitClear width)
    ∷ (0x0B, ThreeOperands BitClear width)
    ∷ (0x0C, TwoOperands ExclusiveOr width)
    ∷ (0x0D, ThreeOperands ExclusiveOr width)
    ∷ (0x0E, MoveNegated width)
    ∷ (0x0F, Case width)
    ∷ (0x10, Move (size_of width))
    ∷ (0x11, Compare width)
    ∷ (0x12, MoveComplemented width)
    ∷ (0x13, BitTest width)
    ∷ (0x14, Clear (size_of width))
    ∷ (0x15, Test width)
    ∷ (0x16, Increment width)
    ∷ (0x17, Decrement width)
    ∷ []

-- branches, jumps and returns
unfoldable pub control_opcodes : List (ℕ × Operation)
control_opcodes =
    (0x01, NoOperation)
    ∷ (0x03, Breakpoint)
    ∷ (0x04, operations.Long Return)
    ∷ (0x05, ReturnFromSubroutine)
    ∷ (0x10, BranchToSubroutine Byte)
    ∷ (0x11, Branch Byte)
    ∷ (0x12, BranchIf NotEqual)
    ∷ (0x13, BranchIf Equal)
    ∷ (0x14, BranchIf Greater)
    ∷ (0x15, BranchIf LessOrEqual)
    ∷ (0x16, JumpToSubroutine)
    ∷ (0x17, Jump)
    ∷ (0x18, BranchIf GreaterOrEqual)
    ∷ (0x19, BranchIf Less)
    ∷ (0x1A, BranchIf GreaterUnsigned)
    ∷ (0x1B, BranchIf LessOrEqualUnsigned)
    ∷ (0x1C, BranchIf OverflowClear)
    ∷ (0x1D, BranchIf OverflowSet)
    ∷ (0x1E, BranchIf CarryClear)
    ∷ (0x1F, BranchIf CarrySet)
    ∷ (0x30, BranchToSubroutine Word)
    ∷ (0x31, Branch Word)
    ∷ []

-- the others below 80
unfoldable pub mixed_opcodes : List (ℕ × Operation)
mixed_opcodes =
    (0x0A, operations.Long Index)
    ∷ (0x28, operations.Long MoveCharacters)
    ∷ (0x29, operations.Long CompareCharacters)
    ∷ (0x2C, operations.Long MoveCharactersFilled)
    ∷ (0x32, Convert Word Long)
    ∷ (0x33, Convert Word Byte)
    ∷ (0x3A, operations.Long LocateCharacter)
    ∷ (0x3B, operations.Long SkipCharacter)
    ∷ (0x3C, MoveZeroExtended Word Long)
    ∷ (0x3D, AddCompareBranch Word)
    ∷ (0x3E, MoveAddress sizes.Word)
    ∷ (0x3F, PushAddress sizes.Word)
    ∷ (0x58, AddAlignedWord)
    ∷ (0x78, ArithmeticShift)
    ∷ (0x7A, ExtendedMultiply)
    ∷ (0x7C, Clear sizes.Quad)
    ∷ (0x7D, Move sizes.Quad)
    ∷ (0x7E, MoveAddress sizes.Quad)
    ∷ (0x7F, PushAddress sizes.Quad)
    ∷ []

-- between and behind integer arithmetic
unfoldable pub move_opcodes : List (ℕ × Operation)
move_opcodes =
    (0x98, Convert Byte Long)
    ∷ (0x99, Convert Byte Word)
    ∷ (0x9A, MoveZeroExtended Byte Long)
    ∷ (0x9B, MoveZeroExtended Byte Word)
    ∷ (0x9C, Rotate)
    ∷ (0x9D, AddCompareBranch Byte)
    ∷ (0x9E, MoveAddress sizes.Byte)
    ∷ (0x9F, PushAddress sizes.Byte)
    ∷ (0xB8, BitSetPsw)
    ∷ (0xB9, BitClearPsw)
    ∷ (0xBA, operations.Long PopRegisters)
    ∷ (0xBB, operations.Long PushRegisters)
    ∷ (0xBC, ChangeMode)
    ∷ (0xD8, AddWithCarry)
    ∷ (0xD9, SubtractWithCarry)
    ∷ (0xDC, MovePsl)
    ∷ (0xDD, PushLong)
    ∷ (0xDE, MoveAddress sizes.Long)
    ∷ (0xDF, PushAddress sizes.Long)
    ∷ []

-- a branch on a bit: the state in which it branches, and what it leaves in the bit
abbrev pub bit_branch : Bool → BitStore → Operation
bit_branch state store = BranchOnBit (record { state = state; store = store })

-- bits, fields and loops
unfoldable pub bit_opcodes : List (ℕ × Operation)
bit_opcodes =
    (0xE0, bit_branch true Nothing)
    ∷ (0xE1, bit_branch false Nothing)
    ∷ (0xE2, bit_branch true (Plain true))
    ∷ (0xE3, bit_branch false (Plain true))
    ∷ (0xE4, bit_branch true (Plain false))
    ∷ (0xE5, bit_branch false (Plain false))
    ∷ (0xE6, bit_branch true (Interlocked true))
    ∷ (0xE7, bit_branch false (Interlocked false))
    ∷ (0xE8, BranchOnLowBit true)
    ∷ (0xE9, BranchOnLowBit false)
    ∷ (0xEE, ExtractField true)
    ∷ (0xEF, ExtractField false)
    ∷ (0xF0, InsertField)
    ∷ (0xF1, AddCompareBranch Long)
    ∷ (0xF2, AddOneBranch false)
    ∷ (0xF3, AddOneBranch true)
    ∷ (0xF4, SubtractOneBranch true)
    ∷ (0xF5, SubtractOneBranch false)
    ∷ (0xF6, Convert Long Byte)
    ∷ (0xF7, Convert Long Word)
    ∷ (0xFA, operations.Long CallGeneral)
    ∷ (0xFB, operations.Long CallStack)
    ∷ []

abbrev pub among : List (ℕ × Operation) → ℕ → Option Operation
among [] opcode = None
among (row ∷ rows) opcode = if opcode == row.0 then Some row.1 else among rows opcode

abbrev pub is_between : ℕ → ℕ → ℕ → Bool
is_between first last opcode = nat_le first opcode && nat_le opcode last

abbrev pub other_operation_at : ℕ → Option Operation
other_operation_at opcode = option_or (option_or (option_or (among control_opcodes opcode) (among mixed_opcodes opcode)) (among move_opcodes opcode)) (among bit_opcodes opcode)

-- the operation of an opcode, where it is no reserved one
unfoldable pub operation_at : ℕ → Option Operation
operation_at opcode =
    if is_between 0x80 0x97 opcode then among (integer_opcodes Byte) (opcode - 0x80)
    else (if is_between 0xA0 0xB7 opcode then among (integer_opcodes Word) (opcode - 0xA0)
    else (if is_between 0xC0 0xD7 opcode then among (integer_opcodes Long) (opcode - 0xC0)
    else other_operation_at opcode))
