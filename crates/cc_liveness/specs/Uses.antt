-- What each operation does to the condition codes, and whether it ends: the next PC may be another than that of the
-- instruction behind it.
-- VAX Architecture Reference Manual, "Instruction Descriptions": "Condition Codes" and "Operation" of each instruction.
use Rattle.std.specs.Prelude.{Bool, true, false}
use Rattle.std.specs.Option.{option_map_or}
use Rattle.vax_form.specs.Operation.{operation_at}
use Rattle.vax_form.specs.declared.instr.Instr.{Instr}
use Rattle.vax_form.specs.declared.state.Flags.{Flags}
use Rattle.vax_form.specs.declared.operation.Condition.{Condition}
use Rattle.vax_form.specs.declared.operation.Condition.TheVariants.{NotEqual, Equal, Greater, LessOrEqual, GreaterOrEqual, Less, GreaterUnsigned, LessOrEqualUnsigned, OverflowClear, OverflowSet, CarryClear, CarrySet}
use Rattle.vax_form.specs.declared.operation.BinaryOperation.{BinaryOperation}
use Rattle.vax_form.specs.declared.operation.BinaryOperation.TheVariants.{Add, Subtract, Multiply, Divide, BitSet, BitClear, ExclusiveOr}
use Rattle.vax_form.specs.declared.operation.LongOperation.{LongOperation}
use Rattle.vax_form.specs.declared.operation.LongOperation.TheVariants.{Index, CallGeneral, CallStack, Return, PushRegisters, PopRegisters, MoveCharacters, MoveCharactersFilled, CompareCharacters, LocateCharacter, SkipCharacter}
use Rattle.vax_form.specs.declared.operation.Operation.{Operation}
use Rattle.vax_form.specs.declared.operation.Operation.TheVariants.{NoOperation, Breakpoint, ChangeMode, Move, Clear, MoveAddress, PushAddress, PushLong, MoveZeroExtended, Convert, MoveComplemented, MoveNegated, MovePsl, BitSetPsw, BitClearPsw, Compare, Test, BitTest, TwoOperands, ThreeOperands, Increment, Decrement, AddWithCarry, SubtractWithCarry, AddAlignedWord, ExtendedMultiply, ArithmeticShift, Rotate, ExtractField, InsertField, Branch, BranchIf, BranchOnLowBit, BranchOnBit, AddOneBranch, SubtractOneBranch, AddCompareBranch, BranchToSubroutine, Jump, JumpToSubroutine, ReturnFromSubroutine, Case, Long}
use Rattle.cc_liveness.specs.declared.uses.CodeUse.{CodeUse}
use Rattle.vax_form.specs.Codes.{codes, none, all, all_but_carry}

-- an instruction behind which the next one comes
abbrev pub goes_on : (reads writes : Flags) → CodeUse
goes_on reads writes = record { reads = reads; writes = writes; ends = false }

-- an instruction behind which control may be elsewhere
abbrev pub may_jump : (reads writes : Flags) → CodeUse
may_jump reads writes = record { reads = reads; writes = writes; ends = true }

-- the codes that a conditional branch tests
unfoldable pub tested_by : Condition → Flags
tested_by NotEqual = codes false true false false
tested_by Equal = codes false true false false
tested_by Greater = codes true true false false
tested_by LessOrEqual = codes true true false false
tested_by GreaterOrEqual = codes true false false false
tested_by Less = codes true false false false
tested_by GreaterUnsigned = codes false true false true
tested_by LessOrEqualUnsigned = codes false true false true
tested_by OverflowClear = codes false false true false
tested_by OverflowSet = codes false false true false
tested_by CarryClear = codes false false false true
tested_by CarrySet = codes false false false true

-- sums, differences, products and quotients write all codes; logical operations keep C
unfoldable pub written_by_binary : BinaryOperation → Flags
written_by_binary Add = all
written_by_binary Subtract = all
written_by_binary Multiply = all
written_by_binary Divide = all
written_by_binary BitSet = all_but_carry
written_by_binary BitClear = all_but_carry
written_by_binary ExclusiveOr = all_but_carry

unfoldable pub written_by_long : LongOperation → Flags
written_by_long Index = all
written_by_long CallGeneral = all
written_by_long CallStack = all
written_by_long Return = all
written_by_long PushRegisters = none
written_by_long PopRegisters = none
written_by_long MoveCharacters = all
written_by_long MoveCharactersFilled = all
written_by_long CompareCharacters = all
written_by_long LocateCharacter = all
written_by_long SkipCharacter = all

-- calls and returns go elsewhere
abbrev pub long_ends : LongOperation → Bool
long_ends CallGeneral = true
long_ends CallStack = true
long_ends Return = true
long_ends operation = false

unfoldable pub code_use_of : Operation → CodeUse
code_use_of NoOperation = goes_on none none
code_use_of Breakpoint = goes_on none none
code_use_of ChangeMode = goes_on none none
code_use_of (Move size) = goes_on none all_but_carry
code_use_of (Clear size) = goes_on none all_but_carry
code_use_of (MoveAddress size) = goes_on none all_but_carry
code_use_of (PushAddress size) = goes_on none all_but_carry
code_use_of PushLong = goes_on none all_but_carry
code_use_of (MoveZeroExtended from to) = goes_on none all_but_carry
code_use_of (Convert from to) = goes_on none all
code_use_of (MoveComplemented width) = goes_on none all_but_carry
code_use_of (MoveNegated width) = goes_on none all
code_use_of MovePsl = goes_on all none
code_use_of BitSetPsw = goes_on all all
code_use_of BitClearPsw = goes_on all all
code_use_of (Compare width) = goes_on none all
code_use_of (Test width) = goes_on none all
code_use_of (BitTest width) = goes_on none all_but_carry
code_use_of (TwoOperands operation width) = goes_on none (written_by_binary operation)
code_use_of (ThreeOperands operation width) = goes_on none (written_by_binary operation)
code_use_of (Increment width) = goes_on none all
code_use_of (Decrement width) = goes_on none all
code_use_of AddWithCarry = goes_on (codes false false false true) all
code_use_of SubtractWithCarry = goes_on (codes false false false true) all
code_use_of AddAlignedWord = goes_on none all
code_use_of ExtendedMultiply = goes_on none all
code_use_of ArithmeticShift = goes_on none all
code_use_of Rotate = goes_on none all_but_carry
code_use_of (ExtractField signed) = goes_on none all_but_carry
code_use_of InsertField = goes_on none none
code_use_of (Branch width) = may_jump none none
code_use_of (BranchIf condition) = may_jump (tested_by condition) none
code_use_of (BranchOnLowBit state) = may_jump none none
code_use_of (BranchOnBit bit) = may_jump none none
code_use_of (AddOneBranch or_equal) = may_jump none all_but_carry
code_use_of (SubtractOneBranch or_equal) = may_jump none all_but_carry
code_use_of (AddCompareBranch width) = may_jump none all_but_carry
code_use_of (BranchToSubroutine width) = may_jump none none
code_use_of Jump = may_jump none none
code_use_of JumpToSubroutine = may_jump none none
code_use_of ReturnFromSubroutine = may_jump none none
code_use_of (Case width) = may_jump none all
code_use_of (Long operation) = record { reads = none; writes = written_by_long operation; ends = long_ends operation }

-- what an instruction does to the codes; one without an operation leaves them
unfoldable pub use_of : Instr → CodeUse
use_of instr = option_map_or code_use_of (operation_at instr.opcode) (goes_on none none)
