-- The rows of the table of instructions: the plan of each operation.
-- VAX Architecture Reference Manual, "Instruction Descriptions".
use Rattle.std.specs.Prelude.{ℕ, ◌-◌, ◌/◌, ◌%◌, ◌^◌, List, [], ◌∷◌, ◌++◌, Bool, true, false, not, Option, Some, None, min, nat_lt, option_and_then, if◌then◌else◌}
use Rattle.std.specs.Option.{option_or}
use Rattle.vax_form.specs.Operation.{operation_at}
use Rattle.vax_form.specs.Row.{class_at, is_translated}
use Rattle.vax_form.specs.Size.{size_of}
use Rattle.vax_form.specs.State.{user_mode}
use Rattle.vax_form.specs.declared.instr.Access.{Access}
use Rattle.vax_form.specs.declared.instr.Access.TheVariants as accesses
use Rattle.vax_form.specs.declared.instr.Instr.{Instr}
use Rattle.vax_form.specs.declared.instr.Operand.{Operand}
use Rattle.vax_form.specs.declared.instr.Operand.TheVariants as operands
use Rattle.vax_form.specs.declared.instr.Base.TheVariants as bases
use Rattle.vax_form.specs.declared.instr.Size.{Size}
use Rattle.vax_form.specs.declared.instr.Size.TheVariants.{Byte, Word, Long, Quad}
use Rattle.vax_form.specs.declared.instr.Width.{Width}
use Rattle.vax_form.specs.declared.instr.Width.TheVariants as widths
use Rattle.vax_form.specs.declared.operation.BinaryOperation.{BinaryOperation}
use Rattle.vax_form.specs.declared.operation.BinaryOperation.TheVariants as binary
use Rattle.vax_form.specs.declared.operation.BitBranch.{BitBranch}
use Rattle.vax_form.specs.declared.operation.BitStore.{BitStore}
use Rattle.vax_form.specs.declared.operation.BitStore.TheVariants as stores
use Rattle.vax_form.specs.declared.operation.Operation.{Operation}
use Rattle.vax_form.specs.declared.operation.Operation.TheVariants as operations
use Rattle.vax_meaning.specs.Branches.{target}
use Rattle.vax_meaning.specs.Evaluation.{operand}
use Rattle.micro_ops.specs.declared.program.Arg.TheVariants.{Temp, Const, Flag}
use Rattle.micro_ops.specs.declared.program.Exit.{Exit}
use Rattle.micro_ops.specs.declared.program.Exit.TheVariants.{Next, Fixed, Computed, Choice, Service}
use Rattle.micro_ops.specs.declared.program.LockedOp.{LockedOp}
use Rattle.micro_ops.specs.declared.program.LockedOp.TheVariants as locked
use Rattle.micro_ops.specs.declared.program.Micro.{Micro}
use Rattle.micro_ops.specs.declared.program.Micro.TheVariants.{Compute, Probe, Refuse, Read, Write, Locked}
use Rattle.micro_ops.specs.declared.program.MicroOp.{MicroOp}
use Rattle.micro_ops.specs.declared.program.MicroOp.TheVariants as ops
use Rattle.micro_ops.specs.Sources.{sources_of}
use Rattle.micro_ops.specs.declared.codes.CodeSources.{CodeSources}
use Rattle.operand_programs.specs.InOrder.{operands_program, steps_behind_all, no_steps}
use Rattle.micro_lower.specs.Plans.{Plan, unary, specifiers_from, rest_program, program_of}
use Rattle.micro_lower.specs.Programs.{plain_program_of}
use Rattle.micro_lower.specs.declared.plans.Slot.{Slot}
use Rattle.micro_lower.specs.declared.plans.Target.{Target}
use Rattle.micro_lower.specs.declared.plans.Target.TheVariants as targets

-- ---- operands
abbrev pub slot : Access → Size → (to place : ℕ) → Slot
slot access size to place = record { access = access; size = size; to = to; place = place }

abbrev pub read : Size → (to place : ℕ) → Slot
read size to place = slot accesses.Read size to place

-- the address goes into 3, and is found through 2
abbrev pub written : Size → Slot
written size = slot accesses.Write size 2 3

-- the same through 0, where 2 has the value that is written
abbrev pub placed : Size → Slot
placed size = slot accesses.Write size 0 3

-- the value goes into that temporary, the address into 3
abbrev pub modified : Size → (to : ℕ) → Slot
modified size to = slot accesses.Modify size to 3

-- the address goes into that temporary
abbrev pub addressed : Size → (to : ℕ) → Slot
addressed size to = slot accesses.Address size to 1

-- a displacement is in the instruction, and takes no temporary
abbrev pub displaced : Size → Slot
displaced size = slot accesses.Branch size 0 1

-- ---- computations
-- 1 for 0, and 0 for 1
abbrev pub inverted : (temp : ℕ) → Micro
inverted temp = Compute temp ops.Xor Byte (Temp temp) (Const 1)

-- V into 3: a number that was extended into 4 is not the result extended
abbrev pub overflow_by : Size → List Micro
overflow_by size = unary 5 ops.SignExtend size (Temp 2) ∷ Compute 3 ops.Equal Quad (Temp 4) (Temp 5) ∷ inverted 3 ∷ []

-- ---- results
-- an operand in memory is written before, by a reference of its own; a register takes the result
abbrev pub register_target : Operand → Size → Target
register_target (operands.Register n) size = targets.Replacement (operands.Register n) size
register_target base size = targets.Nowhere

-- ---- moves
-- MOV
abbrev pub move_plan : Size → Instr → Plan
move_plan size instr = record {
  slots = read size 2 1 ∷ placed size ∷ [];
  before = [];
  target = targets.Result (operand instr 1) size;
  behind = [];
  exit = Next;
}

-- MOVZ
abbrev pub move_zero_extended_plan : (from to : Width) → Instr → Plan
move_zero_extended_plan from to instr = record {
  slots = read (size_of from) 2 1 ∷ placed (size_of to) ∷ [];
  before = [];
  target = targets.Result (operand instr 1) (size_of to);
  behind = [];
  exit = Next;
}

-- CLR
abbrev pub clear_plan : Size → Instr → Plan
clear_plan size instr = record {
  slots = written size ∷ [];
  before = unary 2 ops.Move Byte (Const 0) ∷ [];
  target = targets.Result (operand instr 0) size;
  behind = [];
  exit = Next;
}

-- all bits of a size
abbrev pub ones : Size → ℕ
ones Byte = 0xFF
ones Word = 0xFFFF
ones Long = 0xFFFF_FFFF
ones Quad = 0xFFFF_FFFF_FFFF_FFFF

-- MCOM
abbrev pub move_complemented_plan : Width → Instr → Plan
move_complemented_plan width instr = record {
  slots = read (size_of width) 0 1 ∷ written (size_of width) ∷ [];
  before = Compute 2 ops.Sub (size_of width) (Const (ones (size_of width))) (Temp 0) ∷ [];
  target = targets.Result (operand instr 1) (size_of width);
  behind = [];
  exit = Next;
}

-- MNEG: 0 minus the operand
abbrev pub move_negated_plan : Width → Instr → Plan
move_negated_plan width instr = record {
  slots = read (size_of width) 1 0 ∷ written (size_of width) ∷ [];
  before = Compute 2 ops.Sub (size_of width) (Const 0) (Temp 1) ∷ [];
  target = targets.Result (operand instr 1) (size_of width);
  behind = unary 0 ops.Move Byte (Const 0) ∷ [];
  exit = Next;
}

-- a longer number holds what a shorter one does
abbrev pub is_extension : (from to : Width) → Bool
is_extension widths.Byte widths.Word = true
is_extension widths.Byte widths.Long = true
is_extension widths.Word widths.Long = true
is_extension from to = false

-- V of a conversion: an extension never overflows
abbrev pub behind_conversion : (extension : Bool) → (from to : Size) → List Micro
behind_conversion true from to = unary 3 ops.Move Byte (Const 0) ∷ []
behind_conversion false from to = unary 4 ops.SignExtend from (Temp 0) ∷ overflow_by to

abbrev pub convert_plan_with : (behind : List Micro) → (from to : Width) → Instr → Plan
convert_plan_with behind from to instr = record {
  slots = read (size_of from) 0 1 ∷ written (size_of to) ∷ [];
  before = unary 2 ops.SignExtend (size_of from) (Temp 0) ∷ unary 2 ops.Move (size_of to) (Temp 2) ∷ [];
  target = targets.Result (operand instr 1) (size_of to);
  behind = behind;
  exit = Next;
}

-- CVT
abbrev pub convert_plan : (from to : Width) → Instr → Plan
convert_plan from to instr = convert_plan_with (behind_conversion (is_extension from to) (size_of from) (size_of to)) from to instr

-- MOVA
abbrev pub move_address_plan : Size → Instr → Plan
move_address_plan size instr = record {
  slots = addressed size 2 ∷ placed Long ∷ [];
  before = [];
  target = targets.Result (operand instr 1) Long;
  behind = [];
  exit = Next;
}

-- PUSHA
abbrev pub push_address_plan : Size → Plan
push_address_plan size = record {
  slots = addressed size 2 ∷ [];
  before = [];
  target = targets.Stack;
  behind = [];
  exit = Next;
}

-- PUSHL
abbrev pub push_long_plan : Plan
push_long_plan = record {
  slots = read Long 2 1 ∷ [];
  before = [];
  target = targets.Stack;
  behind = [];
  exit = Next;
}

-- ---- tests
-- CMP
abbrev pub compare_plan : Width → Plan
compare_plan width = record {
  slots = read (size_of width) 0 1 ∷ read (size_of width) 1 2 ∷ [];
  before = [];
  target = targets.Nowhere;
  behind = [];
  exit = Next;
}

-- TST
abbrev pub test_plan : Width → Plan
test_plan width = record {
  slots = read (size_of width) 2 1 ∷ [];
  before = [];
  target = targets.Nowhere;
  behind = [];
  exit = Next;
}

-- BIT
abbrev pub bit_test_plan : Width → Plan
bit_test_plan width = record {
  slots = read (size_of width) 0 1 ∷ read (size_of width) 1 2 ∷ [];
  before = [];
  target = targets.Nowhere;
  behind = Compute 2 ops.And Quad (Temp 0) (Temp 1) ∷ [];
  exit = Next;
}

-- ---- arithmetic: the second operand is in 0, and the first in 1
abbrev pub micro_of : BinaryOperation → MicroOp
micro_of binary.Add = ops.Add
micro_of binary.Subtract = ops.Sub
micro_of binary.Multiply = ops.Mul
micro_of binary.Divide = ops.Mul
micro_of binary.BitSet = ops.Or
micro_of binary.BitClear = ops.AndNot
micro_of binary.ExclusiveOr = ops.Xor

-- the size at which the result is made: a logical one of two numbers of a size is one of that size, and nothing is masked
abbrev pub made_size : BinaryOperation → Size → Size
made_size binary.BitSet size = Quad
made_size binary.BitClear size = Quad
made_size binary.ExclusiveOr size = Quad
made_size operation size = size

-- V of a product is computed
abbrev pub behind_binary : BinaryOperation → Size → List Micro
behind_binary binary.Multiply size =
    unary 4 ops.SignExtend size (Temp 0) ∷ unary 5 ops.SignExtend size (Temp 1) ∷ Compute 4 ops.Mul Quad (Temp 4) (Temp 5) ∷ overflow_by size
behind_binary operation size = []

-- ADD2, SUB2, MUL2, BIS2, BIC2, XOR2
abbrev pub two_operands_plan : BinaryOperation → Width → Instr → Plan
two_operands_plan operation width instr = record {
  slots = read (size_of width) 1 2 ∷ modified (size_of width) 0 ∷ [];
  before = Compute 2 (micro_of operation) (made_size operation (size_of width)) (Temp 0) (Temp 1) ∷ [];
  target = targets.Replacement (operand instr 1) (size_of width);
  behind = behind_binary operation (size_of width);
  exit = Next;
}

-- ADD3, SUB3, MUL3, BIS3, BIC3, XOR3
abbrev pub three_operands_plan : BinaryOperation → Width → Instr → Plan
three_operands_plan operation width instr = record {
  slots = read (size_of width) 1 2 ∷ read (size_of width) 0 2 ∷ written (size_of width) ∷ [];
  before = Compute 2 (micro_of operation) (made_size operation (size_of width)) (Temp 0) (Temp 1) ∷ [];
  target = targets.Result (operand instr 2) (size_of width);
  behind = behind_binary operation (size_of width);
  exit = Next;
}

-- INC, DEC: 1 is added or subtracted
abbrev pub by_one_plan : MicroOp → Width → Instr → Plan
by_one_plan op width instr = record {
  slots = modified (size_of width) 0 ∷ [];
  before = Compute 2 op (size_of width) (Temp 0) (Const 1) ∷ [];
  target = targets.Replacement (operand instr 0) (size_of width);
  behind = unary 1 ops.Move Byte (Const 1) ∷ [];
  exit = Next;
}

-- ADAWI: the sum of the words in 0 and 1 goes into 2
abbrev pub word_added : Micro
word_added = Compute 2 ops.Add Word (Temp 0) (Temp 1)

-- a register is modified, and in memory the one reference stands behind all operands
abbrev pub aligned_slot : Operand → Slot
aligned_slot (operands.Register n) = modified Word 0
aligned_slot base = written Word

-- an odd address is refused, before it is checked
abbrev pub aligned_reference : List Micro
aligned_reference =
    Compute 4 ops.And Byte (Temp 3) (Const 1)
    ∷ Refuse 4
    ∷ Probe 3 2 true
    ∷ Locked 0 3 locked.AddWord 1
    ∷ word_added
    ∷ []

abbrev pub before_aligned : Operand → List Micro
before_aligned (operands.Register n) = word_added ∷ []
before_aligned base = aligned_reference

abbrev pub add_aligned_plan_for : Operand → Instr → Plan
add_aligned_plan_for base instr = record {
  slots = read Word 1 2 ∷ aligned_slot base ∷ [];
  before = before_aligned base;
  target = register_target base Word;
  behind = [];
  exit = Next;
}

abbrev pub add_aligned_plan : Instr → Plan
add_aligned_plan instr = add_aligned_plan_for (operand instr 1) instr

-- ---- branches
-- a branch, taken where 0 is not 0
abbrev pub branch_exit : Instr → (number : ℕ) → Exit
branch_exit instr number = Choice 0 (target (operand instr number)) instr.after

-- one that is taken where what is in 0 is not 0, or where it is
abbrev pub test_exit : (state : Bool) → Instr → (number : ℕ) → Exit
test_exit true instr number = branch_exit instr number
test_exit false instr number = Choice 0 instr.after (target (operand instr number))

-- BLBS, BLBC
abbrev pub low_bit_plan : Bool → Instr → Plan
low_bit_plan state instr = record {
  slots = read Long 0 1 ∷ displaced Byte ∷ [];
  before = Compute 0 ops.And Byte (Temp 0) (Const 1) ∷ [];
  target = targets.Nowhere;
  behind = [];
  exit = test_exit state instr 1;
}

-- whether a longword is below 0, which one that is at least 0 is not, or above 0
abbrev pub down_test : (or_equal : Bool) → List Micro
down_test true = Compute 0 ops.Less Long (Temp 2) (Const 0) ∷ []
down_test false = Compute 0 ops.Less Long (Const 0) (Temp 2) ∷ []

-- SOBGEQ, SOBGTR. V: the index was below what it is
abbrev pub subtract_one_plan : (or_equal : Bool) → Instr → Plan
subtract_one_plan or_equal instr = record {
  slots = modified Long 0 ∷ displaced Byte ∷ [];
  before = Compute 2 ops.Sub Long (Temp 0) (Const 1) ∷ [];
  target = targets.Replacement (operand instr 0) Long;
  behind = Compute 3 ops.Less Long (Temp 0) (Temp 2) ∷ down_test or_equal;
  exit = test_exit (not or_equal) instr 1;
}

-- whether the index is above the limit, which one that is at most the limit is not, or below it
abbrev pub up_test : (or_equal : Bool) → List Micro
up_test true = Compute 0 ops.Less Long (Temp 1) (Temp 2) ∷ []
up_test false = Compute 0 ops.Less Long (Temp 2) (Temp 1) ∷ []

-- AOBLEQ, AOBLSS. V: the index is below what it was
abbrev pub add_one_plan : (or_equal : Bool) → Instr → Plan
add_one_plan or_equal instr = record {
  slots = read Long 1 2 ∷ modified Long 0 ∷ displaced Byte ∷ [];
  before = Compute 2 ops.Add Long (Temp 0) (Const 1) ∷ [];
  target = targets.Replacement (operand instr 1) Long;
  behind = Compute 3 ops.Less Long (Temp 2) (Temp 0) ∷ up_test or_equal;
  exit = test_exit (not or_equal) instr 2;
}

-- what ACB computes behind the sum. V: the sum less the addend is no such number. The index is at most the limit, or with a
-- negative addend at least the limit
abbrev pub behind_sum : Size → List Micro
behind_sum size =
    unary 4 ops.SignExtend size (Temp 2)
    ∷ unary 5 ops.SignExtend size (Temp 1)
    ∷ Compute 4 ops.Sub Quad (Temp 4) (Temp 5)
    ∷ unary 5 ops.SignExtend size (Temp 4)
    ∷ Compute 3 ops.Equal Quad (Temp 4) (Temp 5)
    ∷ inverted 3
    ∷ Compute 4 ops.Less size (Temp 0) (Temp 2)
    ∷ Compute 5 ops.Less size (Temp 2) (Temp 0)
    ∷ Compute 1 ops.Less size (Temp 1) (Const 0)
    ∷ Compute 4 ops.SelectNonzero Byte (Temp 1) (Temp 5)
    ∷ Compute 0 ops.Xor Byte (Temp 4) (Const 1)
    ∷ []

-- ACB: the limit is in 0, the addend in 1 and the index in 2
abbrev pub add_compare_plan : Width → Instr → Plan
add_compare_plan width instr = record {
  slots = read (size_of width) 0 2 ∷ read (size_of width) 1 2 ∷ modified (size_of width) 2 ∷ displaced Word ∷ [];
  before = Compute 2 ops.Add (size_of width) (Temp 2) (Temp 1) ∷ [];
  target = targets.Replacement (operand instr 2) (size_of width);
  behind = behind_sum (size_of width);
  exit = branch_exit instr 3;
}

-- ---- branches on a bit
-- the longword of a register goes into 1, an address into 2
abbrev pub field : Size → Slot
field size = slot accesses.Field size 1 2

-- the bit of that number in 0 of the value in 1
abbrev pub bit_tested : Size → List Micro
bit_tested size = Compute 0 ops.ShiftRight size (Temp 1) (Temp 0) ∷ Compute 0 ops.And Byte (Temp 0) (Const 1) ∷ []

-- sets a bit, or clears it
abbrev pub storing : Bool → MicroOp
storing true = ops.Or
storing false = ops.AndNot

-- the value in 1 with another bit
abbrev pub with_bit_into : (to : ℕ) → Size → (value : Bool) → List Micro
with_bit_into to size value = Compute 3 ops.ShiftLeft size (Const 1) (Temp 0) ∷ Compute to (storing value) size (Temp 1) (Temp 3) ∷ []

-- what is left in a register
abbrev pub bit_stored : BitStore → List Micro
bit_stored stores.Nothing = []
bit_stored (stores.Plain value) = with_bit_into 2 Long value
bit_stored (stores.Interlocked value) = with_bit_into 2 Long value

abbrev pub locked_op : Bool → LockedOp
locked_op true = locked.SetBit
locked_op false = locked.ClearBit

-- the byte at the address in 2 goes into 1, and the bit in it is left so
abbrev pub byte_program : BitStore → List Micro
byte_program stores.Nothing = Probe 2 1 false ∷ Read 1 2 1 ∷ []
byte_program (stores.Plain value) = Probe 2 1 true ∷ Read 1 2 1 ∷ with_bit_into 3 Byte value ++ Write 2 1 3 ∷ []
byte_program (stores.Interlocked value) = Probe 2 1 true ∷ Locked 1 2 (locked_op value) 0 ∷ []

-- a position above 31 is no bit of a register. In memory it is a signed number of bits from the base
abbrev pub before_bit : Operand → BitStore → List Micro
before_bit (operands.Register n) store =
    Compute 4 ops.LessUnsigned Long (Const 31) (Temp 0)
    ∷ Refuse 4
    ∷ bit_stored store ++ bit_tested Long
before_bit base store =
    Compute 4 ops.ShiftSigned Long (Temp 0) (Const 3)
    ∷ Compute 2 ops.Add Long (Temp 2) (Temp 4)
    ∷ Compute 0 ops.And Byte (Temp 0) (Const 7)
    ∷ byte_program store ++ bit_tested Byte

abbrev pub bit_target : Operand → BitStore → Target
bit_target base stores.Nothing = targets.Nowhere
bit_target base (stores.Plain value) = register_target base Long
bit_target base (stores.Interlocked value) = register_target base Long

-- a literal position: of a register a bit that it has, and in memory one that is not negative
abbrev pub is_plain : (base : Operand) → (position : ℕ) → Bool
is_plain (operands.Register n) position = nat_lt position 32
is_plain base position = nat_lt position 0x8000_0000

abbrev pub literal_position : (position base : Operand) → Option ℕ
literal_position (operands.Value number) base = let position = number % 2 ^ 32 in if is_plain base position then Some position else None
literal_position position base = None

-- the bit that a literal numbers, of the value in 1
abbrev pub masked : Size → (mask : ℕ) → Micro
masked size mask = Compute 0 ops.And size (Temp 1) (Const mask)

-- the value in 1 with that bit set, or cleared
abbrev pub with_mask_into : (to : ℕ) → Size → (value : Bool) → (mask : ℕ) → Micro
with_mask_into to size value mask = Compute to (storing value) size (Temp 1) (Const mask)

abbrev pub mask_stored : BitStore → (mask : ℕ) → List Micro
mask_stored stores.Nothing mask = []
mask_stored (stores.Plain value) mask = with_mask_into 2 Long value mask ∷ []
mask_stored (stores.Interlocked value) mask = with_mask_into 2 Long value mask ∷ []

-- the number of the bit in the byte is in 0
abbrev pub mask_program : BitStore → (mask : ℕ) → List Micro
mask_program stores.Nothing mask = Probe 2 1 false ∷ Read 1 2 1 ∷ []
mask_program (stores.Plain value) mask = Probe 2 1 true ∷ Read 1 2 1 ∷ with_mask_into 3 Byte value mask ∷ Write 2 1 3 ∷ []
mask_program (stores.Interlocked value) mask = Probe 2 1 true ∷ Locked 1 2 (locked_op value) 0 ∷ []

-- behind the first byte, others are passed over
abbrev pub byte_of : (first : Bool) → (position : ℕ) → List Micro
byte_of true position = []
byte_of false position = Compute 2 ops.Add Long (Temp 2) (Const (position / 8)) ∷ unary 0 ops.Move Byte (Const (position % 8)) ∷ []

abbrev pub before_literal : Operand → (first : Bool) → (position : ℕ) → BitStore → List Micro
before_literal (operands.Register n) first position store = mask_stored store (2 ^ (position % 32)) ++ masked Long (2 ^ (position % 32)) ∷ []
before_literal base first position store = byte_of first position ++ (mask_program store (2 ^ (position % 8)) ++ masked Byte (2 ^ (position % 8)) ∷ [])

-- by the literal, where there is one
abbrev pub before_bit_at : Option ℕ → Operand → BitStore → List Micro
before_bit_at None base store = before_bit base store
before_bit_at (Some position) base store = before_literal base (nat_lt position 8) position store

abbrev pub bit_plan_with : (before : List Micro) → Exit → Operand → BitStore → Instr → Plan
bit_plan_with before exit base store instr = record {
  slots = read Long 0 1 ∷ field Byte ∷ displaced Byte ∷ [];
  before = before;
  target = bit_target base store;
  behind = [];
  exit = exit;
}

abbrev pub bit_plan_for : Option ℕ → Operand → BitBranch → Instr → Plan
bit_plan_for position base branch instr = bit_plan_with (before_bit_at position base branch.store) (test_exit branch.state instr 2) base branch.store instr

-- BBS, BBC, BBSS, BBCS, BBSC, BBCC, BBSSI, BBCCI
abbrev pub bit_branch_plan : BitBranch → Instr → Plan
bit_branch_plan branch instr = bit_plan_for (literal_position (operand instr 0) (operand instr 1)) (operand instr 1) branch instr

-- ---- jumps
-- an operand whose address the code fixes is a fixed target
abbrev pub jump_exit : Operand → Exit
jump_exit (operands.Place (bases.Fixed address false) None) = Fixed address
jump_exit _ = Computed 0

-- JMP
abbrev pub jump_plan : Instr → Plan
jump_plan instr = record {
  slots = addressed Byte 0 ∷ [];
  before = [];
  target = targets.Nowhere;
  behind = [];
  exit = jump_exit (operand instr 0);
}

-- JSB
abbrev pub jump_to_subroutine_plan : Instr → Plan
jump_to_subroutine_plan instr = record {
  slots = addressed Byte 0 ∷ [];
  before = unary 2 ops.Move Long (Const instr.after) ∷ [];
  target = targets.Stack;
  behind = [];
  exit = jump_exit (operand instr 0);
}

-- ---- with carry
-- ADWC: C is bit 32 of the sum
abbrev pub add_with_carry_plan : Instr → Plan
add_with_carry_plan instr = record {
  slots = read Long 1 2 ∷ modified Long 0 ∷ [];
  before = Compute 2 ops.Add Long (Temp 0) (Temp 1) ∷ Compute 2 ops.Add Long (Temp 2) (Flag 3) ∷ [];
  target = targets.Replacement (operand instr 1) Long;
  behind =
      unary 4 ops.SignExtend Long (Temp 0)
      ∷ unary 5 ops.SignExtend Long (Temp 1)
      ∷ Compute 4 ops.Add Quad (Temp 4) (Temp 5)
      ∷ Compute 4 ops.Add Quad (Temp 4) (Flag 3)
      ∷ unary 5 ops.SignExtend Long (Temp 2)
      ∷ Compute 3 ops.Equal Quad (Temp 4) (Temp 5)
      ∷ inverted 3
      ∷ Compute 4 ops.Add Quad (Temp 0) (Temp 1)
      ∷ Compute 4 ops.Add Quad (Temp 4) (Flag 3)
      ∷ Compute 4 ops.ShiftRight Quad (Temp 4) (Const 32)
      ∷ [];
  exit = Next;
}

-- SBWC: C says that the first is below the second with C
abbrev pub subtract_with_carry_plan : Instr → Plan
subtract_with_carry_plan instr = record {
  slots = read Long 1 2 ∷ modified Long 0 ∷ [];
  before = Compute 2 ops.Sub Long (Temp 0) (Temp 1) ∷ Compute 2 ops.Sub Long (Temp 2) (Flag 3) ∷ [];
  target = targets.Replacement (operand instr 1) Long;
  behind =
      unary 4 ops.SignExtend Long (Temp 0)
      ∷ unary 5 ops.SignExtend Long (Temp 1)
      ∷ Compute 4 ops.Sub Quad (Temp 4) (Temp 5)
      ∷ Compute 4 ops.Sub Quad (Temp 4) (Flag 3)
      ∷ unary 5 ops.SignExtend Long (Temp 2)
      ∷ Compute 3 ops.Equal Quad (Temp 4) (Temp 5)
      ∷ inverted 3
      ∷ Compute 4 ops.Add Quad (Temp 1) (Flag 3)
      ∷ Compute 4 ops.LessUnsigned Quad (Temp 0) (Temp 4)
      ∷ [];
  exit = Next;
}

-- ---- shifts
-- V of ASHL into 3: the source as a signed quadword, shifted by at most 32, is not its low longword, and the count is not
-- negative
abbrev pub overflow_of_shift : List Micro
overflow_of_shift =
    unary 4 ops.Move Byte (Temp 0)
    ∷ Compute 5 ops.LessUnsigned Byte (Const 32) (Temp 0)
    ∷ Compute 4 ops.SelectNonzero Byte (Temp 5) (Const 32)
    ∷ unary 5 ops.SignExtend Long (Temp 1)
    ∷ Compute 4 ops.ShiftLeft Quad (Temp 5) (Temp 4)
    ∷ unary 5 ops.SignExtend Long (Temp 4)
    ∷ Compute 3 ops.Equal Quad (Temp 4) (Temp 5)
    ∷ inverted 3
    ∷ Compute 4 ops.Less Byte (Temp 0) (Const 0)
    ∷ Compute 3 ops.AndNot Byte (Temp 3) (Temp 4)
    ∷ []

-- to the left by the unsigned count, or with a negative count to the right by what it lacks to 256
abbrev pub shifted : List Micro
shifted =
    Compute 2 ops.ShiftLeft Long (Temp 1) (Temp 0)
    ∷ Compute 4 ops.Sub Byte (Const 0) (Temp 0)
    ∷ Compute 5 ops.ShiftSigned Long (Temp 1) (Temp 4)
    ∷ Compute 4 ops.Less Byte (Temp 0) (Const 0)
    ∷ Compute 2 ops.SelectNonzero Long (Temp 4) (Temp 5)
    ∷ []

-- By a literal count, which says the way: to the left the source as a signed quadword is shifted by at most 32 into 0, and
-- its low longword is the result
abbrev pub shifted_by : (left : Bool) → (count : ℕ) → List Micro
shifted_by true count =
    unary 0 ops.SignExtend Long (Temp 1)
    ∷ Compute 0 ops.ShiftLeft Quad (Temp 0) (Const (min count 32))
    ∷ unary 2 ops.Move Long (Temp 0)
    ∷ []
shifted_by false count = Compute 2 ops.ShiftSigned Long (Temp 1) (Const (256 - count)) ∷ []

-- V to the left: the shifted quadword is not the result with its sign. V of a shift to the right is 0
abbrev pub overflow_of_shift_by : (left : Bool) → (count : ℕ) → List Micro
overflow_of_shift_by true count =
    unary 5 ops.SignExtend Long (Temp 2)
    ∷ Compute 3 ops.Equal Quad (Temp 0) (Temp 5)
    ∷ Compute 3 ops.Xor Quad (Temp 3) (Const 1)
    ∷ []
overflow_of_shift_by false count = unary 3 ops.Move Byte (Const 0) ∷ []

-- a byte is the count, and the longword that it is taken of goes into 1
abbrev pub shift_plan_with : (before behind : List Micro) → Instr → Plan
shift_plan_with before behind instr = record {
  slots = read Byte 0 1 ∷ read Long 1 2 ∷ written Long ∷ [];
  before = before;
  target = targets.Result (operand instr 2) Long;
  behind = behind;
  exit = Next;
}

-- ASHL by a count that is computed
abbrev pub arithmetic_shift_plan : Instr → Plan
arithmetic_shift_plan instr = shift_plan_with shifted overflow_of_shift instr

-- the operands behind the count
abbrev pub later_slots : List Slot
later_slots = read Long 1 2 ∷ written Long ∷ []

-- ASHL by a literal count
abbrev pub literal_shift_plan : (left : Bool) → (count : ℕ) → Instr → Plan
literal_shift_plan left count instr = record {
  slots = later_slots;
  before = shifted_by left count;
  target = targets.Result (operand instr 2) Long;
  behind = overflow_of_shift_by left count;
  exit = Next;
}

-- a literal is not evaluated: it is in the operations
abbrev pub literal_shift_program : (left : Bool) → (count : ℕ) → Instr → List Micro
literal_shift_program left count instr =
    let plan = literal_shift_plan left count instr in
    let later = specifiers_from 1 plan.slots instr in
    operands_program later no_steps ++ rest_program (sources_of operations.ArithmeticShift) plan (steps_behind_all later no_steps)

-- where the count is a literal
abbrev pub literal_shift_by : (count : Operand) → Instr → Option (List Micro)
literal_shift_by (operands.Value literal) instr = Some (literal_shift_program (nat_lt (literal % 256) 128) (literal % 256) instr)
literal_shift_by count instr = None

-- by the count modulo 32, and what it lacks to 32 to the right
abbrev pub rotated : List Micro
rotated =
    Compute 4 ops.And Byte (Temp 0) (Const 31)
    ∷ Compute 2 ops.ShiftLeft Long (Temp 1) (Temp 4)
    ∷ Compute 4 ops.Sub Byte (Const 32) (Temp 4)
    ∷ Compute 5 ops.ShiftRight Long (Temp 1) (Temp 4)
    ∷ Compute 2 ops.Or Quad (Temp 2) (Temp 5)
    ∷ []

-- the same by a literal count below 32
abbrev pub rotated_by : (count : ℕ) → List Micro
rotated_by count =
    Compute 2 ops.ShiftLeft Long (Temp 1) (Const count)
    ∷ Compute 5 ops.ShiftRight Long (Temp 1) (Const (32 - count))
    ∷ Compute 2 ops.Or Quad (Temp 2) (Temp 5)
    ∷ []

abbrev pub before_rotation : Operand → List Micro
before_rotation (operands.Value count) = rotated_by (count % 32)
before_rotation count = rotated

-- ROTL
abbrev pub rotate_plan : Instr → Plan
rotate_plan instr = shift_plan_with (before_rotation (operand instr 0)) [] instr

-- ---- EMUL: four operands are too many for the temporaries, so the factors are multiplied before the others are evaluated
abbrev pub factors : List Slot
factors = read Long 0 1 ∷ read Long 1 2 ∷ []

-- the addend goes into 1
abbrev pub others : List Slot
others = read Long 1 2 ∷ written Quad ∷ []

-- the product as a quadword goes into 0
abbrev pub product_program : List Micro
product_program = unary 4 ops.SignExtend Long (Temp 0) ∷ unary 5 ops.SignExtend Long (Temp 1) ∷ Compute 0 ops.Mul Quad (Temp 4) (Temp 5) ∷ []

abbrev pub extended_multiply_plan : Instr → Plan
extended_multiply_plan instr = record {
  slots = others;
  before = unary 4 ops.SignExtend Long (Temp 1) ∷ Compute 2 ops.Add Quad (Temp 0) (Temp 4) ∷ [];
  target = targets.Result (operand instr 3) Quad;
  behind = [];
  exit = Next;
}

abbrev pub extended_multiply_program : Instr → List Micro
extended_multiply_program instr =
    let plan = extended_multiply_plan instr in
    let first = specifiers_from 0 factors instr in
    let steps = steps_behind_all first no_steps in
    let later = specifiers_from 2 plan.slots instr in
    operands_program first no_steps ++ (product_program ++ (operands_program later steps ++ rest_program (sources_of operations.ExtendedMultiply) plan (steps_behind_all later steps)))

-- ---- the processor status
-- the low byte of the status into 2, from DV down to C
abbrev pub doubled : Micro
doubled = Compute 2 ops.Add Byte (Temp 2) (Temp 2)

abbrev pub flag_added : (flag : ℕ) → Micro
flag_added flag = Compute 2 ops.Add Byte (Temp 2) (Flag flag)

abbrev pub with_flag : (flag : ℕ) → List Micro
with_flag flag = doubled ∷ flag_added flag ∷ []

abbrev pub status_program : List Micro
status_program =
    unary 2 ops.Move Byte (Flag 7)
    ∷ with_flag 6 ++ with_flag 5 ++ with_flag 4 ++ with_flag 0 ++ with_flag 1 ++ with_flag 2 ++ with_flag 3

-- MOVPSL: user mode is added
abbrev pub move_psl_plan : Instr → Plan
move_psl_plan instr = record {
  slots = written Long ∷ [];
  before = status_program ++ Compute 2 ops.Add Long (Temp 2) (Const user_mode) ∷ [];
  target = targets.Result (operand instr 0) Long;
  behind = [];
  exit = Next;
}

-- BISPSW, BICPSW: a mask above 255 is refused; the new PSW goes into 2
abbrev pub change_psw_plan : MicroOp → Plan
change_psw_plan op = record {
  slots = read Word 0 1 ∷ [];
  before =
      Compute 1 ops.LessUnsigned Word (Const 255) (Temp 0)
      ∷ Refuse 1
      ∷ status_program ++ Compute 2 op Byte (Temp 2) (Temp 0) ∷ [];
  target = targets.Nowhere;
  behind = [];
  exit = Next;
}

-- CHMK
abbrev pub change_mode_plan : Plan
change_mode_plan = record {
  slots = read Word 0 1 ∷ [];
  before = [];
  target = targets.Nowhere;
  behind = [];
  exit = Service 0;
}

-- ---- the table
abbrev pub divides : BinaryOperation → Bool
divides binary.Divide = true
divides operation = false

abbrev pub binary_row : BinaryOperation → Plan → Option Plan
binary_row binary.Divide plan = None
binary_row operation plan = Some plan

-- moves and pushes
unfoldable pub move_row : Operation → Instr → Option Plan
move_row (operations.Move size) instr = Some (move_plan size instr)
move_row (operations.MoveZeroExtended from to) instr = Some (move_zero_extended_plan from to instr)
move_row (operations.Clear size) instr = Some (clear_plan size instr)
move_row (operations.MoveComplemented width) instr = Some (move_complemented_plan width instr)
move_row (operations.MoveNegated width) instr = Some (move_negated_plan width instr)
move_row (operations.Convert from to) instr = Some (convert_plan from to instr)
move_row (operations.MoveAddress size) instr = Some (move_address_plan size instr)
move_row (operations.PushAddress size) instr = Some (push_address_plan size)
move_row operations.PushLong instr = Some push_long_plan
move_row operations.MovePsl instr = Some (move_psl_plan instr)
move_row operations.BitSetPsw instr = Some (change_psw_plan ops.Or)
move_row operations.BitClearPsw instr = Some (change_psw_plan ops.AndNot)
move_row _ instr = None

-- arithmetic, logical operations and tests
unfoldable pub arithmetic_row : Operation → Instr → Option Plan
arithmetic_row (operations.Compare width) instr = Some (compare_plan width)
arithmetic_row (operations.Test width) instr = Some (test_plan width)
arithmetic_row (operations.BitTest width) instr = Some (bit_test_plan width)
arithmetic_row (operations.TwoOperands operation width) instr = binary_row operation (two_operands_plan operation width instr)
arithmetic_row (operations.ThreeOperands operation width) instr = binary_row operation (three_operands_plan operation width instr)
arithmetic_row (operations.Increment width) instr = Some (by_one_plan ops.Add width instr)
arithmetic_row (operations.Decrement width) instr = Some (by_one_plan ops.Sub width instr)
arithmetic_row operations.AddWithCarry instr = Some (add_with_carry_plan instr)
arithmetic_row operations.SubtractWithCarry instr = Some (subtract_with_carry_plan instr)
arithmetic_row operations.AddAlignedWord instr = Some (add_aligned_plan instr)
arithmetic_row operations.ArithmeticShift instr = Some (arithmetic_shift_plan instr)
arithmetic_row operations.Rotate instr = Some (rotate_plan instr)
arithmetic_row _ instr = None

-- branches, loops, jumps and services
unfoldable pub control_row : Operation → Instr → Option Plan
control_row (operations.BranchOnLowBit state) instr = Some (low_bit_plan state instr)
control_row (operations.BranchOnBit branch) instr = Some (bit_branch_plan branch instr)
control_row (operations.SubtractOneBranch or_equal) instr = Some (subtract_one_plan or_equal instr)
control_row (operations.AddOneBranch or_equal) instr = Some (add_one_plan or_equal instr)
control_row (operations.AddCompareBranch width) instr = Some (add_compare_plan width instr)
control_row operations.Jump instr = Some (jump_plan instr)
control_row operations.JumpToSubroutine instr = Some (jump_to_subroutine_plan instr)
control_row operations.ChangeMode instr = Some change_mode_plan
control_row _ instr = None

-- the row of an operation, where it has one
abbrev pub row_of : Operation → Instr → Option Plan
row_of operation instr = option_or (move_row operation instr) (option_or (arithmetic_row operation instr) (control_row operation instr))

-- its program
abbrev pub program_where : CodeSources → Instr → Option Plan → Option (List Micro)
program_where codes instr None = None
program_where codes instr (Some plan) = Some (program_of codes plan instr)

-- the program of an operation that has no row, or of one whose row is not for a literal count
unfoldable pub own_program_of : Operation → Instr → Option (List Micro)
own_program_of operations.ExtendedMultiply instr = Some (extended_multiply_program instr)
own_program_of operations.ArithmeticShift instr = literal_shift_by (operand instr 0) instr
own_program_of _ instr = None

-- the program of an operation that evaluates operands
abbrev pub row_program_of : Operation → Instr → Option (List Micro)
row_program_of operation instr = option_or (own_program_of operation instr) (program_where (sources_of operation) instr (row_of operation instr))

-- the program of an operation that is translated
abbrev pub program_of_operation : Operation → Instr → Option (List Micro)
program_of_operation operation instr = option_or (plain_program_of operation instr) (row_program_of operation instr)

-- ---- of an instruction
-- the instruction has a program: none that is always interpreted, and no reserved one
unfoldable pub has_program : Instr → Bool
has_program instr = is_translated (class_at instr.opcode)

-- the program of an instruction
unfoldable pub program_for : Instr → Option (List Micro)
program_for instr = option_and_then (λ operation. program_of_operation operation instr) (operation_at instr.opcode)
