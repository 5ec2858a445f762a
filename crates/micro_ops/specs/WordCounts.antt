-- How many words a program is counted as. Reads and writes leave room for both kinds of Alpha: with and without byte
-- and word instructions.
use Rattle.std.specs.Prelude.{ℕ, ◌+◌, ◌==◌, ◌&&◌, ◌||◌, Bool, true, false, nat_lt, List, [], ◌∷◌, if◌then◌else◌}
use Rattle.vax_form.specs.declared.instr.Size.{Size}
use Rattle.vax_form.specs.declared.instr.Size.TheVariants.{Byte, Word, Long, Quad}
use Rattle.micro_ops.specs.declared.codes.CodeSources.{CodeSources}
use Rattle.micro_ops.specs.declared.program.Arg.{Arg}
use Rattle.micro_ops.specs.declared.program.Arg.TheVariants.{Temp, Register, Flag, Const}
use Rattle.micro_ops.specs.declared.program.Micro.{Micro}
use Rattle.micro_ops.specs.declared.program.Micro.TheVariants.{Compute, Probe, Refuse, Read, Write, Locked, Commit, Codes, SetPsw, Leave}
use Rattle.micro_ops.specs.declared.program.MicroOp.{MicroOp}
use Rattle.micro_ops.specs.declared.program.MicroOp.TheVariants.{Move, Add, Sub, Mul, And, Or, Xor, AndNot, ShiftLeft, ShiftRight, ShiftSigned, SignExtend, ZeroExtend, Equal, Less, LessUnsigned, SelectNonzero, MulHigh}
use Rattle.micro_ops.specs.Uses.{is_unary}
use Rattle.micro_ops.specs.LeftOut.{is_left_out}

-- a row of numbers by size: byte and word, longword, quadword
abbrev pub by_size : Size → (short long quad : ℕ) → ℕ
by_size Byte short long quad = short
by_size Word short long quad = short
by_size Long short long quad = long
by_size Quad short long quad = quad

abbrev pub operation_words : MicroOp → Size → ℕ
operation_words Move size = 1
operation_words ZeroExtend size = 1
operation_words SignExtend size = by_size size 2 1 1
operation_words Add size = by_size size 2 2 1
operation_words Sub size = by_size size 2 2 1
operation_words Mul size = by_size size 2 2 1
operation_words And size = by_size size 2 2 1
operation_words Or size = by_size size 2 2 1
operation_words Xor size = by_size size 2 2 1
operation_words AndNot size = by_size size 2 2 1
operation_words ShiftLeft size = by_size size 5 5 4
operation_words ShiftRight size = by_size size 6 6 4
operation_words ShiftSigned size = by_size size 8 7 5
operation_words Equal size = by_size size 3 3 1
operation_words Less size = by_size size 3 3 1
operation_words LessUnsigned size = by_size size 3 3 1
operation_words SelectNonzero size = by_size size 3 3 1
operation_words MulHigh size = by_size size 4 4 1

abbrev pub argument_words : Arg → Size → ℕ
argument_words (Temp temp) size = 0
argument_words (Register number) size = by_size size 0 0 1
argument_words (Flag flag) size = if nat_lt flag 4 then 0 else 2
argument_words (Const value) size = by_size size 1 2 5

-- the operations of which a literal as the second argument counts nothing, since it stands in the instruction
abbrev pub has_literal : MicroOp → Bool
has_literal Sub = true
has_literal Mul = true
has_literal Xor = true
has_literal Equal = true
has_literal Less = true
has_literal LessUnsigned = true
has_literal op = false

-- a literal has 8 bits, and in a comparison with signs the highest is a sign
abbrev pub is_literal : Arg → Bool
is_literal (Const value) = nat_lt value 128
is_literal arg = false

-- a second argument that is not there counts nothing, either
abbrev pub second_words : MicroOp → Arg → Size → ℕ
second_words op b size = if is_unary op || (has_literal op && is_literal b) then 0 else argument_words b size

-- a row of numbers by the count of bytes: 1, 2, and 4 or 8
abbrev pub by_count : (count one two more : ℕ) → ℕ
by_count count one two more = if count == 1 then one else if count == 2 then two else more

abbrev pub words_of : Micro → ℕ
words_of (Compute to op size a b) = operation_words op size + argument_words a size + second_words op b size
words_of (Probe place count write) = 2
words_of (Refuse when) = 2
words_of (Read to place count) = by_count count 4 12 12
words_of (Write place count from) = by_count count 8 20 24
words_of (Locked to place kind from) = 12
words_of (Commit register from) = 1
words_of (Codes n z v c) = 0
words_of (SetPsw from) = 1
words_of (Leave exit) = 0

-- what is left out counts nothing
abbrev pub words_with : CodeSources → Micro → (behind : List Micro) → ℕ
words_with codes operation behind = if is_left_out codes operation behind then 0 else words_of operation

abbrev pub program_words : CodeSources → List Micro → ℕ
program_words codes [] = 0
program_words codes (operation ∷ program) = words_with codes operation program + program_words codes program
