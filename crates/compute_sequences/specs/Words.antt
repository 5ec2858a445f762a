-- The words of computations.
-- Alpha Architecture Reference Manual, 4.4 "Integer Arithmetic Instructions", 4.5 "Logical and Shift Instructions", 4.6
-- "Byte Manipulation Instructions": all of them work on quadwords, and ZAPNOT keeps the low bytes.
use Rattle.std.specs.Prelude.{ℕ, pos, ◌+◌, ◌-◌, ◌%◌, ◌^◌, ◌==◌, ◌&&◌, ◌||◌, Bool, true, false, List, [], ◌∷◌, ◌++◌, length, nat_lt, if◌then◌else◌}
use Rattle.vax_form.specs.declared.instr.Size.{Size}
use Rattle.vax_form.specs.declared.instr.Size.TheVariants.{Byte, Word, Long, Quad}
use Rattle.alpha_encode.specs.declared.instr.BranchOp.TheVariants.{Beq}
use Rattle.alpha_encode.specs.declared.instr.MemoryOp.TheVariants.{Lda}
use Rattle.alpha_encode.specs.declared.instr.OperateOp.{OperateOp}
use Rattle.alpha_encode.specs.declared.instr.OperateOp.TheVariants as row
use Rattle.alpha_encode.specs.declared.instr.Second.TheVariants.{Register, Literal}
use Rattle.alpha_encode.specs.declared.instr.AlphaInstr.{AlphaInstr}
use Rattle.alpha_encode.specs.declared.instr.AlphaInstr.TheVariants.{Memory, Branch, Operate}
use Rattle.alpha_encode.specs.Halves.{low_half}
use Rattle.alpha_encode.specs.Registers.{STATUS, ADDRESS, ZERO}
use Rattle.micro_ops.specs.declared.program.Arg.{Arg}
use Rattle.micro_ops.specs.declared.program.Arg.TheVariants as arguments
use Rattle.micro_ops.specs.declared.program.MicroOp.{MicroOp}
use Rattle.micro_ops.specs.declared.program.MicroOp.TheVariants.{Move, Add, Sub, Mul, And, Or, Xor, AndNot, ShiftLeft, ShiftRight, ShiftSigned, SignExtend, ZeroExtend, Equal, Less, LessUnsigned, SelectNonzero, MulHigh}
use Rattle.micro_ops.specs.Uses.{is_quad}
use Rattle.micro_ops.specs.Values.{bits_of, limit_of}
use Rattle.compute_sequences.specs.Registers.{register_at, is_loaded}
use Rattle.compute_sequences.specs.Constants.{low_long, load_short, constant_code}

-- ---- parts
-- the bytes of a size
abbrev pub mask_of : Size → ℕ
mask_of Byte = 0x01
mask_of Word = 0x03
mask_of Long = 0x0f
mask_of Quad = 0xff

-- the low bytes, zero-extended
abbrev pub narrow : Size → (from to : ℕ) → AlphaInstr
narrow size from to = Operate row.Zapnot from (Literal (mask_of size)) to

-- the low bytes as the highest ones, so that quadwords compare as they do
abbrev pub raise : Size → (from to : ℕ) → AlphaInstr
raise size from to = Operate row.Sll from (Literal (64 - bits_of size)) to

-- the low bytes with their sign
abbrev pub extend : Size → (from to : ℕ) → List AlphaInstr
extend Byte from to = raise Byte from to ∷ Operate row.Sra to (Literal 56) to ∷ []
extend Word from to = raise Word from to ∷ Operate row.Sra to (Literal 48) to ∷ []
extend Long from to = Operate row.Addl from (Literal 0) to ∷ []
extend Quad from to = narrow Quad from to ∷ []

-- ---- arguments
abbrev pub load_code : Size → Arg → (to : ℕ) → List AlphaInstr
load_code size (arguments.Temp temp) to = []
load_code size (arguments.Register number) to = if is_quad size then narrow Long number to ∷ [] else []
load_code size (arguments.Flag flag) to =
    if nat_lt flag 4 then [] else Operate row.Srl STATUS (Literal flag) to ∷ Operate row.And to (Literal 1) to ∷ []
load_code size (arguments.Const value) to = constant_code value size to

-- the register of the first argument
abbrev pub first_register : Size → Arg → ℕ
first_register size a = if is_loaded size a then ADDRESS else register_at a

-- the register that the second argument is loaded into, where R27 has the first
abbrev pub second_target : Size → Arg → (to : ℕ) → ℕ
second_target size a to = if is_loaded size a then to else ADDRESS

abbrev pub second_register : Size → (a b : Arg) (to : ℕ) → ℕ
second_register size a b to = if is_loaded size b then second_target size a to else register_at b

-- Of R27 and `to`, the one that does not hold the second argument, and the other.
abbrev pub free_of : (y to : ℕ) → ℕ
free_of y to = if y == ADDRESS then to else ADDRESS

abbrev pub other_of : (y to : ℕ) → ℕ
other_of y to = if y == ADDRESS then ADDRESS else to

-- ---- forms
-- one instruction whose low bytes are those of the result
abbrev pub lowered : OperateOp → Size → (x y to : ℕ) → List AlphaInstr
lowered op Quad x y to = Operate op x (Register y) to ∷ []
lowered op size x y to = Operate op x (Register y) to ∷ narrow size to to ∷ []

-- 1 where the comparison holds, else 0
abbrev pub compared : OperateOp → Size → (x y free other to : ℕ) → List AlphaInstr
compared op Quad x y free other to = Operate op x (Register y) to ∷ []
compared op size x y free other to = raise size x free ∷ raise size y other ∷ Operate op free (Register other) to ∷ []

-- `other` says whether the count is below the bound
abbrev pub counted : Size → (bound y other : ℕ) → List AlphaInstr
counted Quad bound y other = Operate row.Cmpult y (Literal bound) other ∷ []
counted size bound y other = narrow size y other ∷ Operate row.Cmpult other (Literal bound) other ∷ []

-- a shift counts modulo 64, so nothing is left where the count is not below the size's bits
abbrev pub within_size : Size → (y free other to : ℕ) → List AlphaInstr
within_size size y free other to =
    counted size (bits_of size) y other ++ (Operate row.Cmoveq other (Literal 0) free ∷ narrow size free to ∷ [])

abbrev pub left_shift : Size → (x y free other to : ℕ) → List AlphaInstr
left_shift size x y free other to = Operate row.Sll x (Register y) free ∷ within_size size y free other to

abbrev pub right_shift : Size → (x y free other to : ℕ) → List AlphaInstr
right_shift Quad x y free other to = Operate row.Srl x (Register y) free ∷ within_size Quad y free other to
right_shift size x y free other to =
    narrow size x free ∷ Operate row.Srl free (Register y) free ∷ within_size size y free other to

-- the shift modulo 64
abbrev pub signed_start : Size → (x y free : ℕ) → List AlphaInstr
signed_start Quad x y free = Operate row.Sra x (Register y) free ∷ []
signed_start size x y free = extend size x free ++ (Operate row.Sra free (Register y) free ∷ [])

-- and by 63 bits more where the count is not below 64, which leaves the sign
abbrev pub signed_rest : Size → (free other to : ℕ) → List AlphaInstr
signed_rest size free other to =
    Operate row.Subq other (Literal 1) other ∷ Operate row.Sra free (Register other) free ∷ narrow size free to ∷ []

abbrev pub signed_shift : Size → (x y free other to : ℕ) → List AlphaInstr
signed_shift size x y free other to = signed_start size x y free ++ (counted size 64 y other ++ signed_rest size free other to)

-- the product of two numbers of a size below a quadword is a quadword
abbrev pub high_product : Size → (x y free other to : ℕ) → List AlphaInstr
high_product Quad x y free other to = Operate row.Umulh x (Register y) to ∷ []
high_product size x y free other to =
    narrow size x free
    ∷ narrow size y other
    ∷ Operate row.Mulq free (Register other) to
    ∷ Operate row.Srl to (Literal (bits_of size)) to
    ∷ []

-- ---- operations
-- with one argument: it is zero-extended, or has its sign
abbrev pub unary_code : MicroOp → Size → (x to : ℕ) → List AlphaInstr
unary_code SignExtend size x to = extend size x to
unary_code op size x to = narrow size x to ∷ []

-- with two; the others have no words here
abbrev pub binary_code : MicroOp → Size → (x y to : ℕ) → List AlphaInstr
binary_code Add size x y to = lowered row.Addq size x y to
binary_code Sub size x y to = lowered row.Subq size x y to
binary_code Mul size x y to = lowered row.Mulq size x y to
binary_code And size x y to = lowered row.And size x y to
binary_code Or size x y to = lowered row.Bis size x y to
binary_code Xor size x y to = lowered row.Xor size x y to
binary_code AndNot size x y to = lowered row.Bic size x y to
binary_code ShiftLeft size x y to = left_shift size x y (free_of y to) (other_of y to) to
binary_code ShiftRight size x y to = right_shift size x y (free_of y to) (other_of y to) to
binary_code ShiftSigned size x y to = signed_shift size x y (free_of y to) (other_of y to) to
binary_code Equal size x y to = compared row.Cmpeq size x y (free_of y to) (other_of y to) to
binary_code Less size x y to = compared row.Cmplt size x y (free_of y to) (other_of y to) to
binary_code LessUnsigned size x y to = compared row.Cmpult size x y (free_of y to) (other_of y to) to
binary_code MulHigh size x y to = high_product size x y (free_of y to) (other_of y to) to
binary_code op size x y to = []

-- `to` becomes the second argument where `x` is not 0; its words, if it has some, are passed over where it is
abbrev pub chosen : Size → (x : ℕ) → Arg → (to : ℕ) → List AlphaInstr
chosen size x b to =
    if is_loaded size b
    then Branch Beq x (pos (length (load_code size b to))) ∷ load_code size b to
    else Operate row.Cmovne x (Register (register_at b)) to ∷ []

abbrev pub select_code : Size → (x : ℕ) → Arg → (to : ℕ) → List AlphaInstr
select_code Quad x b to = chosen Quad x b to
select_code size x b to = narrow size x ADDRESS ∷ (chosen size ADDRESS b to ++ (narrow size to to ∷ []))

-- ---- constants in instructions
-- a constant with that property
abbrev pub is_constant : (has : ℕ → Bool) → Arg → Bool
is_constant has (arguments.Const value) = has value
is_constant has arg = false

abbrev pub constant_of : Arg → ℕ
constant_of (arguments.Const value) = value
constant_of arg = 0

-- a number that one LDA leaves as it is, at a size that it fits
abbrev pub is_short : Size → (value : ℕ) → Bool
is_short size value = nat_lt value (limit_of size) && nat_lt value (2 ^ 15)

-- a signed displacement of 16 bits has its low bytes
abbrev pub is_displacement : Size → (value : ℕ) → Bool
is_displacement Byte value = true
is_displacement Word value = true
is_displacement Long value = nat_lt ((value + 2 ^ 15) % 2 ^ 32) (2 ^ 16)
is_displacement Quad value = nat_lt ((value + 2 ^ 15) % 2 ^ 64) (2 ^ 16)

-- The constants that are the literal of an operation's instruction, as its second argument: of a shift the counts that
-- leave something, and of a comparison with signs the numbers that are positive at each size.
abbrev pub takes_literal : MicroOp → Size → (value : ℕ) → Bool
takes_literal Sub size value = nat_lt value 256
takes_literal Mul size value = nat_lt value 256
takes_literal And size value = nat_lt value 256
takes_literal Or size value = nat_lt value 256
takes_literal Xor size value = nat_lt value 256
takes_literal AndNot size value = nat_lt value 256
takes_literal ShiftLeft size value = nat_lt value (bits_of size)
takes_literal ShiftRight size value = nat_lt value (bits_of size)
takes_literal ShiftSigned size value = nat_lt value (bits_of size)
takes_literal Equal size value = nat_lt value 256
takes_literal Less size value = nat_lt value 128
takes_literal LessUnsigned size value = nat_lt value 256
takes_literal op size value = false

-- one instruction, of whose result the low bytes are kept
abbrev pub lowered_one : Size → AlphaInstr → (to : ℕ) → List AlphaInstr
lowered_one Quad instr to = instr ∷ []
lowered_one size instr to = instr ∷ narrow size to to ∷ []

-- an operation on the zero-extended number
abbrev pub unsigned_by : OperateOp → Size → (x literal to : ℕ) → List AlphaInstr
unsigned_by op Quad x literal to = Operate op x (Literal literal) to ∷ []
unsigned_by op size x literal to = narrow size x to ∷ Operate op to (Literal literal) to ∷ []

-- and on the number with its sign
abbrev pub signed_by : OperateOp → Size → (x literal to : ℕ) → List AlphaInstr
signed_by op Quad x literal to = Operate op x (Literal literal) to ∷ []
signed_by op size x literal to = extend size x to ++ (Operate op to (Literal literal) to ∷ [])

abbrev pub by_literal : OperateOp → Size → (x literal to : ℕ) → List AlphaInstr
by_literal op size x literal to = lowered_one size (Operate op x (Literal literal) to) to

-- a displacement, with its sign, is added
abbrev pub add_short : (to x value : ℕ) → AlphaInstr
add_short to x value = Memory Lda to x (low_half (low_long value))

-- the sum with a constant that is one
abbrev pub displaced : Size → (x value to : ℕ) → List AlphaInstr
displaced size x value to = lowered_one size (add_short to x value) to

abbrev pub literal_form : MicroOp → Size → (x literal to : ℕ) → List AlphaInstr
literal_form Sub size x literal to = by_literal row.Subq size x literal to
literal_form Mul size x literal to = by_literal row.Mulq size x literal to
literal_form And size x literal to = Operate row.And x (Literal literal) to ∷ []
literal_form Or size x literal to = by_literal row.Bis size x literal to
literal_form Xor size x literal to = by_literal row.Xor size x literal to
literal_form AndNot size x literal to = by_literal row.Bic size x literal to
literal_form ShiftLeft size x literal to = by_literal row.Sll size x literal to
literal_form ShiftRight size x literal to = unsigned_by row.Srl size x literal to
literal_form ShiftSigned size x literal to = signed_by row.Sra size x literal to ++ (narrow size to to ∷ [])
literal_form Equal size x literal to = unsigned_by row.Cmpeq size x literal to
literal_form Less size x literal to = signed_by row.Cmplt size x literal to
literal_form LessUnsigned size x literal to = unsigned_by row.Cmpult size x literal to
literal_form op size x literal to = []

-- the low byte or the low word is cleared
abbrev pub is_clearing : MicroOp → Bool
is_clearing AndNot = true
is_clearing op = false

abbrev pub is_low_bytes : (value : ℕ) → Bool
is_low_bytes value = value == 0xff || value == 0xffff

abbrev pub kept_mask : Size → (value : ℕ) → ℕ
kept_mask size value = mask_of size - (if value == 0xff then 0x01 else 0x03)

abbrev pub low_cleared : Size → (x value to : ℕ) → List AlphaInstr
low_cleared size x value to = Operate row.Zapnot x (Literal (kept_mask size value)) to ∷ []

-- 0 as the first argument is R31
abbrev pub takes_zero : MicroOp → Bool
takes_zero Sub = true
takes_zero Less = true
takes_zero LessUnsigned = true
takes_zero op = false

abbrev pub is_zero : (value : ℕ) → Bool
is_zero value = value == 0

abbrev pub zero_form : MicroOp → Size → (y to : ℕ) → List AlphaInstr
zero_form Less size y to = extend size y to ++ (Operate row.Cmplt ZERO (Register to) to ∷ [])
zero_form LessUnsigned size y to = narrow size y to ∷ Operate row.Cmpult ZERO (Register to) to ∷ []
zero_form op size y to = lowered_one size (Operate row.Subq ZERO (Register y) to) to

-- ---- the whole
-- behind the words of the first argument, where the second has a register or words of its own
abbrev pub behind_first : MicroOp → Size → (a b : Arg) (to : ℕ) → List AlphaInstr
behind_first Move size a b to = unary_code Move size (first_register size a) to
behind_first SignExtend size a b to = unary_code SignExtend size (first_register size a) to
behind_first ZeroExtend size a b to = unary_code ZeroExtend size (first_register size a) to
behind_first SelectNonzero size a b to = select_code size (first_register size a) b to
behind_first op size a b to =
    load_code size b (second_target size a to) ++ binary_code op size (first_register size a) (second_register size a b to) to

abbrev pub register_code : MicroOp → Size → (a b : Arg) (to : ℕ) → List AlphaInstr
register_code op size a b to = load_code size a ADDRESS ++ behind_first op size a b to

-- a constant that is moved
abbrev pub is_moved : MicroOp → Bool
is_moved Move = true
is_moved ZeroExtend = true
is_moved op = false

abbrev pub is_sum : MicroOp → Bool
is_sum Add = true
is_sum op = false

abbrev pub compute_code : MicroOp → Size → (a b : Arg) (to : ℕ) → List AlphaInstr
compute_code op size a b to =
    if is_moved op && is_constant (is_short size) a
    then load_short to (low_long (constant_of a)) ∷ []
    else if is_sum op && is_constant (is_displacement size) b
    then load_code size a ADDRESS ++ displaced size (first_register size a) (constant_of b) to
    else if is_clearing op && is_constant is_low_bytes b
    then load_code size a ADDRESS ++ low_cleared size (first_register size a) (constant_of b) to
    else if is_constant (takes_literal op size) b
    then load_code size a ADDRESS ++ literal_form op size (first_register size a) (constant_of b) to
    else if takes_zero op && is_constant is_zero a
    then load_code size b ADDRESS ++ zero_form op size (first_register size b) to
    else register_code op size a b to
