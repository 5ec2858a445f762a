-- The words of each form run one after another, write what they may, have encodings, and are as many as counted.
use Rattle.std.proofs.Common.{◌≡◌, ℕ, ◌<◌, ◌≤◌, refl, arith, [], ◌∷◌, ◌++◌, length, Bool, true, false, eqb, lit<, lit≤}
use Rattle.std.specs.Prelude.{◌||◌, nat_lt, if◌then◌else◌}
use Rattle.alpha_meaning.proofs.Registers.{eqb_self}
use Rattle.vax_form.specs.declared.instr.Size.{Size}
use Rattle.vax_form.specs.declared.instr.Size.TheVariants.{Byte, Word, Long, Quad}
use Rattle.alpha_encode.specs.Words.{IsFirst}
use Rattle.alpha_encode.specs.declared.instr.OperateOp.{OperateOp}
use Rattle.alpha_encode.specs.declared.instr.OperateOp.TheVariants as row
use Rattle.alpha_encode.specs.declared.instr.Second.TheVariants.{Register, Literal}
use Rattle.alpha_encode.specs.declared.instr.AlphaInstr.TheVariants.{Operate}
use Rattle.micro_ops.specs.declared.program.Arg.{Arg}
use Rattle.micro_ops.specs.declared.program.Arg.TheVariants as arguments
use Rattle.micro_ops.specs.declared.program.MicroOp.{MicroOp}
use Rattle.micro_ops.specs.declared.program.MicroOp.TheVariants.{Move, Add, Sub, Mul, And, Or, Xor, AndNot, ShiftLeft, ShiftRight, ShiftSigned, SignExtend, ZeroExtend, Equal, Less, LessUnsigned, MulHigh}
use Rattle.micro_ops.specs.Values.{bits_of}
use Rattle.micro_ops.specs.WordCounts.{operation_words, argument_words}
use Rattle.compute_sequences.specs.Registers.{IsTarget, IsArgument, may_change}
use Rattle.compute_sequences.specs.Words.{narrow, raise, extend, load_code, free_of, other_of, lowered, compared, counted, within_size, left_shift, right_shift, signed_start, signed_rest, signed_shift, high_product, unary_code, binary_code}
use Rattle.compute_sequences.proofs.Straight.{Fine, Each, each_append}
use Rattle.compute_sequences.proofs.ConstantLaws.{constant_fine, constant_length}

module _ (may : ℕ → Bool) where
  pub fine_two : (op : OperateOp) (ra rb rc : ℕ) → IsFirst op ra → rb < 32 → rc < 32 → may rc ≡ true → Fine may (Operate op ra (Register rb) rc)
  fine_two op ra rb rc a b c m = record { local = refl; target = m; encodable = (a, b, c) }

  pub fine_by : (op : OperateOp) (ra literal rc : ℕ) → IsFirst op ra → literal < 256 → rc < 32 → may rc ≡ true → Fine may (Operate op ra (Literal literal) rc)
  fine_by op ra literal rc a b c m = record { local = refl; target = m; encodable = (a, b, c) }

  pub fine_narrow : (size : Size) (from to : ℕ) → from < 32 → to < 32 → may to ≡ true → Fine may (narrow size from to)
  fine_narrow Byte from to a c m = fine_by row.Zapnot from 0x01 to a (lit< tt) c m
  fine_narrow Word from to a c m = fine_by row.Zapnot from 0x03 to a (lit< tt) c m
  fine_narrow Long from to a c m = fine_by row.Zapnot from 0x0f to a (lit< tt) c m
  fine_narrow Quad from to a c m = fine_by row.Zapnot from 0xff to a (lit< tt) c m

  fine_raise : (size : Size) (from to : ℕ) → from < 32 → to < 32 → may to ≡ true → Fine may (raise size from to)
  fine_raise Byte from to a c m = fine_by row.Sll from 56 to a (lit< tt) c m
  fine_raise Word from to a c m = fine_by row.Sll from 48 to a (lit< tt) c m
  fine_raise Long from to a c m = fine_by row.Sll from 32 to a (lit< tt) c m
  fine_raise Quad from to a c m = fine_by row.Sll from 0 to a (lit< tt) c m

  pub extend_fine : (size : Size) (from to : ℕ) → from < 32 → to < 32 → may to ≡ true → Each (Fine may) (extend size from to)
  extend_fine Byte from to a c m = (fine_raise Byte from to a c m, (fine_by row.Sra to 56 to c (lit< tt) c m, tt))
  extend_fine Word from to a c m = (fine_raise Word from to a c m, (fine_by row.Sra to 48 to c (lit< tt) c m, tt))
  extend_fine Long from to a c m = (fine_by row.Addl from 0 to a (lit< tt) c m, tt)
  extend_fine Quad from to a c m = (fine_narrow Quad from to a c m, tt)

  pub unary_fine : (op : MicroOp) (size : Size) (from to : ℕ) → from < 32 → to < 32 → may to ≡ true → Each (Fine may) (unary_code op size from to)
  unary_fine SignExtend size from to a c m = extend_fine size from to a c m
  unary_fine op size from to a c m = (fine_narrow size from to a c m, tt)

  pub load_fine : (size : Size) (arg : Arg) (to : ℕ) → IsArgument arg → to < 32 → may to ≡ true → Each (Fine may) (load_code size arg to)
  load_fine size (arguments.Temp temp) to is c m = tt
  load_fine Quad (arguments.Register number) to is c m = (fine_narrow Long number to (omega (arith, is)) c m, tt)
  load_fine size (arguments.Register number) to is c m = tt
  load_fine size (arguments.Flag flag) to is c m = by (nat_lt flag 4)
    where
      by : (b : Bool) → Each (Fine may) (if b then [] else Operate row.Srl 20 (Literal flag) to ∷ Operate row.And to (Literal 1) to ∷ [])
      by true = tt
      by false = (fine_by row.Srl 20 flag to (lit< tt) (omega (arith, is)) c m, (fine_by row.And to 1 to c (lit< tt) c m, tt))
  load_fine size (arguments.Const value) to is c m = constant_fine may to c m value size

  module _ (x y free other to : ℕ) (x_fits : x < 32) (y_fits : y < 32) (free_fits : free < 32) (other_fits : other < 32) (to_fits : to < 32) (may_free : may free ≡ true) (may_other : may other ≡ true) (may_to : may to ≡ true) where
    lowered_fine : (op : OperateOp) → IsFirst op x → (size : Size) → Each (Fine may) (lowered op size x y to)
    lowered_fine op first Quad = (fine_two op x y to first y_fits to_fits may_to, tt)
    lowered_fine op first size = (fine_two op x y to first y_fits to_fits may_to, (fine_narrow size to to to_fits to_fits may_to, tt))

    compared_fine : (op : OperateOp) → IsFirst op x → IsFirst op free → (size : Size) → Each (Fine may) (compared op size x y free other to)
    compared_fine op first raised Quad = (fine_two op x y to first y_fits to_fits may_to, tt)
    compared_fine op first raised size = (fine_raise size x free x_fits free_fits may_free, (fine_raise size y other y_fits other_fits may_other, (fine_two op free other to raised other_fits to_fits may_to, tt)))

    counted_fine : (size : Size) (bound : ℕ) → bound < 256 → Each (Fine may) (counted size bound y other)
    counted_fine Quad bound lt = (fine_by row.Cmpult y bound other y_fits lt other_fits may_other, tt)
    counted_fine size bound lt = (fine_narrow size y other y_fits other_fits may_other, (fine_by row.Cmpult other bound other other_fits lt other_fits may_other, tt))

    bits_fit : (size : Size) → bits_of size < 256
    bits_fit Byte = lit< tt
    bits_fit Word = lit< tt
    bits_fit Long = lit< tt
    bits_fit Quad = lit< tt

    within_fine : (size : Size) → Each (Fine may) (within_size size y free other to)
    within_fine size =
        each_append (Fine may) (counted size (bits_of size) y other) (Operate row.Cmoveq other (Literal 0) free ∷ narrow size free to ∷ []) (counted_fine size (bits_of size) (bits_fit size))
        (fine_by row.Cmoveq other 0 free other_fits (lit< tt) free_fits may_free, (fine_narrow size free to free_fits to_fits may_to, tt))

    left_fine : (size : Size) → Each (Fine may) (left_shift size x y free other to)
    left_fine size = (fine_two row.Sll x y free x_fits y_fits free_fits may_free, within_fine size)

    right_fine : (size : Size) → Each (Fine may) (right_shift size x y free other to)
    right_fine Quad = (fine_two row.Srl x y free x_fits y_fits free_fits may_free, within_fine Quad)
    right_fine size = (fine_narrow size x free x_fits free_fits may_free, (fine_two row.Srl free y free free_fits y_fits free_fits may_free, within_fine size))

    signed_start_fine : (size : Size) → Each (Fine may) (signed_start size x y free)
    signed_start_fine Quad = (fine_two row.Sra x y free x_fits y_fits free_fits may_free, tt)
    signed_start_fine size =
        each_append (Fine may) (extend size x free) (Operate row.Sra free (Register y) free ∷ []) (extend_fine size x free x_fits free_fits may_free)
        (fine_two row.Sra free y free free_fits y_fits free_fits may_free, tt)

    signed_fine : (size : Size) → Each (Fine may) (signed_shift size x y free other to)
    signed_fine size =
        each_append (Fine may) (signed_start size x y free) (counted size 64 y other ++ signed_rest size free other to) (signed_start_fine size)
        (each_append (Fine may) (counted size 64 y other) (signed_rest size free other to) (counted_fine size 64 (lit< tt)) (
          fine_by row.Subq other 1 other other_fits (lit< tt) other_fits may_other,
          (fine_two row.Sra free other free free_fits other_fits free_fits may_free, (fine_narrow size free to free_fits to_fits may_to, tt)),
        ))

    high_fine : (size : Size) → Each (Fine may) (high_product size x y free other to)
    high_fine Quad = (fine_two row.Umulh x y to x_fits y_fits to_fits may_to, tt)
    high_fine size = (
      fine_narrow size x free x_fits free_fits may_free,
      (
        fine_narrow size y other y_fits other_fits may_other,
        (fine_two row.Mulq free other to free_fits other_fits to_fits may_to, (fine_by row.Srl to (bits_of size) to to_fits (bits_fit size) to_fits may_to, tt)),
      ),
    )

-- ---- R27 and the register of the result
module _ (to y : ℕ) (is : IsTarget to) where
  abbrev free : ℕ
  free = free_of y to

  abbrev other : ℕ
  other = other_of y to

  pub scratch_may : may_change to 27 ≡ true
  scratch_may = by (eqb 27 to)
    where
      by : (b : Bool) → (b || true) ≡ true
      by true = refl
      by false = refl

  to_may : may_change to to ≡ true
  to_may = rw (eqb_self to) refl

  to_fits : to < 32
  to_fits = let high = is.high in omega arith

  free_may : may_change to free ≡ true
  free_may = by (eqb y 27)
    where
      by : (b : Bool) → may_change to (if b then to else 27) ≡ true
      by true = to_may
      by false = scratch_may

  other_may : may_change to other ≡ true
  other_may = by (eqb y 27)
    where
      by : (b : Bool) → may_change to (if b then 27 else to) ≡ true
      by true = scratch_may
      by false = to_may

  free_fits : free < 32
  free_fits = by (eqb y 27)
    where
      by : (b : Bool) → (if b then to else 27) < 32
      by true = to_fits
      by false = lit< tt

  other_fits : other < 32
  other_fits = by (eqb y 27)
    where
      by : (b : Bool) → (if b then 27 else to) < 32
      by true = lit< tt
      by false = to_fits

  pub binary_fine : (op : MicroOp) (size : Size) (x : ℕ) → x < 32 → y < 32 → Each (Fine (may_change to)) (binary_code op size x y to)
  binary_fine Add size x a b = lowered_fine (may_change to) x y free other to a b free_fits other_fits to_fits free_may other_may to_may row.Addq a size
  binary_fine Sub size x a b = lowered_fine (may_change to) x y free other to a b free_fits other_fits to_fits free_may other_may to_may row.Subq a size
  binary_fine Mul size x a b = lowered_fine (may_change to) x y free other to a b free_fits other_fits to_fits free_may other_may to_may row.Mulq a size
  binary_fine And size x a b = lowered_fine (may_change to) x y free other to a b free_fits other_fits to_fits free_may other_may to_may row.And a size
  binary_fine Or size x a b = lowered_fine (may_change to) x y free other to a b free_fits other_fits to_fits free_may other_may to_may row.Bis a size
  binary_fine Xor size x a b = lowered_fine (may_change to) x y free other to a b free_fits other_fits to_fits free_may other_may to_may row.Xor a size
  binary_fine AndNot size x a b = lowered_fine (may_change to) x y free other to a b free_fits other_fits to_fits free_may other_may to_may row.Bic a size
  binary_fine ShiftLeft size x a b = left_fine (may_change to) x y free other to a b free_fits other_fits to_fits free_may other_may to_may size
  binary_fine ShiftRight size x a b = right_fine (may_change to) x y free other to a b free_fits other_fits to_fits free_may other_may to_may size
  binary_fine ShiftSigned size x a b = signed_fine (may_change to) x y free other to a b free_fits other_fits to_fits free_may other_may to_may size
  binary_fine Equal size x a b = compared_fine (may_change to) x y free other to a b free_fits other_fits to_fits free_may other_may to_may row.Cmpeq a free_fits size
  binary_fine Less size x a b = compared_fine (may_change to) x y free other to a b free_fits other_fits to_fits free_may other_may to_may row.Cmplt a free_fits size
  binary_fine LessUnsigned size x a b = compared_fine (may_change to) x y free other to a b free_fits other_fits to_fits free_may other_may to_may row.Cmpult a free_fits size
  binary_fine MulHigh size x a b = high_fine (may_change to) x y free other to a b free_fits other_fits to_fits free_may other_may to_may size
  binary_fine op size x a b = tt

-- ---- how many
pub load_length : (size : Size) (arg : Arg) (to : ℕ) → length (load_code size arg to) ≤ argument_words arg size
load_length size (arguments.Temp temp) to = lit≤ tt
load_length Byte (arguments.Register number) to = lit≤ tt
load_length Word (arguments.Register number) to = lit≤ tt
load_length Long (arguments.Register number) to = lit≤ tt
load_length Quad (arguments.Register number) to = lit≤ tt
load_length size (arguments.Flag flag) to = by (nat_lt flag 4)
  where
    by : (b : Bool) → length (if b then [] else Operate row.Srl 20 (Literal flag) to ∷ Operate row.And to (Literal 1) to ∷ []) ≤ (if b then 0 else 2)
    by true = lit≤ tt
    by false = lit≤ tt
load_length size (arguments.Const value) to = constant_length value size to

pub unary_length : (op : MicroOp) (size : Size) (x to : ℕ) → length (unary_code op size x to) ≤ operation_words op size
unary_length SignExtend Byte x to = lit≤ tt
unary_length SignExtend Word x to = lit≤ tt
unary_length SignExtend Long x to = lit≤ tt
unary_length SignExtend Quad x to = lit≤ tt
unary_length Move size x to = lit≤ tt
unary_length ZeroExtend size x to = lit≤ tt
unary_length op Byte x to = lit≤ tt
unary_length op Word x to = lit≤ tt
unary_length op Long x to = lit≤ tt
unary_length op Quad x to = lit≤ tt

pub binary_length : (op : MicroOp) (size : Size) (x y to : ℕ) → length (binary_code op size x y to) ≤ operation_words op size
binary_length Move Byte x y to = lit≤ tt
binary_length Move Word x y to = lit≤ tt
binary_length Move Long x y to = lit≤ tt
binary_length Move Quad x y to = lit≤ tt
binary_length op Byte x y to = lit≤ tt
binary_length op Word x y to = lit≤ tt
binary_length op Long x y to = lit≤ tt
binary_length op Quad x y to = lit≤ tt
