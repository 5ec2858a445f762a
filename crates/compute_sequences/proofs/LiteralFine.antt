-- The words of computations whose instruction has a constant in itself write what they may, have encodings, and are as many as counted.
use Rattle.std.proofs.Common.{◌≡◌, ℕ, ◌<◌, ◌≤◌, ◌+◌, refl, arith, [], ◌∷◌, length, Bool, true, lit<, lit≤}
use Rattle.std.proofs.lemmas.Bool.{ltb-true}
use Rattle.vax_form.specs.declared.instr.Size.{Size}
use Rattle.vax_form.specs.declared.instr.Size.TheVariants.{Byte, Word, Long, Quad}
use Rattle.alpha_encode.specs.Words.{IsFirst}
use Rattle.alpha_encode.specs.declared.instr.AlphaInstr.{AlphaInstr}
use Rattle.alpha_encode.specs.declared.instr.AlphaInstr.TheVariants.{Operate}
use Rattle.alpha_encode.specs.declared.instr.OperateOp.{OperateOp}
use Rattle.alpha_encode.specs.declared.instr.OperateOp.TheVariants as row
use Rattle.alpha_encode.specs.declared.instr.Second.TheVariants.{Register, Literal}
use Rattle.micro_ops.specs.declared.program.MicroOp.{MicroOp}
use Rattle.micro_ops.specs.declared.program.MicroOp.TheVariants.{Move, Sub, Mul, And, Or, Xor, AndNot, ShiftLeft, ShiftRight, ShiftSigned, Equal, Less, LessUnsigned}
use Rattle.micro_ops.specs.WordCounts.{operation_words, has_literal, by_size}
use Rattle.compute_sequences.specs.Constants.{low_long, load_short}
use Rattle.compute_sequences.specs.Words.{narrow, extend, takes_literal, takes_zero, lowered_one, unsigned_by, signed_by, by_literal, add_short, kept_mask, low_cleared, displaced, literal_form, zero_form}
use Rattle.compute_sequences.proofs.Straight.{Fine, Each, each_append}
use Rattle.compute_sequences.proofs.FineLaws.{fine_two, fine_by, fine_narrow, extend_fine}
use Rattle.compute_sequences.proofs.ConstantLaws.{half_fits}
use Rattle.compute_sequences.proofs.LiteralNumbers.{bits_few, mask_fits}

few_below : (n : ℕ) → n < 128 → n < 256
few_below n lt = omega (arith, lt)

module _ (may : ℕ → Bool) (x to : ℕ) (x_fits : x < 32) (to_fits : to < 32) (may_to : may to ≡ true) where
  lowered_one_fine : (size : Size) (instr : AlphaInstr) → Fine may instr → Each (Fine may) (lowered_one size instr to)
  lowered_one_fine Quad instr fine = (fine, tt)
  lowered_one_fine size instr fine = (fine, (fine_narrow may size to to to_fits to_fits may_to, tt))

  by_literal_fine : (op : OperateOp) (size : Size) (literal : ℕ) → IsFirst op x → literal < 256 → Each (Fine may) (by_literal op size x literal to)
  by_literal_fine op size literal first lt = lowered_one_fine size (Operate op x (Literal literal) to) (fine_by may op x literal to first lt to_fits may_to)

  unsigned_by_fine : (op : OperateOp) (size : Size) (literal : ℕ) → IsFirst op x → IsFirst op to → literal < 256 → Each (Fine may) (unsigned_by op size x literal to)
  unsigned_by_fine op Quad literal first again lt = (fine_by may op x literal to first lt to_fits may_to, tt)
  unsigned_by_fine op size literal first again lt = (fine_narrow may size x to x_fits to_fits may_to, (fine_by may op to literal to again lt to_fits may_to, tt))

  signed_by_fine : (op : OperateOp) (size : Size) (literal : ℕ) → IsFirst op x → IsFirst op to → literal < 256 → Each (Fine may) (signed_by op size x literal to)
  signed_by_fine op Quad literal first again lt = (fine_by may op x literal to first lt to_fits may_to, tt)
  signed_by_fine op size literal first again lt =
      each_append (Fine may) (extend size x to) (Operate op to (Literal literal) to ∷ []) (extend_fine may size x to x_fits to_fits may_to)
      (fine_by may op to literal to again lt to_fits may_to, tt)

  pub literal_fine : (op : MicroOp) (size : Size) (literal : ℕ) → takes_literal op size literal ≡ true → Each (Fine may) (literal_form op size x literal to)
  literal_fine Sub size literal e = by_literal_fine row.Subq size literal x_fits (ltb-true literal 256 e)
  literal_fine Mul size literal e = by_literal_fine row.Mulq size literal x_fits (ltb-true literal 256 e)
  literal_fine And size literal e = (fine_by may row.And x literal to x_fits (ltb-true literal 256 e) to_fits may_to, tt)
  literal_fine Or size literal e = by_literal_fine row.Bis size literal x_fits (ltb-true literal 256 e)
  literal_fine Xor size literal e = by_literal_fine row.Xor size literal x_fits (ltb-true literal 256 e)
  literal_fine AndNot size literal e = by_literal_fine row.Bic size literal x_fits (ltb-true literal 256 e)
  literal_fine ShiftLeft size literal e = by_literal_fine row.Sll size literal x_fits (bits_few size literal e)
  literal_fine ShiftRight size literal e = unsigned_by_fine row.Srl size literal x_fits to_fits (bits_few size literal e)
  literal_fine ShiftSigned size literal e =
      each_append (Fine may) (signed_by row.Sra size x literal to) (narrow size to to ∷ []) (signed_by_fine row.Sra size literal x_fits to_fits (bits_few size literal e))
      (fine_narrow may size to to to_fits to_fits may_to, tt)
  literal_fine Equal size literal e = unsigned_by_fine row.Cmpeq size literal x_fits to_fits (ltb-true literal 256 e)
  literal_fine Less size literal e = signed_by_fine row.Cmplt size literal x_fits to_fits (few_below literal (ltb-true literal 128 e))
  literal_fine LessUnsigned size literal e = unsigned_by_fine row.Cmpult size literal x_fits to_fits (ltb-true literal 256 e)
  literal_fine op size literal e = tt

  pub displaced_fine : (size : Size) (value : ℕ) → Each (Fine may) (displaced size x value to)
  displaced_fine size value = lowered_one_fine size (add_short to x value) (record { local = refl; target = may_to; encodable = (to_fits, x_fits, half_fits (low_long value)) })

  pub cleared_fine : (size : Size) (value : ℕ) → Each (Fine may) (low_cleared size x value to)
  cleared_fine size value = (fine_by may row.Zapnot x (kept_mask size value) to x_fits (mask_fits size value) to_fits may_to, tt)

  pub short_fine : (value : ℕ) → Each (Fine may) (load_short to (low_long value) ∷ [])
  short_fine value = (record { local = refl; target = may_to; encodable = (to_fits, lit< tt, half_fits (low_long value)) }, tt)

  pub zero_fine : (op : MicroOp) (size : Size) → Each (Fine may) (zero_form op size x to)
  zero_fine Less size =
      each_append (Fine may) (extend size x to) (Operate row.Cmplt 31 (Register to) to ∷ []) (extend_fine may size x to x_fits to_fits may_to)
      (fine_two may row.Cmplt 31 to to (lit< tt) to_fits to_fits may_to, tt)
  zero_fine LessUnsigned size = (fine_narrow may size x to x_fits to_fits may_to, (fine_two may row.Cmpult 31 to to (lit< tt) to_fits to_fits may_to, tt))
  zero_fine op size = lowered_one_fine size (Operate row.Subq 31 (Register x) to) (fine_two may row.Subq 31 x to (lit< tt) x_fits to_fits may_to)

-- ---- how many
pub literal_length : (op : MicroOp) (size : Size) (x literal to : ℕ) → length (literal_form op size x literal to) ≤ operation_words op size + by_size size 1 2 5
literal_length Move Byte x literal to = lit≤ tt
literal_length Move Word x literal to = lit≤ tt
literal_length Move Long x literal to = lit≤ tt
literal_length Move Quad x literal to = lit≤ tt
literal_length op Byte x literal to = lit≤ tt
literal_length op Word x literal to = lit≤ tt
literal_length op Long x literal to = lit≤ tt
literal_length op Quad x literal to = lit≤ tt

-- a literal that counts nothing has no words of its own
pub literal_few : (op : MicroOp) (size : Size) (x literal to : ℕ) → has_literal op ≡ true → length (literal_form op size x literal to) ≤ operation_words op size
literal_few Sub Byte x literal to e = lit≤ tt
literal_few Sub Word x literal to e = lit≤ tt
literal_few Sub Long x literal to e = lit≤ tt
literal_few Sub Quad x literal to e = lit≤ tt
literal_few Mul Byte x literal to e = lit≤ tt
literal_few Mul Word x literal to e = lit≤ tt
literal_few Mul Long x literal to e = lit≤ tt
literal_few Mul Quad x literal to e = lit≤ tt
literal_few Xor Byte x literal to e = lit≤ tt
literal_few Xor Word x literal to e = lit≤ tt
literal_few Xor Long x literal to e = lit≤ tt
literal_few Xor Quad x literal to e = lit≤ tt
literal_few Equal Byte x literal to e = lit≤ tt
literal_few Equal Word x literal to e = lit≤ tt
literal_few Equal Long x literal to e = lit≤ tt
literal_few Equal Quad x literal to e = lit≤ tt
literal_few Less Byte x literal to e = lit≤ tt
literal_few Less Word x literal to e = lit≤ tt
literal_few Less Long x literal to e = lit≤ tt
literal_few Less Quad x literal to e = lit≤ tt
literal_few LessUnsigned Byte x literal to e = lit≤ tt
literal_few LessUnsigned Word x literal to e = lit≤ tt
literal_few LessUnsigned Long x literal to e = lit≤ tt
literal_few LessUnsigned Quad x literal to e = lit≤ tt
literal_few op size x literal to e = cc

pub displaced_length : (size : Size) (x value to : ℕ) → length (displaced size x value to) ≤ by_size size 2 2 1 + by_size size 1 2 5
displaced_length Byte x value to = lit≤ tt
displaced_length Word x value to = lit≤ tt
displaced_length Long x value to = lit≤ tt
displaced_length Quad x value to = lit≤ tt

pub zero_length : (op : MicroOp) → takes_zero op ≡ true → (size : Size) (y to : ℕ) → length (zero_form op size y to) ≤ operation_words op size + by_size size 1 2 5
zero_length Sub e Byte y to = lit≤ tt
zero_length Sub e Word y to = lit≤ tt
zero_length Sub e Long y to = lit≤ tt
zero_length Sub e Quad y to = lit≤ tt
zero_length Less e Byte y to = lit≤ tt
zero_length Less e Word y to = lit≤ tt
zero_length Less e Long y to = lit≤ tt
zero_length Less e Quad y to = lit≤ tt
zero_length LessUnsigned e Byte y to = lit≤ tt
zero_length LessUnsigned e Word y to = lit≤ tt
zero_length LessUnsigned e Long y to = lit≤ tt
zero_length LessUnsigned e Quad y to = lit≤ tt
zero_length op e size y to = cc
