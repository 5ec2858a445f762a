-- What is in `to` behind the words of a computation whose instruction has a constant in itself.
use Rattle.std.proofs.Common.{◌≡◌, ℕ, ◌*◌, ◌/◌, ◌%◌, ◌^◌, ◌<◌, refl, sym, ap, ◌∙◌, subst, arith, [], ◌∷◌, ◌++◌, true, false, eqb, lit<}
use Rattle.std.specs.Prelude.{◌==◌, nat_lt, int_lt, if◌then◌else◌}
use Rattle.std.proofs.lemmas.Bool.{ltb-true}
use Rattle.std.proofs.Math.Nat.{mod-eq_of_lt}
use Rattle.vax_form.specs.declared.instr.Size.{Size}
use Rattle.vax_form.specs.declared.instr.Size.TheVariants.{Byte, Word, Long, Quad}
use Rattle.vt_words.specs.Quad.{right, sign_extended}
use Rattle.alpha_encode.specs.declared.instr.AlphaInstr.{AlphaInstr}
use Rattle.alpha_encode.specs.declared.instr.AlphaInstr.TheVariants.{Operate}
use Rattle.alpha_encode.specs.declared.instr.OperateOp.{OperateOp}
use Rattle.alpha_encode.specs.declared.instr.OperateOp.TheVariants as row
use Rattle.alpha_encode.specs.declared.instr.Second.TheVariants.{Register, Literal}
use Rattle.alpha_meaning.specs.State.{Regs}
use Rattle.alpha_meaning.specs.Result.{one_if, result_of, arithmetic_right, signed as signed_quad}
use Rattle.alpha_meaning.proofs.Registers.{eqb_self}
use Rattle.micro_ops.specs.declared.program.MicroOp.{MicroOp}
use Rattle.micro_ops.specs.declared.program.MicroOp.TheVariants.{Add, Sub, Mul, And, Or, Xor, AndNot, ShiftLeft, ShiftRight, ShiftSigned, Equal, Less, LessUnsigned}
use Rattle.micro_ops.specs.Values.{bits_of, limit_of, low, signed_right, sign_of, value_from}
use Rattle.micro_ops.proofs.Sizes.{low_below}
use Rattle.compute_sequences.specs.Constants.{low_long, load_short}
use Rattle.compute_sequences.specs.Words.{narrow, extend, is_displacement, takes_literal, takes_zero, lowered_one, unsigned_by, signed_by, by_literal, add_short, kept_mask, is_low_bytes, low_cleared, displaced, literal_form, zero_form}
use Rattle.compute_sequences.proofs.Straight.{after, afters, afters_append, afters_only, same}
use Rattle.compute_sequences.proofs.Numbers.{zapped, low_quad, subtracts, multiplies, ands, ors, xors, clears}
use Rattle.compute_sequences.proofs.Shifting.{within, left_low, signs_quad, signed_low_by}
use Rattle.compute_sequences.proofs.Shifting.{extended_is as extended_by_sign}
use Rattle.compute_sequences.proofs.FormLaws.{extended_is}
use Rattle.compute_sequences.proofs.FineLaws.{extend_fine}
use Rattle.compute_sequences.proofs.Halves.{short_exact}
use Rattle.compute_sequences.proofs.LiteralNumbers.{bits_few, low_literal, and_literal, signed_below, zero_below, low_zero, displaced_low, low_cleared_is}

quad_below : (n : ℕ) → n % 2 ^ 64 < 2 ^ 64
quad_below n = omega arith

shift_few : (size : Size) (n : ℕ) → nat_lt n (bits_of size) ≡ true → nat_lt (low size n) (bits_of size) ≡ true
shift_few size n e = ap (λ m. nat_lt m (bits_of size)) (low_literal size n (bits_few size n e)) ∙ e

module _ (f : Regs) (x to : ℕ) (real : eqb to 31 ≡ false) where
  -- ---- forms
  pub lowered_one_is : (instr : AlphaInstr) (size : Size) (wanted : ℕ) → low size (after instr f to) ≡ wanted → after instr f to < 2 ^ 64 → afters (lowered_one size instr to) f to ≡ wanted
  lowered_one_is instr Byte wanted e lt = rw (real, eqb_self to) (zapped Byte (after instr f to) (after instr f to) ∙ e)
  lowered_one_is instr Word wanted e lt = rw (real, eqb_self to) (zapped Word (after instr f to) (after instr f to) ∙ e)
  lowered_one_is instr Long wanted e lt = rw (real, eqb_self to) (zapped Long (after instr f to) (after instr f to) ∙ e)
  lowered_one_is instr Quad wanted e lt = sym (low_quad (after instr f to) lt) ∙ e

  -- what one operation leaves in `to`
  operated : (op : OperateOp) (literal : ℕ) → after (Operate op x (Literal literal) to) f to ≡ result_of op (f x) literal (f to)
  operated op literal = rw (real, eqb_self to) refl

  by_literal_is : (op : OperateOp) (size : Size) (literal wanted : ℕ) → low size (result_of op (f x) literal (f to)) ≡ wanted → result_of op (f x) literal (f to) < 2 ^ 64
      → afters (by_literal op size x literal to) f to ≡ wanted
  by_literal_is op size literal wanted e lt =
      lowered_one_is (Operate op x (Literal literal) to) size wanted (ap (low size) (operated op literal) ∙ e) (subst (λ n. n < 2 ^ 64) (sym (operated op literal)) lt)

  unsigned_by_is : (op : OperateOp) (size : Size) (literal wanted : ℕ) → ((h : ℕ) → result_of op (low size (f x)) literal h ≡ wanted) → f x < 2 ^ 64
      → afters (unsigned_by op size x literal to) f to ≡ wanted
  unsigned_by_is op Byte literal wanted e lt = rw (real, eqb_self to) (ap (λ n. result_of op n literal n) (zapped Byte (f x) (f to)) ∙ e (low Byte (f x)))
  unsigned_by_is op Word literal wanted e lt = rw (real, eqb_self to) (ap (λ n. result_of op n literal n) (zapped Word (f x) (f to)) ∙ e (low Word (f x)))
  unsigned_by_is op Long literal wanted e lt = rw (real, eqb_self to) (ap (λ n. result_of op n literal n) (zapped Long (f x) (f to)) ∙ e (low Long (f x)))
  unsigned_by_is op Quad literal wanted e lt = operated op literal ∙ (ap (λ n. result_of op n literal (f to)) (sym (low_quad (f x) lt)) ∙ e (f to))

  -- an operation behind the extension
  extended_then : (op : OperateOp) (size : Size) (literal wanted : ℕ) → ((h : ℕ) → result_of op (sign_extended (f x) (bits_of size)) literal h ≡ wanted) → f x < 2 ^ 64
      → afters (extend size x to ++ (Operate op to (Literal literal) to ∷ [])) f to ≡ wanted
  extended_then op size literal wanted e lt =
      ap (λ (g : Regs). g to) (afters_append (extend size x to) (Operate op to (Literal literal) to ∷ []) f)
      ∙ rw (real, eqb_self to) (ap (λ n. result_of op n literal n) (extended_is f x to real size lt) ∙ e (sign_extended (f x) (bits_of size)))

  signed_by_is : (op : OperateOp) (size : Size) (literal wanted : ℕ) → ((h : ℕ) → result_of op (sign_extended (f x) (bits_of size)) literal h ≡ wanted) → f x < 2 ^ 64
      → afters (signed_by op size x literal to) f to ≡ wanted
  signed_by_is op Byte literal wanted e lt = extended_then op Byte literal wanted e lt
  signed_by_is op Word literal wanted e lt = extended_then op Word literal wanted e lt
  signed_by_is op Long literal wanted e lt = extended_then op Long literal wanted e lt
  signed_by_is op Quad literal wanted e lt = operated op literal ∙ (ap (λ n. result_of op n literal (f to)) (sym (signs_quad (f x) lt)) ∙ e (f to))

  -- ---- by a literal
  small : (n : ℕ) → n < 256 → n < 2 ^ 64
  small n lt = omega (arith, lt)

  pub literal_is : (op : MicroOp) (size : Size) (literal held : ℕ) → takes_literal op size literal ≡ true → f x < 2 ^ 64
      → afters (literal_form op size x literal to) f to ≡ value_from op size (low size (f x)) (low size literal) held
  unfolding value_from
  literal_is Sub size literal held e lt =
      let few = small literal (ltb-true literal 256 e) in
      by_literal_is row.Subq size literal _ (subtracts.lowers size (f x) literal (f to) held lt few) (subtracts.fits (f x) literal (f to) lt few)
  literal_is Mul size literal held e lt =
      let few = small literal (ltb-true literal 256 e) in
      by_literal_is row.Mulq size literal _ (multiplies.lowers size (f x) literal (f to) held lt few) (multiplies.fits (f x) literal (f to) lt few)
  literal_is And size literal held e lt =
      let few = ltb-true literal 256 e in
      operated row.And literal ∙ (sym (and_literal size (f x) literal few) ∙ ands.lowers size (f x) literal (f to) held lt (small literal few))
  literal_is Or size literal held e lt =
      let few = small literal (ltb-true literal 256 e) in
      by_literal_is row.Bis size literal _ (ors.lowers size (f x) literal (f to) held lt few) (ors.fits (f x) literal (f to) lt few)
  literal_is Xor size literal held e lt =
      let few = small literal (ltb-true literal 256 e) in
      by_literal_is row.Xor size literal _ (xors.lowers size (f x) literal (f to) held lt few) (xors.fits (f x) literal (f to) lt few)
  literal_is AndNot size literal held e lt =
      let few = small literal (ltb-true literal 256 e) in
      by_literal_is row.Bic size literal _ (clears.lowers size (f x) literal (f to) held lt few) (clears.fits (f x) literal (f to) lt few)
  literal_is ShiftLeft size literal held e lt =
      let few = shift_few size literal e in
      by_literal_is row.Sll size literal _
      (left_low size (f x) literal few ∙ sym (ap (λ c. if c then low size (f x) * 2 ^ low size literal % limit_of size else 0) few))
      (quad_below (f x * 2 ^ (literal % 64)))
  literal_is ShiftRight size literal held e lt =
      let few = shift_few size literal e in
      unsigned_by_is row.Srl size literal _
      (λ h. ap (λ k. right (low size (f x)) k) (within size literal few) ∙ sym (ap (λ c. if c then low size (f x) / 2 ^ low size literal else 0) few)) lt
  literal_is ShiftSigned size literal held e lt =
      let few = shift_few size literal e in
      let shifted = arithmetic_right (sign_extended (f x) (bits_of size)) (literal % 64) in
      let g = afters (signed_by row.Sra size x literal to) f in
      ap (λ (h : Regs). h to) (afters_append (signed_by row.Sra size x literal to) (narrow size to to ∷ []) f)
      ∙ rw (real, eqb_self to)
      (zapped size (g to) (g to)
      ∙ (ap (low size) (signed_by_is row.Sra size literal shifted (λ h. refl) lt)
      ∙ (signed_low_by size (f x) literal few
      ∙ sym (ap (λ c. if c then signed_right size (low size (f x)) (low size literal) else sign_of size (low size (f x))) few))))
  literal_is Equal size literal held e lt =
      let same_low = low_literal size literal (ltb-true literal 256 e) in
      unsigned_by_is row.Cmpeq size literal _ (λ h. ap (λ n. one_if (low size (f x) == n)) (sym same_low)) lt
  literal_is LessUnsigned size literal held e lt =
      let same_low = low_literal size literal (ltb-true literal 256 e) in
      unsigned_by_is row.Cmpult size literal _ (λ h. ap (λ n. one_if (nat_lt (low size (f x)) n)) (sym same_low)) lt
  literal_is Less size literal held e lt =
      signed_by_is row.Cmplt size literal _
      (λ h. ap (λ n. one_if (int_lt (signed_quad n) (signed_quad literal))) (extended_by_sign size (f x)) ∙ ap one_if (signed_below size (low size (f x)) literal (low_below size (f x)) (ltb-true literal 128 e))) lt
  literal_is op size literal held e lt = cc

  -- ---- the sum with a displacement
  pub displaced_is : (size : Size) (value held : ℕ) → is_displacement size value ≡ true → afters (displaced size x value to) f to ≡ value_from Add size (low size (f x)) (low size value) held
  unfolding value_from
  displaced_is size value held e = lowered_one_is (add_short to x value) size _ (rw (real, eqb_self to) (displaced_low size (f x) value e)) (rw (real, eqb_self to) (quad_below _))

  -- ---- low bytes that are cleared
  pub cleared_is : (size : Size) (value held : ℕ) → is_low_bytes value ≡ true → afters (low_cleared size x value to) f to ≡ value_from AndNot size (low size (f x)) (low size value) held
  unfolding value_from
  cleared_is size value held e = operated row.Zapnot (kept_mask size value) ∙ low_cleared_is size (f x) value e

  -- ---- a constant alone
  pub short_is : (size : Size) (value : ℕ) → f 31 ≡ 0 → value < 2 ^ 15 → value < limit_of size → afters (load_short to (low_long value) ∷ []) f to ≡ low size value
  short_is size value zero lt fits = rw (real, eqb_self to, zero) (short_exact (low_long value) value (omega (arith, lt)) lt ∙ sym (mod-eq_of_lt fits))

  -- ---- 0 and the number in x
  module _ (apart : eqb 31 to ≡ false) (x_fits : x < 32) (to_fits : to < 32) (zero : f 31 ≡ 0) (lt : f x < 2 ^ 64) where
    pub zero_is : (op : MicroOp) (size : Size) (held : ℕ) → takes_zero op ≡ true → afters (zero_form op size x to) f to ≡ value_from op size (low size 0) (low size (f x)) held
    unfolding value_from
    zero_is Sub size held e =
        lowered_one_is (Operate row.Subq 31 (Register x) to) size _
        (rw (real, eqb_self to, zero) (subtracts.lowers size 0 (f x) (f to) held (lit< tt) lt))
        (rw (real, eqb_self to, zero) (subtracts.fits 0 (f x) (f to) (lit< tt) lt))
    zero_is Less size held e =
        let g = afters (extend size x to) f in
        let still : g 31 ≡ 0 = afters_only (λ n. n == to) f f (extend size x to) (extend_fine (λ n. n == to) size x to x_fits to_fits (eqb_self to)) (same f (λ n. n == to)) 31 apart ∙ zero in
        ap (λ (h : Regs). h to) (afters_append (extend size x to) (Operate row.Cmplt 31 (Register to) to ∷ []) f)
        ∙ rw (real, eqb_self to, still)
        (ap (λ n. one_if (int_lt (signed_quad 0) (signed_quad n))) (extended_is f x to real size lt ∙ extended_by_sign size (f x))
        ∙ ap one_if (zero_below size (low size (f x)) (low_below size (f x))))
    zero_is LessUnsigned size held e =
        rw (real, eqb_self to, apart, zero)
        (ap (λ n. one_if (nat_lt 0 n)) (zapped size (f x) (f to)) ∙ ap (λ n. one_if (nat_lt n (low size (f x)))) (sym (low_zero size)))
    zero_is op size held e = cc
