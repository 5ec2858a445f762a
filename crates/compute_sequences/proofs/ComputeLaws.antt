-- What the words of a computation leave.
use Rattle.std.proofs.Common.{◌≡◌, ℕ, ◌^◌, ◌<◌, refl, sym, ap, ◌∙◌, subst, List, [], ◌∷◌, ◌++◌, Bool, true, false, eqb, eqb-true, lit<}
use Rattle.std.specs.Prelude.{◌||◌, if◌then◌else◌}
use Rattle.std.proofs.Math.Nat.{mod-eq_of_lt}
use Rattle.vax_form.specs.declared.instr.Size.{Size}
use Rattle.vt_words.specs.Quad.{sign_extended}
use Rattle.alpha_encode.specs.declared.instr.AlphaInstr.{AlphaInstr}
use Rattle.alpha_encode.specs.declared.instr.OperateOp.TheVariants as row
use Rattle.alpha_meaning.specs.State.{Regs}
use Rattle.alpha_meaning.proofs.Registers.{eqb_self}
use Rattle.micro_ops.specs.declared.program.Arg.{Arg}
use Rattle.micro_ops.specs.declared.program.MicroOp.{MicroOp}
use Rattle.micro_ops.specs.declared.program.MicroOp.TheVariants.{Add, Sub, Mul, And, Or, Xor, AndNot, ShiftLeft, ShiftRight, ShiftSigned, SignExtend, Equal, Less, LessUnsigned, MulHigh}
use Rattle.micro_ops.specs.Uses.{is_unary, is_select}
use Rattle.micro_ops.specs.Values.{low, bits_of, value_from}
use Rattle.micro_ops.proofs.Sizes.{low_below}
use Rattle.compute_sequences.specs.Registers.{IsTarget, IsArgument, register_at, value_at, is_loaded, may_change}
use Rattle.compute_sequences.specs.Words.{narrow, load_code, first_register, second_target, second_register, free_of, other_of, unary_code, binary_code}
use Rattle.compute_sequences.specs.Promises.{LeavesAt, IsComputed}
use Rattle.compute_sequences.proofs.Straight.{Fine, Each, each_append, afters, afters_append, straight}
use Rattle.compute_sequences.proofs.Numbers.{zapped, adds, subtracts, multiplies, ands, ors, xors, clears}
use Rattle.compute_sequences.proofs.Comparing.{equals, orders, signed_orders}
use Rattle.compute_sequences.proofs.Shifting.{signs_by_low}
use Rattle.compute_sequences.proofs.ConstantLaws.{target_real, target_fits, may_target}
use Rattle.compute_sequences.proofs.FormLaws.{Roles, lowered_is, compared_is, left_shift_is, right_shift_is, signed_shift_is, high_product_is, extended_is}
use Rattle.compute_sequences.proofs.FineLaws.{load_fine, unary_fine, binary_fine, scratch_may}
use Rattle.compute_sequences.proofs.Placing.{first_placed, first_fits, second_fits, second_placed, first_stays, not_27, to_not_27}

-- ---- operations on two registers
pub roles_of : (y to : ℕ) → IsTarget to → Roles y (free_of y to) (other_of y to) to
roles_of y to is = by (eqb y 27) refl
  where
    by : (b : Bool) → eqb y 27 ≡ b → Roles y (if b then to else 27) (if b then 27 else to) to
    by true e = record {
      to_real = target_real to is;
      free_real = target_real to is;
      other_real = refl;
      y_free = subst (λ n. eqb n to ≡ false) (sym (eqb-true y 27 e)) (not_27 to is);
      free_other = to_not_27 to is;
    }
    by false e = record {
      to_real = target_real to is;
      free_real = refl;
      other_real = target_real to is;
      y_free = e;
      free_other = not_27 to is;
    }

pub binary_is : (op : MicroOp) → (is_unary op || is_select op) ≡ false → (size : Size) (x y to : ℕ) (f : Regs) (held : ℕ) → IsTarget to → f x < 2 ^ 64 → f y < 2 ^ 64
    → afters (binary_code op size x y to) f to ≡ value_from op size (low size (f x)) (low size (f y)) held
binary_is Add two size x y to f held is a b = lowered_is f x y (free_of y to) (other_of y to) to (roles_of y to is) row.Addq Add adds size held a b
binary_is Sub two size x y to f held is a b = lowered_is f x y (free_of y to) (other_of y to) to (roles_of y to is) row.Subq Sub subtracts size held a b
binary_is Mul two size x y to f held is a b = lowered_is f x y (free_of y to) (other_of y to) to (roles_of y to is) row.Mulq Mul multiplies size held a b
binary_is And two size x y to f held is a b = lowered_is f x y (free_of y to) (other_of y to) to (roles_of y to is) row.And And ands size held a b
binary_is Or two size x y to f held is a b = lowered_is f x y (free_of y to) (other_of y to) to (roles_of y to is) row.Bis Or ors size held a b
binary_is Xor two size x y to f held is a b = lowered_is f x y (free_of y to) (other_of y to) to (roles_of y to is) row.Xor Xor xors size held a b
binary_is AndNot two size x y to f held is a b = lowered_is f x y (free_of y to) (other_of y to) to (roles_of y to is) row.Bic AndNot clears size held a b
binary_is ShiftLeft two size x y to f held is a b = left_shift_is f x y (free_of y to) (other_of y to) to (roles_of y to is) size held a b
binary_is ShiftRight two size x y to f held is a b = right_shift_is f x y (free_of y to) (other_of y to) to (roles_of y to is) size held a b
binary_is ShiftSigned two size x y to f held is a b = signed_shift_is f x y (free_of y to) (other_of y to) to (roles_of y to is) size held a b
binary_is Equal two size x y to f held is a b = compared_is f x y (free_of y to) (other_of y to) to (roles_of y to is) row.Cmpeq Equal equals size held a b
binary_is Less two size x y to f held is a b = compared_is f x y (free_of y to) (other_of y to) to (roles_of y to is) row.Cmplt Less signed_orders size held a b
binary_is LessUnsigned two size x y to f held is a b = compared_is f x y (free_of y to) (other_of y to) to (roles_of y to is) row.Cmpult LessUnsigned orders size held a b
binary_is MulHigh two size x y to f held is a b = high_product_is f x y (free_of y to) (other_of y to) to (roles_of y to is) size held a b
binary_is op two size x y to f held is a b = cc

module _ (size : Size) (a : Arg) (to : ℕ) (is : IsTarget to) (a_is : IsArgument a) where
  -- ---- one argument
  abbrev x : ℕ
  x = first_register size a

  pub first_fine : Each (Fine (may_change to)) (load_code size a 27)
  first_fine = load_fine (may_change to) size a 27 a_is (lit< tt) (scratch_may to 0 is)

  x_fits : x < 32
  x_fits = first_fits size a a to is (λ n. 0) refl a_is (lit< tt)

  pub unary_words_fine : (op : MicroOp) → Each (Fine (may_change to)) (load_code size a 27 ++ unary_code op size x to)
  unary_words_fine op = each_append (Fine (may_change to)) (load_code size a 27) (unary_code op size x to) first_fine (unary_fine (may_change to) op size x to x_fits (target_fits to is) (may_target to))

  -- what is in `to` behind the words of an operation with one argument
  pub narrowed : (f : Regs) → f 31 ≡ 0 → f (register_at a) < 2 ^ 64 → afters (load_code size a 27 ++ (narrow size x to ∷ [])) f to ≡ low size (value_at f a)
  narrowed f zero fits =
      let placed = first_placed size a a to is f zero a_is fits in
      ap (λ (g : Regs). g to) (afters_append (load_code size a 27) (narrow size x to ∷ []) f)
      ∙ (rw (target_real to is, eqb_self to) (zapped size (afters (load_code size a 27) f x) (afters (load_code size a 27) f to)) ∙ placed.low_bytes)

  pub extends : (f : Regs) → f 31 ≡ 0 → f (register_at a) < 2 ^ 64 → afters (load_code size a 27 ++ unary_code SignExtend size x to) f to ≡ sign_extended (low size (value_at f a)) (bits_of size)
  extends f zero fits =
      let placed = first_placed size a a to is f zero a_is fits in
      ap (λ (g : Regs). g to) (afters_append (load_code size a 27) (unary_code SignExtend size x to) f)
      ∙ (extended_is (afters (load_code size a 27) f) x to (target_real to is) size placed.fits
      ∙ signs_by_low size (afters (load_code size a 27) f x) (low size (value_at f a)) (placed.low_bytes ∙ sym (mod-eq_of_lt (low_below size (value_at f a)))))

  -- ---- two arguments
  module _ (b : Arg) (b_is : IsArgument b) where
    abbrev y : ℕ
    y = second_register size a b to

    abbrev target : ℕ
    target = second_target size a to

    abbrev two_words : MicroOp → List AlphaInstr
    two_words op = load_code size a 27 ++ (load_code size b target ++ binary_code op size x y to)

    y_fits : y < 32
    y_fits = second_fits size a b to is (λ n. 0) refl a_is (lit< tt) b_is (lit< tt)

    pub second_fine : Each (Fine (may_change to)) (load_code size b target)
    second_fine = load_fine (may_change to) size b target b_is (by (is_loaded size a)) (may_by (is_loaded size a))
      where
        by : (k : Bool) → (if k then to else 27) < 32
        by true = target_fits to is
        by false = lit< tt

        may_by : (k : Bool) → may_change to (if k then to else 27) ≡ true
        may_by true = may_target to
        may_by false = scratch_may to 0 is

    pub two_fine : (op : MicroOp) → Each (Fine (may_change to)) (two_words op)
    two_fine op =
        each_append (Fine (may_change to)) (load_code size a 27) (load_code size b target ++ binary_code op size x y to) first_fine
        (each_append (Fine (may_change to)) (load_code size b target) (binary_code op size x y to) second_fine (binary_fine to y is op size x x_fits y_fits))

    two_is : (op : MicroOp) → (is_unary op || is_select op) ≡ false → (f : Regs) → f 31 ≡ 0 → f (register_at a) < 2 ^ 64 → f (register_at b) < 2 ^ 64 → IsComputed op size a b to f (afters (two_words op) f to)
    two_is op two f zero a_fits b_fits =
        let g = afters (load_code size b target) (afters (load_code size a 27) f) in
        let first = first_stays size a b to is f zero a_is a_fits b_is b_fits in
        let second = second_placed size a b to is f zero a_is a_fits b_is b_fits in
        ap (λ (g : Regs). g to) (afters_append (load_code size a 27) (load_code size b target ++ binary_code op size x y to) f ∙ afters_append (load_code size b target) (binary_code op size x y to) (afters (load_code size a 27) f))
        ∙ (binary_is op two size x y to g (f to) is first.fits second.fits
        ∙ (ap (λ n. value_from op size n (low size (g y)) (f to)) first.low_bytes ∙ ap (λ n. value_from op size (low size (value_at f a)) n (f to)) second.low_bytes))

    pub two_leave : (op : MicroOp) → (is_unary op || is_select op) ≡ false → (f : Regs) → f 31 ≡ 0 → f (register_at a) < 2 ^ 64 → f (register_at b) < 2 ^ 64 → LeavesAt (IsComputed op size a b to f) to (two_words op) f
    two_leave op two f zero a_fits b_fits = straight (IsComputed op size a b to f) to (two_words op) f (two_fine op) (two_is op two f zero a_fits b_fits)
