-- What the words of an overflow leave.
use Rattle.std.proofs.Common.{◌≡◌, ◌≢◌, ℕ, ◌<◌, refl, sym, ap, ◌∙◌, List, [], ◌∷◌, ◌++◌, Bool, true, false, eqb, ne_eqb, lit<}
use Rattle.std.specs.Prelude.{not, ◌==◌, bit_xor}
use Rattle.std.proofs.Math.Nat.{mod-eq_of_lt}
use Rattle.vax_form.specs.Size.{size_of}
use Rattle.vax_form.specs.declared.instr.Size.{Size}
use Rattle.vax_form.specs.declared.instr.Width.{Width}
use Rattle.vax_form.specs.declared.instr.Width.TheVariants.{Byte, Word, Long}
use Rattle.vt_words.specs.Values.{bit}
use Rattle.vt_words.specs.Quad.{sign_extended}
use Rattle.alpha_encode.specs.Words.{IsFirst}
use Rattle.alpha_encode.specs.declared.instr.AlphaInstr.{AlphaInstr}
use Rattle.alpha_encode.specs.declared.instr.AlphaInstr.TheVariants.{Operate}
use Rattle.alpha_encode.specs.declared.instr.OperateOp.TheVariants as row
use Rattle.alpha_encode.specs.declared.instr.Second.TheVariants.{Register, Literal}
use Rattle.alpha_meaning.specs.State.{Regs, put}
use Rattle.alpha_meaning.specs.Result.{one_if, result_of}
use Rattle.alpha_meaning.proofs.Registers.{eqb_self, put_same, put_other}
use Rattle.micro_ops.specs.Values.{low, bits_of}
use Rattle.micro_ops.proofs.Sizes.{low_below}
use Rattle.compute_sequences.specs.declared.overflow.Arithmetic.{Arithmetic}
use Rattle.compute_sequences.specs.declared.overflow.Arithmetic.TheVariants.{Sum, Difference}
use Rattle.compute_sequences.specs.Registers.{IsTarget, may_change}
use Rattle.compute_sequences.specs.Words.{extend}
use Rattle.compute_sequences.specs.Overflow.{quad_operation, overflow_code, overflows, IsOverflow, LeavesOverflow}
use Rattle.compute_sequences.proofs.Straight.{Fine, Each, each_append, afters, afters_append, straight}
use Rattle.compute_sequences.proofs.Shifting.{signs_by_low, raised_byte, raised_word, added_long}
use Rattle.compute_sequences.proofs.Overflowing.{overflow_is}
use Rattle.compute_sequences.proofs.ConstantLaws.{target_real, target_fits, may_target}
use Rattle.compute_sequences.proofs.FineLaws.{fine_two, fine_by, extend_fine, scratch_may}
use Rattle.compute_sequences.proofs.Placing.{not_27, to_not_27}

-- by the low bytes of both operands
low_signs : (size : Size) (a : ℕ) → sign_extended a (bits_of size) ≡ sign_extended (low size a) (bits_of size)
low_signs size a = signs_by_low size a (low size a) (sym (mod-eq_of_lt (low_below size a)))

turned : (b : Bool) → bit_xor (one_if b) 1 ≡ bit (not b)
turned true = refl
turned false = refl

-- the words of an extension
small_extended : (f : Regs) (x to : ℕ) → eqb to 31 ≡ false → (width : Width) → afters (extend (size_of width) x to) f to ≡ sign_extended (f x) (bits_of (size_of width))
small_extended f x to real Byte = rw (real, eqb_self to) (raised_byte (f x))
small_extended f x to real Word = rw (real, eqb_self to) (raised_word (f x))
small_extended f x to real Long = rw (real, eqb_self to) (added_long (f x))

extend_only : (f : Regs) (x to : ℕ) (width : Width) (n : ℕ) → eqb n to ≡ false → afters (extend (size_of width) x to) f n ≡ f n
extend_only f x to Byte n out = put_other (put f to _) to _ n out ∙ put_other f to _ n out
extend_only f x to Word n out = put_other (put f to _) to _ n out ∙ put_other f to _ n out
extend_only f x to Long n out = put_other f to _ n out

module _ (arithmetic : Arithmetic) (x y to : ℕ) (is : IsTarget to) (stays : eqb y 27 ≡ false) (f : Regs) where
  abbrev result_by : Width → (a b : ℕ) → ℕ
  result_by width a b = result_of (quad_operation arithmetic) (sign_extended a (bits_of (size_of width))) (sign_extended b (bits_of (size_of width))) 0

  -- what the comparison and the words behind it say
  pub overflow_value : (width : Width) → let result = result_by width (f x) (f y) in
      bit_xor (one_if (sign_extended result (bits_of (size_of width)) == result)) 1 ≡ bit (overflows arithmetic width (low (size_of width) (f x)) (low (size_of width) (f y)))
  overflow_value width =
      let size = size_of width in
      let result = result_by width (low size (f x)) (low size (f y)) in
      let same : result_by width (f x) (f y) ≡ result = ap (λ n. result_of (quad_operation arithmetic) n (sign_extended (f y) (bits_of size)) 0) (low_signs size (f x)) ∙ ap (λ n. result_of (quad_operation arithmetic) (sign_extended (low size (f x)) (bits_of size)) n 0) (low_signs size (f y)) in
      ap (λ r. bit_xor (one_if (sign_extended r (bits_of size) == r)) 1) same
      ∙ (turned (sign_extended result (bits_of size) == result) ∙ ap bit (sym (overflow_is arithmetic width (low size (f x)) (low size (f y)) (low_below size (f x)) (low_below size (f y)))))

  -- ---- the words
  abbrev first : Width → Regs
  first width = afters (extend (size_of width) x 27) f

  extended_first : (width : Width) → first width 27 ≡ sign_extended (f x) (bits_of (size_of width))
  extended_first width = small_extended f x 27 refl width

  abbrev second : Width → Regs
  second width = afters (extend (size_of width) y to) (first width)

  y_kept : (width : Width) → first width y ≡ f y
  y_kept width = extend_only f x 27 width y stays

  extended_second : (width : Width) → second width to ≡ sign_extended (f y) (bits_of (size_of width))
  extended_second width = small_extended (first width) y to (target_real to is) width ∙ ap (λ n. sign_extended n (bits_of (size_of width))) (y_kept width)

  first_kept : (width : Width) → second width 27 ≡ sign_extended (f x) (bits_of (size_of width))
  first_kept width = extend_only (first width) y to width 27 (not_27 to is) ∙ extended_first width

  -- the sum or difference as a quadword
  abbrev third : Width → Regs
  third width = put (second width) to (result_of (quad_operation arithmetic) (second width 27) (second width to) (second width to))

  held_by : (op : Arithmetic) (a b held : ℕ) → result_of (quad_operation op) a b held ≡ result_of (quad_operation op) a b 0
  held_by Sum a b held = refl
  held_by Difference a b held = refl

  result_is : (width : Width) → third width to ≡ result_by width (f x) (f y)
  result_is width =
      put_same (second width) to _ (target_real to is)
      ∙ (held_by arithmetic (second width 27) (second width to) (second width to)
      ∙ (ap (λ n. result_of (quad_operation arithmetic) n (second width to) 0) (first_kept width) ∙ ap (λ n. result_of (quad_operation arithmetic) (sign_extended (f x) (bits_of (size_of width))) n 0) (extended_second width)))

  abbrev fourth : Width → Regs
  fourth width = afters (extend (size_of width) to 27) (third width)

  again : (width : Width) → fourth width 27 ≡ sign_extended (result_by width (f x) (f y)) (bits_of (size_of width))
  again width = small_extended (third width) to 27 refl width ∙ ap (λ n. sign_extended n (bits_of (size_of width))) (result_is width)

  result_kept : (width : Width) → fourth width to ≡ result_by width (f x) (f y)
  result_kept width = extend_only (third width) to 27 width to (to_not_27 to is) ∙ result_is width

  -- the comparison, and its answer turned
  abbrev last : List AlphaInstr
  last = Operate row.Cmpeq 27 (Register to) to ∷ Operate row.Xor to (Literal 1) to ∷ []

  last_is : (g : Regs) → afters last g to ≡ bit_xor (one_if (g 27 == g to)) 1
  last_is g = rw (target_real to is, eqb_self to) refl

  whole_is : (width : Width) → afters last (fourth width) to ≡ bit_xor (one_if (sign_extended (result_by width (f x) (f y)) (bits_of (size_of width)) == result_by width (f x) (f y))) 1
  whole_is width =
      last_is (fourth width)
      ∙ (ap (λ n. bit_xor (one_if (n == fourth width to)) 1) (again width) ∙ ap (λ n. bit_xor (one_if (sign_extended (result_by width (f x) (f y)) (bits_of (size_of width)) == n)) 1) (result_kept width))

  abbrev made : Width → List AlphaInstr
  made width = Operate (quad_operation arithmetic) 27 (Register to) to ∷ (extend (size_of width) to 27 ++ last)

  parts_are : (width : Width) → afters (overflow_code arithmetic width x y to) f ≡ afters last (fourth width)
  parts_are width =
      afters_append (extend (size_of width) x 27) (extend (size_of width) y to ++ made width) f
      ∙ (afters_append (extend (size_of width) y to) (made width) (first width) ∙ afters_append (extend (size_of width) to 27) last (third width))

  pub overflow_left : (width : Width) → IsOverflow arithmetic width x y f (afters (overflow_code arithmetic width x y to) f to)
  overflow_left width = ap (λ (g : Regs). g to) (parts_are width) ∙ (whole_is width ∙ overflow_value width)

scratch_first : (arithmetic : Arithmetic) → IsFirst (quad_operation arithmetic) 27
scratch_first Sum = lit< tt
scratch_first Difference = lit< tt

pub overflow_fine : (arithmetic : Arithmetic) (width : Width) (x y to : ℕ) → IsTarget to → x < 32 → y < 32 → Each (Fine (may_change to)) (overflow_code arithmetic width x y to)
overflow_fine arithmetic width x y to is x_fits y_fits =
    let size = size_of width in
    let may = may_change to in
    let fits = target_fits to is in
    let to_may = may_target to in
    let scratch = scratch_may to 0 is in
    each_append (Fine may) (extend size x 27) _ (extend_fine may size x 27 x_fits (lit< tt) scratch)
    (each_append (Fine may) (extend size y to) _ (extend_fine may size y to y_fits fits to_may) (
      fine_two may (quad_operation arithmetic) 27 to to (scratch_first arithmetic) fits fits to_may,
      each_append (Fine may) (extend size to 27) (Operate row.Cmpeq 27 (Register to) to ∷ Operate row.Xor to (Literal 1) to ∷ []) (extend_fine may size to 27 fits (lit< tt) scratch) (
        fine_two may row.Cmpeq 27 to to (lit< tt) fits fits to_may,
        (fine_by may row.Xor to 1 to fits (lit< tt) fits to_may, tt),
      ),
    ))

pub leaves_overflow : (arithmetic : Arithmetic) (width : Width) (x y to : ℕ) → IsTarget to → x < 32 → y < 32 → y ≢ 27 → LeavesOverflow arithmetic width x y to (overflow_code arithmetic width x y to)
leaves_overflow arithmetic width x y to is x_fits y_fits stays f =
    straight (IsOverflow arithmetic width x y f) to (overflow_code arithmetic width x y to) f (overflow_fine arithmetic width x y to is x_fits y_fits)
    (overflow_left arithmetic x y to is (ne_eqb y 27 stays) f width)
