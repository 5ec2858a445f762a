-- Where the arguments stand behind their words.
use Rattle.std.proofs.Common.{◌≡◌, ℕ, ◌+◌, ◌/◌, ◌%◌, ◌^◌, ◌<◌, refl, sym, ap, ◌∙◌, subst, arith, List, [], ◌∷◌, Bool, true, false, not, eqb, ne_eqb, lit<}
use Rattle.std.specs.Prelude.{nat_lt, ◌==◌, bit_and, if◌then◌else◌}
use Rattle.std.proofs.lemmas.Nat.{and_mask}
use Rattle.vax_form.specs.declared.instr.Size.{Size}
use Rattle.vax_form.specs.declared.instr.Size.TheVariants.{Byte, Word, Long, Quad}
use Rattle.vt_words.specs.Quad.{right, kept}
use Rattle.alpha_encode.specs.declared.instr.OperateOp.TheVariants as row
use Rattle.alpha_encode.specs.declared.instr.Second.TheVariants.{Literal}
use Rattle.alpha_encode.specs.declared.instr.AlphaInstr.{AlphaInstr}
use Rattle.alpha_encode.specs.declared.instr.AlphaInstr.TheVariants.{Operate}
use Rattle.alpha_meaning.specs.State.{Regs}
use Rattle.alpha_meaning.specs.Pieces.{Only}
use Rattle.alpha_meaning.proofs.Registers.{eqb_self}
use Rattle.micro_ops.specs.declared.program.Arg.{Arg}
use Rattle.micro_ops.specs.declared.program.Arg.TheVariants.{Temp, Register, Flag, Const}
use Rattle.micro_ops.specs.Values.{low}
use Rattle.compute_sequences.specs.Registers.{IsTarget, IsArgument, register_at, value_at, is_loaded}
use Rattle.compute_sequences.specs.Constants.{constant_code}
use Rattle.compute_sequences.specs.Words.{load_code, first_register, second_target, second_register}
use Rattle.compute_sequences.proofs.Straight.{afters, afters_only, same}
use Rattle.compute_sequences.proofs.Numbers.{low_kept}
use Rattle.compute_sequences.proofs.ConstantLaws.{constant_low, constant_below, target_fits, target_real}
use Rattle.compute_sequences.proofs.FineLaws.{load_fine}

-- a register holds a quadword with the low bytes of the value
pub record Holds (size : Size) (value number : ℕ) : Type 0 where
  pub low_bytes : low size number ≡ low size value
  pub fits : number < 2 ^ 64

-- the words of an argument change one register
pub load_only : (size : Size) (arg : Arg) (to : ℕ) (f : Regs) → IsArgument arg → to < 32 → Only (λ n. n == to) f (afters (load_code size arg to) f)
load_only size arg to f is fits = afters_only (λ n. n == to) f f (load_code size arg to) (load_fine (λ n. n == to) size arg to is fits (eqb_self to)) (same f (λ n. n == to))

-- ---- an argument with words of its own
module _ (to : ℕ) (real : eqb to 31 ≡ false) (f : Regs) (zero : f 31 ≡ 0) where
  long_placed : (size : Size) (n : ℕ) → Holds size (f n % 2 ^ 32) (kept 15 (f n))
  long_placed size n = let e = low_kept Long (f n) in record { low_bytes = ap (low size) e; fits = subst (λ x. x < 2 ^ 64) (sym e) (omega arith) }

  flag_placed : (size : Size) (flag : ℕ) → flag < 8 → Holds size (f 20 / 2 ^ flag % 2) (bit_and (right (f 20) (flag % 64)) 1)
  flag_placed size flag lt =
      let count : flag % 64 ≡ flag = omega (arith, lt) in
      let e : bit_and (right (f 20) (flag % 64)) 1 ≡ f 20 / 2 ^ flag % 2 = ap (λ k. bit_and (right (f 20) k) 1) count ∙ and_mask (f 20 / 2 ^ flag) 1 in
      record { low_bytes = ap (low size) e; fits = subst (λ x. x < 2 ^ 64) (sym e) (omega arith) }

  constant_placed : (size : Size) (value : ℕ) → value < 2 ^ 64 → Holds size value (afters (constant_code value size to) f to)
  constant_placed size value lt = record { low_bytes = constant_low to real f zero value lt size; fits = constant_below to real f zero value size }

  pub loaded : (size : Size) (arg : Arg) → IsArgument arg → is_loaded size arg ≡ true → Holds size (value_at f arg) (afters (load_code size arg to) f to)
  loaded size (Temp temp) is e = cc
  loaded Byte (Register number) is e = cc
  loaded Word (Register number) is e = cc
  loaded Long (Register number) is e = cc
  loaded Quad (Register number) is e = rw (real, eqb_self to) (long_placed Quad number)
  loaded size (Flag flag) is e = by (nat_lt flag 4) e
    where
      by : (b : Bool) → not b ≡ true → Holds size (if b then f (16 + flag) else f 20 / 2 ^ flag % 2) (afters (if b then [] else Operate row.Srl 20 (Literal flag) to ∷ Operate row.And to (Literal 1) to ∷ []) f to)
      by true e = cc
      by false e = rw (real, eqb_self to) (flag_placed size flag is)
  loaded size (Const value) is e = constant_placed size value is

-- ---- an argument in its register
-- it has no words
pub no_words : (size : Size) (arg : Arg) (to : ℕ) → is_loaded size arg ≡ false → load_code size arg to ≡ []
no_words size (Temp temp) to e = refl
no_words Byte (Register number) to e = refl
no_words Word (Register number) to e = refl
no_words Long (Register number) to e = refl
no_words Quad (Register number) to e = cc
no_words size (Flag flag) to e = by (nat_lt flag 4) e
  where
    by : (b : Bool) → not b ≡ false → (if b then [] else Operate row.Srl 20 (Literal flag) to ∷ Operate row.And to (Literal 1) to ∷ []) ≡ []
    by true e = refl
    by false e = cc
no_words size (Const value) to e = cc

pub in_place : (f : Regs) (size : Size) (arg : Arg) → is_loaded size arg ≡ false → f (register_at arg) < 2 ^ 64 → Holds size (value_at f arg) (f (register_at arg))
in_place f size (Temp temp) e fits = record { low_bytes = refl; fits = fits }
in_place f Byte (Register number) e fits = record { low_bytes = omega arith; fits = fits }
in_place f Word (Register number) e fits = record { low_bytes = omega arith; fits = fits }
in_place f Long (Register number) e fits = record { low_bytes = omega arith; fits = fits }
in_place f Quad (Register number) e fits = cc
in_place f size (Flag flag) e fits = by (nat_lt flag 4) e fits
  where
    by : (b : Bool) → not b ≡ false → f (if b then 16 + flag else 20) < 2 ^ 64 → Holds size (if b then f (16 + flag) else f 20 / 2 ^ flag % 2) (f (if b then 16 + flag else 20))
    by true e fits = record { low_bytes = refl; fits = fits }
    by false e fits = cc
in_place f size (Const value) e fits = cc

-- ---- registers of arguments
pub argument_fits : (arg : Arg) → IsArgument arg → register_at arg < 32
argument_fits (Temp temp) is = omega (arith, is)
argument_fits (Register number) is = omega (arith, is)
argument_fits (Flag flag) is = by (nat_lt flag 4)
  where
    by : (b : Bool) → (if b then 16 + flag else 20) < 32
    by true = omega (arith, is)
    by false = lit< tt
argument_fits (Const value) is = lit< tt

-- R27 holds none
pub not_scratch : (arg : Arg) → IsArgument arg → eqb (register_at arg) 27 ≡ false
not_scratch (Temp temp) is = ne_eqb (21 + temp) 27 (λ (e : 21 + temp ≡ 27). absurd (omega (arith, is, e)))
not_scratch (Register number) is = ne_eqb number 27 (λ (e : number ≡ 27). absurd (omega (arith, is, e)))
not_scratch (Flag flag) is = by (nat_lt flag 4)
  where
    by : (b : Bool) → eqb (if b then 16 + flag else 20) 27 ≡ false
    by true = ne_eqb (16 + flag) 27 (λ (e : 16 + flag ≡ 27). absurd (omega (arith, is, e)))
    by false = refl
not_scratch (Const value) is = refl

-- what an argument is depends on no scratch register
pub value_kept : (f g : Regs) (arg : Arg) → IsArgument arg → Only (λ n. n == 27) f g → value_at g arg ≡ value_at f arg
value_kept f g (Temp temp) is only = only (21 + temp) (not_scratch (Temp temp) is)
value_kept f g (Register number) is only = ap (λ x. x % 2 ^ 32) (only number (not_scratch (Register number) is))
value_kept f g (Flag flag) is only = by (nat_lt flag 4)
  where
    by : (b : Bool) → (if b then g (16 + flag) else g 20 / 2 ^ flag % 2) ≡ (if b then f (16 + flag) else f 20 / 2 ^ flag % 2)
    by true = only (16 + flag) (ne_eqb (16 + flag) 27 (λ (e : 16 + flag ≡ 27). absurd (omega (arith, is, e))))
    by false = ap (λ x. x / 2 ^ flag % 2) (only 20 refl)
value_kept f g (Const value) is only = refl

-- ---- both arguments
pub not_27 : (to : ℕ) → IsTarget to → eqb 27 to ≡ false
not_27 to is = let high = is.high in ne_eqb 27 to (λ (e : 27 ≡ to). absurd (omega (arith, high, e)))

pub to_not_27 : (to : ℕ) → IsTarget to → eqb to 27 ≡ false
to_not_27 to is = let high = is.high in ne_eqb to 27 (λ (e : to ≡ 27). absurd (omega (arith, high, e)))

module _ (size : Size) (a b : Arg) (to : ℕ) (is : IsTarget to) (f : Regs) (zero : f 31 ≡ 0) where
  abbrev behind_a : Regs
  behind_a = afters (load_code size a 27) f

  abbrev x : ℕ
  x = first_register size a

  module _ (a_is : IsArgument a) (a_fits : f (register_at a) < 2 ^ 64) where
    pub only_first : Only (λ n. n == 27) f behind_a
    only_first = load_only size a 27 f a_is (lit< tt)

    pub first_fits : first_register size a < 32
    first_fits = by (is_loaded size a)
      where
        by : (l : Bool) → (if l then 27 else register_at a) < 32
        by true = lit< tt
        by false = argument_fits a a_is

    -- the first argument is in its register
    pub first_placed : Holds size (value_at f a) (behind_a x)
    first_placed = by (is_loaded size a) refl
      where
        by : (l : Bool) → is_loaded size a ≡ l → Holds size (value_at f a) (behind_a (if l then 27 else register_at a))
        by true e = loaded 27 refl f zero size a a_is e
        by false e = subst (λ (w : List AlphaInstr). Holds size (value_at f a) (afters w f (register_at a))) (sym (no_words size a 27 e)) (in_place f size a e a_fits)

    module _ (b_is : IsArgument b) (b_fits : f (register_at b) < 2 ^ 64) where
      abbrev target : ℕ
      target = second_target size a to

      abbrev y : ℕ
      y = second_register size a b to

      abbrev behind_b : Regs
      behind_b = afters (load_code size b target) behind_a

      pub second_fits : y < 32
      second_fits = by (is_loaded size a) (is_loaded size b)
        where
          by : (k l : Bool) → (if l then (if k then to else 27) else register_at b) < 32
          by true true = target_fits to is
          by false true = lit< tt
          by k false = argument_fits b b_is

      target_below : target < 32
      target_below = by (is_loaded size a)
        where
          by : (k : Bool) → (if k then to else 27) < 32
          by true = target_fits to is
          by false = lit< tt

      target_is_real : eqb target 31 ≡ false
      target_is_real = by (is_loaded size a)
        where
          by : (k : Bool) → eqb (if k then to else 27) 31 ≡ false
          by true = target_real to is
          by false = refl

      pub only_second : Only (λ n. n == target) behind_a behind_b
      only_second = load_only size b target behind_a b_is target_below

      still_zero : behind_a 31 ≡ 0
      still_zero = only_first 31 refl ∙ zero

      -- the first argument's register is not the target
      first_apart : eqb x target ≡ false
      first_apart = by (is_loaded size a)
        where
          by : (k : Bool) → eqb (if k then 27 else register_at a) (if k then to else 27) ≡ false
          by true = not_27 to is
          by false = not_scratch a a_is

      pub first_stays : Holds size (value_at f a) (behind_b x)
      first_stays = subst (Holds size (value_at f a)) (sym (only_second x first_apart)) first_placed

      b_kept : behind_a (register_at b) ≡ f (register_at b)
      b_kept = only_first (register_at b) (not_scratch b b_is)

      pub second_placed : Holds size (value_at f b) (behind_b y)
      second_placed = subst (λ v. Holds size v (behind_b y)) (value_kept f behind_a b b_is only_first) (by (is_loaded size b) refl)
        where
          by : (l : Bool) → is_loaded size b ≡ l → Holds size (value_at behind_a b) (behind_b (if l then target else register_at b))
          by true e = loaded target target_is_real behind_a still_zero size b b_is e
          by false e =
              subst (λ (w : List AlphaInstr). Holds size (value_at behind_a b) (afters w behind_a (register_at b))) (sym (no_words size b target e))
              (in_place behind_a size b e (subst (λ n. n < 2 ^ 64) (sym b_kept) b_fits))
