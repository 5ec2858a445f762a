-- Condition codes, and going on at an address.
use Rattle.std.proofs.Common.{ℕ, ◌==◌, Bool, true, false, lit<}
use Rattle.std.specs.Prelude.{int_lt, nat_lt}
use Rattle.vt_words.specs.Values.{signed_value}
use Rattle.vax_form.specs.Size.{bytes_of, size_of}
use Rattle.vax_form.specs.Script.{change}
use Rattle.vax_form.specs.State.{with_pc}
use Rattle.vax_form.specs.declared.instr.Size.{Size}
use Rattle.vax_form.specs.declared.instr.Width.{Width}
use Rattle.vax_form.specs.declared.instr.Operand.{Operand}
use Rattle.vax_form.specs.declared.instr.Operand.TheVariants.{Unused, Value, Register, Place, Target}
use Rattle.vax_form.specs.declared.instr.Instr.{Instr}
use Rattle.vt_words.specs.declared.arithmetic.Coded.{Coded}
use Rattle.vax_meaning.specs.Evaluation.{operand}
use Rattle.vax_meaning.specs.Codes.{with_codes, with_all, with_three, with_result, carry_of, sign_of, go_to, finish}
use Rattle.vax_meaning.specs.Moves.{with_comparison}
use Rattle.vax_meaning.specs.Branches.{target, pc_after}
use Rattle.vax_form.specs.declared.pages.Pages.{Pages}
use Rattle.image_meaning.proofs.Keeping.{Keeps, Any, keep_pure, keep_then, keep_get, keep_change}
use Rattle.image_meaning.proofs.States.{IsLongword, with_codes_is, with_pc_is}
use Rattle.image_meaning.proofs.Operands.{FitsOperand}
use Rattle.image_meaning.proofs.Evaluations.{FitsOperands}

-- the address behind an instruction is a longword, and so is each that the code fixes
pub record FitsInstr (instr : Instr) : Type 0 where
  pub after : IsLongword instr.after
  pub operands : FitsOperands instr

pub keep_codes : {pages : Pages} {w : Bool} (n z v c : Bool) → Keeps pages w w Any (change (with_codes n z v c))
keep_codes n z v c = keep_change (with_codes_is n z v c)

pub keep_all : {pages : Pages} {w : Bool} (coded : Coded) → Keeps pages w w Any (change (with_all coded))
keep_all coded = keep_change (with_codes_is coded.n coded.z coded.v coded.c)

pub keep_three : {pages : Pages} {w : Bool} (coded : Coded) → Keeps pages w w Any (change (with_three coded))
keep_three coded = keep_change (λ state is. with_codes_is coded.n coded.z coded.v (carry_of state) state is)

pub keep_result : {pages : Pages} {w : Bool} (size : Size) (value : ℕ) → Keeps pages w w Any (change (with_result size value))
keep_result size value = keep_change (λ state is. with_codes_is (sign_of size value) (value == 0) false (carry_of state) state is)

pub keep_comparison : {pages : Pages} {w : Bool} (width : Width) (first second : ℕ) → Keeps pages w w Any (change (with_comparison width first second))
keep_comparison width first second =
    keep_change (λ state is. with_codes_is (int_lt (signed_value (bytes_of (size_of width)) first) (signed_value (bytes_of (size_of width)) second)) (first == second) false (nat_lt first second) state is)

pub keep_pc : {pages : Pages} {w : Bool} (pc : ℕ) → IsLongword pc → Keeps pages w w Any (change (with_pc pc))
keep_pc pc small = keep_change (λ state is. with_pc_is pc state small is)

pub keep_go_to : {pages : Pages} {w : Bool} (pc : ℕ) → IsLongword pc → Keeps pages w w Any (go_to pc)
keep_go_to pc small = keep_then (keep_pc pc small) (keep_pure tt)

pub keep_finish : {pages : Pages} {w : Bool} (pc : ℕ) → IsLongword pc → Keeps pages w w Any (finish pc)
unfolding finish
keep_finish pc small = keep_then (keep_pc pc small) (keep_get (λ state is. tt))

target_is : (from : Operand) → FitsOperand from → IsLongword (target from)
target_is (Target address) fits = fits
target_is Unused fits = lit< tt
target_is (Value value) fits = lit< tt
target_is (Register n) fits = lit< tt
target_is (Place base index) fits = lit< tt

pub pc_after_is : (instr : Instr) (place : ℕ) (taken : Bool) → FitsInstr instr → IsLongword (pc_after instr place taken)
pc_after_is instr place true fits = target_is (operand instr place) (fits.operands place)
pc_after_is instr place false fits = fits.after
