-- Words that the promises refuse.
use Rattle.std.proofs.Common.{ℕ, ◌^◌, ◌-◌, refl, arith, List, [], ◌∷◌, false, lit<, lit≤}
use Rattle.std.specs.Prelude.{◌==◌, if◌then◌else◌, slice_get, pos}
use Rattle.vax_form.specs.declared.instr.Size.TheVariants.{Byte, Long, Quad}
use Rattle.vax_form.specs.declared.instr.Width.TheVariants as widths
use Rattle.vt_words.specs.Arithmetic.{sum_of}
use Rattle.alpha_encode.specs.Halves.{load_low}
use Rattle.alpha_encode.specs.declared.instr.AlphaInstr.{AlphaInstr}
use Rattle.alpha_encode.specs.declared.instr.AlphaInstr.TheVariants.{Memory, Operate}
use Rattle.alpha_encode.specs.declared.instr.MemoryOp.TheVariants.{Ldah}
use Rattle.alpha_encode.specs.declared.instr.OperateOp.TheVariants as row
use Rattle.alpha_encode.specs.declared.instr.Second.TheVariants.{Register, Literal}
use Rattle.alpha_meaning.specs.State.{Regs}
use Rattle.alpha_meaning.specs.Pieces.{Fetch, Terms, Runs, plain_terms}
use Rattle.micro_ops.specs.declared.program.Arg.TheVariants.{Temp}
use Rattle.micro_ops.specs.declared.program.MicroOp.TheVariants as ops
use Rattle.micro_ops.specs.Values.{value_from}
use Rattle.compute_sequences.specs.declared.overflow.Arithmetic.TheVariants.{Sum}
use Rattle.compute_sequences.specs.Words.{narrow}
use Rattle.compute_sequences.specs.Overflow.{LeavesOverflow}
use Rattle.compute_sequences.specs.Promises.{LeavesConstant, LeavesComputed}

-- the words stand from place 0 on
abbrev fetched : List AlphaInstr → Fetch
fetched words = slice_get words

abbrev nowhere : Terms
nowhere = plain_terms (λ store quad. false)

-- of three registers; all others hold 0
abbrev with_three : (n a m b k c : ℕ) → Regs
with_three n a m b k c = λ r. if r == n then a else if r == m then b else if r == k then c else 0

-- ADDQ alone, at a byte
pub high_bytes_left : LeavesComputed ops.Add Byte (Temp 0) (Temp 1) 23 (Operate row.Addq 21 (Register 22) 23 ∷ []) → ⊥
unfolding Runs value_from
high_bytes_left h =
    let words : List AlphaInstr = Operate row.Addq 21 (Register 22) 23 ∷ [] in
    let run = h (with_three 21 255 22 255 23 0) (record { zero = refl; first = lit< tt; second = λ e. lit< tt; held = λ e. lit< tt }) (fetched words) nowhere 0 2 (lit≤ tt) (refl, tt) in
    let left = run.3.2 in
    let e = left.holds in
    absurd (omega arith)

-- CMPLT for a comparison without signs
pub signs_compared : LeavesComputed ops.LessUnsigned Quad (Temp 0) (Temp 1) 23 (Operate row.Cmplt 21 (Register 22) 23 ∷ []) → ⊥
unfolding Runs value_from
signs_compared h =
    let words : List AlphaInstr = Operate row.Cmplt 21 (Register 22) 23 ∷ [] in
    let run = h (with_three 21 (2 ^ 64 - 1) 22 0 23 0) (record { zero = refl; first = lit< tt; second = λ e. lit< tt; held = λ e. lit< tt }) (fetched words) nowhere 0 2 (lit≤ tt) (refl, tt) in
    let left = run.3.2 in
    let e = left.holds in
    absurd (omega arith)

-- SRA alone, by 64 bits
pub count_taken_modulo_64 : LeavesComputed ops.ShiftSigned Quad (Temp 0) (Temp 1) 23 (Operate row.Sra 21 (Register 22) 23 ∷ []) → ⊥
unfolding Runs value_from
count_taken_modulo_64 h =
    let words : List AlphaInstr = Operate row.Sra 21 (Register 22) 23 ∷ [] in
    let run = h (with_three 21 (2 ^ 63) 22 64 23 0) (record { zero = refl; first = lit< tt; second = λ e. lit< tt; held = λ e. lit< tt }) (fetched words) nowhere 0 2 (lit≤ tt) (refl, tt) in
    let left = run.3.2 in
    let e = left.holds in
    absurd (omega arith)

-- a high half of 0 above the low half 8000, which is negative
pub borrow_forgotten : LeavesConstant 0x8000 Long 23 (Memory Ldah 23 31 (pos 0) ∷ load_low 23 0x8000 ∷ []) → ⊥
unfolding Runs
borrow_forgotten h =
    let words : List AlphaInstr = Memory Ldah 23 31 (pos 0) ∷ load_low 23 0x8000 ∷ [] in
    let run = h (with_three 21 0 22 0 23 0) refl (fetched words) nowhere 0 3 (lit≤ tt) (refl, (refl, tt)) in
    let left = run.3.2.3.2 in
    let e = left.holds in
    absurd (omega arith)

-- a choice of a byte that keeps all of its register
pub all_bytes_kept : LeavesComputed ops.SelectNonzero Byte (Temp 0) (Temp 1) 23 (narrow Byte 21 27 ∷ Operate row.Cmovne 27 (Register 22) 23 ∷ []) → ⊥
unfolding Runs value_from
all_bytes_kept h =
    let words : List AlphaInstr = narrow Byte 21 27 ∷ Operate row.Cmovne 27 (Register 22) 23 ∷ [] in
    let run = h (with_three 21 0 22 0 23 256) (record { zero = refl; first = lit< tt; second = λ e. lit< tt; held = λ e. lit< tt }) (fetched words) nowhere 0 3 (lit≤ tt) (refl, (refl, tt)) in
    let left = run.3.2.3.2 in
    let e = left.holds in
    absurd (omega arith)

-- V of a sum whose second operand has no sign
pub sign_forgotten : LeavesOverflow Sum widths.Long 21 22 23
    (Operate row.Addl 21 (Literal 0) 27 ∷ Operate row.Bis 22 (Literal 0) 23 ∷ Operate row.Addq 27 (Register 23) 23 ∷ Operate row.Addl 23 (Literal 0) 27 ∷ Operate row.Cmpeq 27 (Register 23) 23 ∷ Operate row.Xor 23 (Literal 1) 23 ∷ []) → ⊥
unfolding Runs sum_of
sign_forgotten h =
    let words : List AlphaInstr =
    Operate row.Addl 21 (Literal 0) 27 ∷ Operate row.Bis 22 (Literal 0) 23 ∷ Operate row.Addq 27 (Register 23) 23 ∷ Operate row.Addl 23 (Literal 0) 27 ∷ Operate row.Cmpeq 27 (Register 23) 23 ∷ Operate row.Xor 23 (Literal 1) 23 ∷ [] in
    let run = h (with_three 21 (2 ^ 31) 22 (2 ^ 32 - 1) 23 0) (fetched words) nowhere 0 7 (lit≤ tt) (refl, (refl, (refl, (refl, (refl, (refl, tt)))))) in
    let left = run.3.2.3.2.3.2.3.2.3.2.3.2 in
    let e = left.holds in
    absurd (omega arith)
