-- V of a sum and of a difference.
-- VAX Architecture Reference Manual, "Integer Arithmetic and Logical Instructions", ADD and SUB: V says that the true result
-- is no two's complement number of the operands' length.
use Rattle.std.specs.Prelude.{ℕ, ◌≡◌, Bool, false, List, [], ◌∷◌, ◌++◌}
use Rattle.vax_form.specs.Size.{size_of, bytes_of}
use Rattle.vax_form.specs.declared.instr.Width.{Width}
use Rattle.vax_form.specs.declared.instr.Width.TheVariants.{Byte, Word, Long}
use Rattle.vt_words.specs.Values.{bit}
use Rattle.vt_words.specs.Arithmetic.{sum_of, difference_of}
use Rattle.alpha_encode.specs.declared.instr.OperateOp.{OperateOp}
use Rattle.alpha_encode.specs.declared.instr.OperateOp.TheVariants as row
use Rattle.alpha_encode.specs.declared.instr.Second.TheVariants.{Register, Literal}
use Rattle.alpha_encode.specs.declared.instr.AlphaInstr.{AlphaInstr}
use Rattle.alpha_encode.specs.declared.instr.AlphaInstr.TheVariants.{Operate}
use Rattle.alpha_encode.specs.Registers.{ADDRESS}
use Rattle.alpha_meaning.specs.State.{Regs}
use Rattle.micro_ops.specs.Values.{low}
use Rattle.compute_sequences.specs.declared.overflow.Arithmetic.{Arithmetic}
use Rattle.compute_sequences.specs.declared.overflow.Arithmetic.TheVariants.{Sum, Difference}
use Rattle.compute_sequences.specs.Words.{extend}
use Rattle.compute_sequences.specs.Promises.{LeavesAt}

abbrev pub quad_operation : Arithmetic → OperateOp
quad_operation Sum = row.Addq
quad_operation Difference = row.Subq

-- The operands with their signs give the true result as a quadword. It overflows where the extension of its low bytes is
-- another.
abbrev pub overflow_code : Arithmetic → Width → (x y to : ℕ) → List AlphaInstr
overflow_code arithmetic width x y to =
    extend (size_of width) x ADDRESS
    ++ (extend (size_of width) y to
    ++ (Operate (quad_operation arithmetic) ADDRESS (Register to) to
    ∷ (extend (size_of width) to ADDRESS ++ (Operate row.Cmpeq ADDRESS (Register to) to ∷ Operate row.Xor to (Literal 1) to ∷ []))))

-- for two values of the length
abbrev pub overflows : Arithmetic → Width → (a b : ℕ) → Bool
overflows Sum width a b = (sum_of (bytes_of (size_of width)) a b false).v
overflows Difference width a b = (difference_of (bytes_of (size_of width)) a b false).v

-- 1 where the low bytes of both registers overflow, else 0
abbrev pub IsOverflow : Arithmetic → Width → (x y : ℕ) → Regs → ℕ → Type 0
IsOverflow arithmetic width x y regs number =
    number ≡ bit (overflows arithmetic width (low (size_of width) (regs x)) (low (size_of width) (regs y)))

abbrev pub LeavesOverflow : Arithmetic → Width → (x y to : ℕ) → List AlphaInstr → Type 0
LeavesOverflow arithmetic width x y to words = (regs : Regs) → LeavesAt (IsOverflow arithmetic width x y regs) to words regs

-- the most words
abbrev pub most_overflow_words : Width → ℕ
most_overflow_words Byte = 9
most_overflow_words Word = 9
most_overflow_words Long = 6
