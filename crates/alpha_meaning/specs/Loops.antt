-- Operate instructions in a row, and loops of a load-locked access and a store conditional.
use Rattle.std.specs.Prelude.{ℕ, pos, negsuc, ◌+◌, ◌&&◌, Bool, true, false, List, [], ◌∷◌, ◌++◌, length}
use Rattle.alpha_encode.specs.declared.instr.MemoryOp.TheVariants.{LdqL, StqC}
use Rattle.alpha_encode.specs.declared.instr.BranchOp.TheVariants.{Beq}
use Rattle.alpha_encode.specs.declared.instr.AlphaInstr.{AlphaInstr}
use Rattle.alpha_encode.specs.declared.instr.AlphaInstr.TheVariants.{Memory, Branch, Operate}
use Rattle.alpha_encode.specs.Registers.{ZERO}
use Rattle.alpha_encode.specs.declared.registers.TheConstants.{QUAD, QUAD_ADDRESS}
use Rattle.alpha_meaning.specs.Result.{result_of}
use Rattle.alpha_meaning.specs.State.{Regs, put}
use Rattle.alpha_meaning.specs.Act.{second_value}

abbrev pub is_operate : AlphaInstr → Bool
is_operate (Operate op ra rb rc) = true
is_operate i = false

-- the register that an operate instruction writes
abbrev pub written : AlphaInstr → ℕ
written (Operate op ra rb rc) = rc
written i = ZERO

-- the registers behind an operate instruction, and behind a row of them
abbrev pub effect : AlphaInstr → Regs → Regs
effect (Operate op ra rb rc) f = put f rc (result_of op (f ra) (second_value rb f) (f rc))
effect i f = f

abbrev pub effects : List AlphaInstr → Regs → Regs
effects [] f = f
effects (i ∷ is) f = effects is (effect i f)

-- an operate instruction that writes only what the test allows
abbrev pub fine : (may : ℕ → Bool) → AlphaInstr → Bool
fine may i = is_operate i && may (written i)

-- The quadword at QUAD_ADDRESS is read into QUAD, changed there, and stored again, until the store succeeds.
-- Alpha Architecture Reference Manual, 5.5 "Data Sharing (Multiprocessor)", Atomic Update of a Single Datum.
abbrev pub retry : (middle : List AlphaInstr) → List AlphaInstr
retry middle = Memory LdqL QUAD QUAD_ADDRESS (pos 0) ∷ (middle ++ (Memory StqC QUAD QUAD_ADDRESS (pos 0) ∷ Branch Beq QUAD (negsuc (length middle + 2)) ∷ []))
