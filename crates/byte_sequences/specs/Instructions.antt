-- Which registers the sequences take and change.
use Rattle.std.specs.Prelude.{ℕ, ◌<◌, ◌==◌, ◌||◌, not, Bool, true, false}
use Rattle.alpha_encode.specs.declared.instr.MemoryOp.{MemoryOp}
use Rattle.alpha_encode.specs.declared.instr.MemoryOp.TheVariants.{Stb, Stw, Stl, Stq}
use Rattle.alpha_encode.specs.declared.instr.AlphaInstr.{AlphaInstr}
use Rattle.alpha_encode.specs.declared.instr.AlphaInstr.TheVariants.{Memory, Branch, Operate, Jump, Pal}
use Rattle.alpha_encode.specs.Registers.{ZERO}
use Rattle.alpha_encode.specs.declared.registers.TheConstants.{QUAD, BYTES, QUAD_ADDRESS}
use Rattle.alpha_meaning.specs.Act.{links}

-- R0 to R24 may hold the address and the value
pub record IsArgument (register : ℕ) : Type 0 where
  pub high : register < QUAD

-- R25 to R27 are scratch
abbrev pub is_scratch : ℕ → Bool
is_scratch register = register == QUAD || (register == BYTES || register == QUAD_ADDRESS)

-- the register for the value that was read, and scratch
abbrev pub is_scratch_or : (to register : ℕ) → Bool
is_scratch_or to register = register == to || is_scratch register

-- a store leaves its register as it is; a store conditional does not
abbrev pub is_store : MemoryOp → Bool
is_store Stb = true
is_store Stw = true
is_store Stl = true
is_store Stq = true
is_store op = false

-- a load, store, branch or operate instruction that writes no register but those that the test allows
abbrev pub writes_only : (may : ℕ → Bool) → AlphaInstr → Bool
writes_only may (Memory op ra rb disp) = is_store op || may ra
writes_only may (Branch op ra disp) = not (links op) || ra == ZERO
writes_only may (Operate op ra rb rc) = may rc
writes_only may (Jump ra rb) = false
writes_only may (Pal n) = false
